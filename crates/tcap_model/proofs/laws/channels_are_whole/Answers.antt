use Rattle.tcap_model.proofs.ChannelLaws.{are_whole}
use Rattle.tcap_model.proofs.laws.channels_are_whole.Goals as goal

pub returns : goal.returns
returns c = λ table events w side is. are_whole table events w is side
