use Rattle.tcap_model.proofs.ChannelLaws.{in_order}
use Rattle.tcap_model.proofs.laws.channels_are_in_order.Goals as goal

pub returns : goal.returns
returns c = λ table events w side is. in_order table events w is side
