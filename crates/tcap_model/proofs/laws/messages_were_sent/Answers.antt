use Rattle.tcap_model.proofs.ChannelLaws.{were_sent}
use Rattle.tcap_model.proofs.laws.messages_were_sent.Goals as goal

pub returns : goal.returns
returns c = λ table events w side is. were_sent table events w is side
