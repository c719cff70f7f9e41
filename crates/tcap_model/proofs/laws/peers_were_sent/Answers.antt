use Rattle.tcap_model.proofs.PeerLaws.{knows}
use Rattle.tcap_model.proofs.laws.peers_were_sent.Goals as goal

pub returns : goal.returns
returns c table events w side f runs had = (knows table events w side f runs had).peer
