use Rattle.tcap_model.proofs.RunLaws.{sound}
use Rattle.tcap_model.proofs.laws.ends_are_sound.Goals as goal

pub returns : goal.returns
returns c = λ table events w side is. sound table events w is side
