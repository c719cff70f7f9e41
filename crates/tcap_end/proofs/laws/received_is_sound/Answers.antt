use Rattle.tcap_end.proofs.StepLaws.{receives}
use Rattle.tcap_end.proofs.laws.received_is_sound.Goals as goal

pub returns : goal.returns
returns c = λ table e next m sound is. (receives table e next m sound is).sound
