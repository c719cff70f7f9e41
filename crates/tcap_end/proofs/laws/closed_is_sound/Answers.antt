use Rattle.tcap_end.proofs.StepLaws.{closes}
use Rattle.tcap_end.proofs.laws.closed_is_sound.Goals as goal

pub returns : goal.returns
returns c = λ table e next name sound is. (closes table e next name sound is).sound
