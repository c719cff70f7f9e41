use Rattle.tcap_end.proofs.StepLaws.{expires}
use Rattle.tcap_end.proofs.laws.expired_is_sound.Goals as goal

pub returns : goal.returns
returns c = λ table e next name id sound is. (expires table e next name id sound is).sound
