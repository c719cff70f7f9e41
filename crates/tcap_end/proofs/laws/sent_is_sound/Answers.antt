use Rattle.tcap_end.proofs.StepLaws.{sends}
use Rattle.tcap_end.proofs.laws.sent_is_sound.Goals as goal

pub returns : goal.returns
returns c = λ table e next m sound is. (sends table e next m sound is).sound
