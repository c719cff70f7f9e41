use Rattle.tcap_end.proofs.EndLaws.{quiet_sound}
use Rattle.tcap_end.proofs.laws.quieted_is_sound.Goals as goal

pub returns : goal.returns
returns c = quiet_sound
