use Rattle.tcap_end.proofs.EndLaws.{nothing_sound}
use Rattle.tcap_end.proofs.laws.nothing_is_sound.Goals as goal

pub returns : goal.returns
returns c = nothing_sound
