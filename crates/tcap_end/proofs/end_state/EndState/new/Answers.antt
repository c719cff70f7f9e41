use Rattle.tcap_end.proofs.EndLaws.{nothing_sound}
use Rattle.tcap_end.proofs.end_state.EndState.new.Goals as goal

pub invariant_of-result : goal.invariant_of-result
invariant_of-result c = (c.new.ensures.held, c.new.ensures.placed, rw (c.new.ensures.nothing) nothing_sound)
