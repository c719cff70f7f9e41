-- The step of all components is that of the rest from the current half, and the changes still undo what they undid.
use Rattle.tcap_parts.specs.Meaning.{components_left}
use Rattle.tcap_end.specs.HalfState.{half_of}
use Rattle.tcap_end.proofs.RoundLaws.{Going, KeepsParts}
use Rattle.tcap_end.proofs.half_state.HalfState.step_noted.Given as goal

abbrev pub invariant-loop-component : goal.invariant-loop-component
invariant-loop-component l =
    Going l.way l.table (half_of l.fn.self) (components_left l.fn.components) (half_of l.self) (components_left l.component-iterator)
    × KeepsParts l.fn.self l.fn.changes l.self l.changes
