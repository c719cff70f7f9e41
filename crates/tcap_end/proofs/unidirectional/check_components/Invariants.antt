-- The used IDs are those so far, and the result is that of the remaining components.
use Rattle.tcap_parts.specs.Meaning.{components_left}
use Rattle.tcap_end.proofs.UniLaws.{Uni}
use Rattle.tcap_end.proofs.unidirectional.check_components.Given as goal

abbrev pub invariant-loop-component : goal.invariant-loop-component
invariant-loop-component l = Uni l.table (components_left l.fn.components) l.used.entries (components_left l.component-iterator)
