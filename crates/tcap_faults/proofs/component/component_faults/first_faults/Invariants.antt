-- The faults of the components so far are found.
use Rattle.tcap_parts.specs.Meaning.{components_left}
use Rattle.tcap_msg.specs.Parts.{components_in}
use Rattle.tcap_faults.proofs.component_laws.ComponentFaultLaws.{IsFirstSoFar}
use Rattle.tcap_faults.proofs.component.component_faults.first_faults.Given as goal

abbrev pub invariant-loop-component : goal.invariant-loop-component
invariant-loop-component g l =
    IsFirstSoFar (components_in (g.M.MessageParts.meaning l.message)) (components_left l.component-iterator) l.ids l.number
    l.faults
