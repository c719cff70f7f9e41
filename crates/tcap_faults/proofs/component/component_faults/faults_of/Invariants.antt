-- The faults of the components so far are found.
use Rattle.std.specs.Prelude.{option_map}
use Rattle.tcap_parts.specs.Meaning.{component_of, components_left}
use Rattle.tcap_msg.specs.Parts.{components_in}
use Rattle.tcap_faults.proofs.component_laws.ComponentFaultLaws.{IsReached}
use Rattle.tcap_faults.proofs.component.component_faults.faults_of.Given as goal

abbrev pub invariant-loop-component : goal.invariant-loop-component
invariant-loop-component g l =
    IsReached l.table l.half (components_in (g.M.MessageParts.meaning l.message))
    (components_left l.component-iterator) (option_map component_of l.last) l.own l.number l.faults
