-- The Rejects so far are counted.
use Rattle.tcap_parts.specs.Meaning.{components_left}
use Rattle.tcap_faults.proofs.component_laws.ComponentFaultLaws.{AreRejects}
use Rattle.tcap_faults.proofs.component.component_faults.count_rejects.Given as goal

abbrev pub invariant-loop-component : goal.invariant-loop-component
invariant-loop-component l =
    AreRejects l.table (components_left l.fn.components) (components_left l.component-iterator) l.rejects
