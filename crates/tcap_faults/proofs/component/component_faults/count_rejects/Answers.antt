use Rattle.std.proofs.Common.{refl}
use Rattle.tcap_parts.specs.Meaning.{component_of, components_left}
use Rattle.tcap_faults.proofs.component_laws.ComponentFaultLaws.{no_rejects, one_reject}
use Rattle.tcap_faults.proofs.component.component_faults.count_rejects.Goals as goal

pub loop-component-init : goal.loop-component-init
loop-component-init c =
    rw c.into_iter-component-iterator.ensures.into_iter_gives
    (no_rejects c.args.table.now (components_left c.args.components) c.new-rejects.result
    (c.new-rejects.ensures c.args.table.now))

pub loop-component-preserved : goal.loop-component-preserved
loop-component-preserved c =
    one_reject c.args.table.now (components_left c.args.components)
    (components_left c.loop-component.component-iterator) (components_left c.next.new.self)
    (component_of c.in-Some.component) c.loop-component.rejects c.loop-component.invariant c.in-Some.ensures.steps
    c.note.new.self (rw c.in-Reject.is refl) (c.in_ok-note.ensures _ c.loop-component.invariant.noted)
