use Rattle.std.specs.Prelude.{option_map}
use Rattle.tcap_parts.specs.Meaning.{component_of, components_left}
use Rattle.tcap_msg.specs.Parts.{components_in}
use Rattle.tcap_faults.proofs.component_laws.ComponentFaultLaws.{all_found, none_found, one_reached}
use Rattle.tcap_faults.proofs.component.component_faults.faults_of.Goals as goal

pub loop-component-init : goal.loop-component-init
loop-component-init g c =
    rw (c.into_iter-component-iterator.ensures.into_iter_gives, c.components-component-items.ensures)
    (none_found c.args.table.now c.args.half.now (components_in (g.M.MessageParts.meaning c.args.message.now))
    c.new-own.result c.none-faults.result (c.new-own.ensures c.args.table.now) c.none-faults.ensures)

pub loop-component-preserved : goal.loop-component-preserved
loop-component-preserved g c =
    let reached = c.loop-component.invariant in
    one_reached c.args.table.now c.args.half.now c.note_last.new.own c.in_ok-rejects.rejects
    (components_in (g.M.MessageParts.meaning c.args.message.now)) (components_left c.loop-component.component-iterator)
    (components_left c.next.new.self) (option_map component_of c.loop-component.last) (component_of c.in-Some.component)
    c.loop-component.own c.loop-component.number c.loop-component.faults c.with-faults.result reached
    c.in-Some.ensures.steps (c.in_ok-note_last.ensures reached.done reached.noted)
    (rw c.components.ensures at c.in_ok-rejects.ensures) c.with-faults.ensures

pub returns : goal.returns
returns g c =
    all_found c.args.table.now c.args.half.now (components_in (g.M.MessageParts.meaning c.args.message.now))
    (option_map component_of c.loop-component.last) c.loop-component.own c.loop-component.number c.loop-component.faults
    (rw c.in-None.ensures.steps.0 at c.loop-component.invariant)
