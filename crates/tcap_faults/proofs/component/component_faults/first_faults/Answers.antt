use Rattle.tcap_parts.specs.Meaning.{component_of, components_left}
use Rattle.tcap_msg.specs.Parts.{components_in}
use Rattle.tcap_faults.proofs.component_laws.ComponentFaultLaws.{first_all, first_none, first_one}
use Rattle.tcap_faults.proofs.component.component_faults.first_faults.Goals as goal

pub loop-component-init : goal.loop-component-init
loop-component-init g c =
    rw (c.into_iter-component-iterator.ensures.into_iter_gives, c.components-component-items.ensures)
    (first_none (components_in (g.M.MessageParts.meaning c.args.message.now)) c.new-ids.result c.none-faults.result
    c.new-ids.ensures.empty c.none-faults.ensures)

pub loop-component-preserved : goal.loop-component-preserved
loop-component-preserved g c =
    first_one (components_in (g.M.MessageParts.meaning c.args.message.now))
    (components_left c.loop-component.component-iterator) (components_left c.next.new.self)
    (component_of c.in-Some.component) c.loop-component.ids c.note_first.new.ids c.loop-component.number
    c.loop-component.faults c.note_first.new.self c.in_ok-note_first.ensures c.in-Some.ensures.steps c.loop-component.invariant

pub returns : goal.returns
returns g c =
    first_all (components_in (g.M.MessageParts.meaning c.args.message.now)) c.loop-component.ids c.loop-component.number
    c.loop-component.faults (rw c.in-None.ensures.steps.0 at c.loop-component.invariant)
