use Rattle.std.proofs.Common.{length, ap, ◌∙◌, rules}
use Rattle.tcap_ber.specs.Reading.{span}
use Rattle.tcap_ber.proofs.EachLoopLaws.{not_read, not_empty, is_empty}
use Rattle.tcap_parts.specs.Meaning.{component_of}
use Rattle.tcap_parts.specs.Reading.{components_at}
use Rattle.tcap_parts.proofs.PortionLaws.{components_fault, left_end, left_step, rest_is_read}
use Rattle.tcap_parts.proofs.components.OctetComponentsIterator.next.Goals as goal

pub returns-then-is_empty-clause-steps : goal.returns-then-is_empty-clause-steps
returns-then-is_empty-clause-steps c =
    let none = left_end (span c.args.self.now.rest) (is_empty (length c.args.self.now.rest.octets.now) c.is_empty.result c.is_empty.ensures c.if-is_empty.true) in
    (none, none)

pub unreachable-requires : goal.unreachable-requires
unreachable-requires c =
    let some = not_empty (length c.args.self.now.rest.octets.now) c.is_empty.result c.is_empty.ensures c.if-is_empty.false in
    not_read (components_at (span c.args.self.now.rest)) c.in_default.field-0 c.args.self.now.whole (components_fault (span c.args.self.now.rest) c.in_default.field-0 some c.in_default.ensures.exact)

pub invariant_of-self : goal.invariant_of-self
invariant_of-self c =
    let some = not_empty (length c.args.self.now.rest.octets.now) c.is_empty.result c.is_empty.ensures c.if-is_empty.false in
    record { whole = rest_is_read (span c.args.self.now.rest) (component_of c.in-Ok.component) (span c.in-Ok.rest) some c.in-Ok.ensures.exact ∙ c.args.self.now.whole }

pub returns-clause-steps : goal.returns-clause-steps
returns-clause-steps c =
    let some = not_empty (length c.args.self.now.rest.octets.now) c.is_empty.result c.is_empty.ensures c.if-is_empty.false in
    left_step (span c.args.self.now.rest) (component_of c.in-Ok.component) (span c.in-Ok.rest) some c.in-Ok.ensures.exact c.args.self.now.whole

pub returns-clause-goes : goal.returns-clause-goes
returns-clause-goes c =
    let some = not_empty (length c.args.self.now.rest.octets.now) c.is_empty.result c.is_empty.ensures c.if-is_empty.false in
    let step = left_step (span c.args.self.now.rest) (component_of c.in-Ok.component) (span c.in-Ok.rest) some c.in-Ok.ensures.exact c.args.self.now.whole in
    let shorter = ap length step in search rules
