use Rattle.std.proofs.Common.{refl, sym, ap, ◌∙◌}
use Rattle.std.specs.List.{list_any}
use Rattle.tcap_faults.specs.SentToId.{has_ended}
use Rattle.tcap_faults.proofs.transaction_laws.JoinedIdsLaws.{none_at_all}
use Rattle.tcap_faults.proofs.dialogue_laws.OpenHalvesLaws.{any_first, any_last, any_next, first_where, others_so}
use Rattle.tcap_faults.proofs.transaction.history.SideFacts.ended_one.Goals as goal

pub returns-in_default : goal.returns-in_default
returns-in_default c = λ table side items those was are.
    sym (none_at_all (has_ended side items) c.args.ids.now those (sym c.in_default.is) are)

pub returns-then-has_ended : goal.returns-then-has_ended
returns-then-has_ended c = λ table side items those was are.
    first_where (has_ended side items) those c.args.ids.now are c.in-Some.first c.in-Some.is
    (sym (c.has_ended.ensures table side items was) ∙ c.if-has_ended.true)

pub loop-id-init : goal.loop-id-init
loop-id-init c = λ table side items was. refl

pub returns-then-has_ended-2 : goal.returns-then-has_ended-2
returns-then-has_ended-2 c = λ table side items those was are.
    any_first (has_ended side items) _ c.loop-id.id-index (c.loop-id.invariant table side items was) c.id-item.result
    c.loop-id-test.true c.id-item.is
    (sym (c.has_ended-in-loop-id.ensures table side items was) ∙ c.if-has_ended-2.true)
    ∙ ap (list_any (has_ended side items)) c.deref-id-items.ensures.value
    ∙ others_so (has_ended side items) those c.args.ids.now are c.in-Some.first c.in-Some.is
    (sym (c.has_ended.ensures table side items was) ∙ c.if-has_ended.false)

pub loop-id-preserved : goal.loop-id-preserved
loop-id-preserved c = λ table side items was.
    any_next (has_ended side items) _ c.loop-id.id-index (c.loop-id.invariant table side items was) c.id-item.result
    c.loop-id-test.true c.id-item.is
    (sym (c.has_ended-in-loop-id.ensures table side items was) ∙ c.if-has_ended-2.false)

pub returns : goal.returns
returns c = λ table side items those was are.
    any_last (has_ended side items) _ c.loop-id.id-index (c.loop-id.invariant table side items was) c.loop-id-test.false
    ∙ ap (list_any (has_ended side items)) c.deref-id-items.ensures.value
    ∙ others_so (has_ended side items) those c.args.ids.now are c.in-Some.first c.in-Some.is
    (sym (c.has_ended.ensures table side items was) ∙ c.if-has_ended.false)
