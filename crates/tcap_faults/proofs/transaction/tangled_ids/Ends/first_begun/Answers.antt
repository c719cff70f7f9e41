use Rattle.std.proofs.Common.{ℕ, Bool, List, Some, refl, sym, ap, ◌∙◌}
use Rattle.std.specs.List.{find}
use Rattle.tcap_faults.specs.SentToId.{began}
use Rattle.tcap_faults.proofs.transaction_laws.IdListLaws.{found_first, found_later, found_nothing, left_here, left_nothing, left_on}
use Rattle.tcap_faults.proofs.transaction.tangled_ids.Ends.first_begun.Goals as goal

pub returns-in_default : goal.returns-in_default
returns-in_default c = λ table side items those was are.
    found_nothing (λ own. began side own items) those c.args.ids.now are (sym c.in_default.is)

pub returns-then-began : goal.returns-then-began
returns-then-began c = λ table side items those was are.
    ap Some (c.to_transaction_id.ensures ∙ c.view.ensures)
    ∙ found_first (λ own. began side own items) those c.args.ids.now are c.in-Some.first c.in-Some.is
    (sym (c.began.ensures table side items was) ∙ c.if-began.true)

pub loop-id-init : goal.loop-id-init
loop-id-init c = λ table side items was. refl

pub returns-then-began-2 : goal.returns-then-began-2
returns-then-began-2 c = λ table side items those was are.
    let begun : List ℕ → Bool = λ own. began side own items in
    ap Some (c.to_transaction_id-then-began-2.ensures ∙ c.view-then-began-2.ensures)
    ∙ sym (left_here begun c.deref-id-items.result.now c.loop-id.id-index c.id-item.result c.loop-id-test.true c.id-item.is
    (sym (c.began-in-loop-id.ensures table side items was) ∙ c.if-began-2.true))
    ∙ c.loop-id.invariant table side items was
    ∙ ap (find begun) c.deref-id-items.ensures.value
    ∙ found_later begun those c.args.ids.now are c.in-Some.first c.in-Some.is
    (sym (c.began.ensures table side items was) ∙ c.if-began.false)

pub loop-id-preserved : goal.loop-id-preserved
loop-id-preserved c = λ table side items was.
    sym (left_on (λ own. began side own items) c.deref-id-items.result.now c.loop-id.id-index c.id-item.result
    c.loop-id-test.true c.id-item.is (sym (c.began-in-loop-id.ensures table side items was) ∙ c.if-began-2.false))
    ∙ c.loop-id.invariant table side items was

pub returns : goal.returns
returns c = λ table side items those was are.
    let begun : List ℕ → Bool = λ own. began side own items in
    sym (left_nothing begun c.deref-id-items.result.now c.loop-id.id-index c.loop-id-test.false)
    ∙ c.loop-id.invariant table side items was
    ∙ ap (find begun) c.deref-id-items.ensures.value
    ∙ found_later begun those c.args.ids.now are c.in-Some.first c.in-Some.is
    (sym (c.began.ensures table side items was) ∙ c.if-began.false)
