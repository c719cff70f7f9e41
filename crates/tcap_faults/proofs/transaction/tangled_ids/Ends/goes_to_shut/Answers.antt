use Rattle.std.proofs.Common.{ℕ, List, Bool, not, refl, sym, ap, ◌∙◌}
use Rattle.std.specs.List.{list_any}
use Rattle.tcap_faults.specs.ClosedHalves.{is_surely_open}
use Rattle.tcap_faults.specs.IdList.{ids_kept}
use Rattle.tcap_faults.proofs.transaction_laws.JoinedIdsLaws.{any_kept}
use Rattle.tcap_faults.proofs.dialogue_laws.OpenHalvesLaws.{any_first, any_last, any_next, first_where, others_so}
use Rattle.tcap_faults.proofs.transaction.tangled_ids.Ends.goes_to_shut.Goals as goal

pub returns-in_default : goal.returns-in_default
returns-in_default c = λ side items those own_is peer_is are.
    let shut : List ℕ → Bool = λ own. not (is_surely_open c.args.table.now side items own) in
    ap (λ first. list_any shut (ids_kept first c.args.ids.now.more.items)) (sym c.in_default.is)
    ∙ any_kept shut those c.args.ids.now are

pub returns-then-not-is_surely_open : goal.returns-then-not-is_surely_open
returns-then-not-is_surely_open c = λ side items those own_is peer_is are.
    let shut : List ℕ → Bool = λ own. not (is_surely_open c.args.table.now side items own) in
    first_where shut those c.args.ids.now are c.in-Some.first c.in-Some.is
    (ap not (sym (c.is_surely_open.ensures side items own_is peer_is) ∙ c.if-not-is_surely_open.true))

pub loop-id-init : goal.loop-id-init
loop-id-init c = λ side items own_is peer_is. refl

pub returns-then-not-is_surely_open-2 : goal.returns-then-not-is_surely_open-2
returns-then-not-is_surely_open-2 c = λ side items those own_is peer_is are.
    let shut : List ℕ → Bool = λ own. not (is_surely_open c.args.table.now side items own) in
    any_first shut _ c.loop-id.id-index (c.loop-id.invariant side items own_is peer_is) c.id-item.result
    c.loop-id-test.true c.id-item.is
    (ap not (sym (c.is_surely_open-in-loop-id.ensures side items own_is peer_is) ∙ c.if-not-is_surely_open-2.true))
    ∙ ap (list_any shut) c.deref-id-items.ensures.value
    ∙ others_so shut those c.args.ids.now are c.in-Some.first c.in-Some.is
    (ap not (sym (c.is_surely_open.ensures side items own_is peer_is) ∙ c.if-not-is_surely_open.false))

pub loop-id-preserved : goal.loop-id-preserved
loop-id-preserved c = λ side items own_is peer_is.
    any_next (λ own. not (is_surely_open c.args.table.now side items own)) _ c.loop-id.id-index
    (c.loop-id.invariant side items own_is peer_is) c.id-item.result c.loop-id-test.true c.id-item.is
    (ap not (sym (c.is_surely_open-in-loop-id.ensures side items own_is peer_is) ∙ c.if-not-is_surely_open-2.false))

pub returns : goal.returns
returns c = λ side items those own_is peer_is are.
    let shut : List ℕ → Bool = λ own. not (is_surely_open c.args.table.now side items own) in
    any_last shut _ c.loop-id.id-index (c.loop-id.invariant side items own_is peer_is) c.loop-id-test.false
    ∙ ap (list_any shut) c.deref-id-items.ensures.value
    ∙ others_so shut those c.args.ids.now are c.in-Some.first c.in-Some.is
    (ap not (sym (c.is_surely_open.ensures side items own_is peer_is) ∙ c.if-not-is_surely_open.false))
