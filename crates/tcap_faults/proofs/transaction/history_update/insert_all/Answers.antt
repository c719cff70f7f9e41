use Rattle.std.proofs.Common.{◌||◌, Some, bytes_eq, sym, ap, ◌∙◌, take}
use Rattle.std.specs.Prelude.{option_copied}
use Rattle.std.specs.BTreeSet as set
use Rattle.std.specs.List.{list_any}
use Rattle.tcap_end.specs.Table.{octets_cmp}
use Rattle.tcap_model.specs.Run.{option_then}
use Rattle.tcap_faults.specs.IdList.{AreAmong, ids_kept}
use Rattle.tcap_faults.specs.JoinedIds.{HasMore}
use Rattle.tcap_faults.proofs.transaction_laws.JoinedIdsLaws.{any_all, has_at_first, has_next, has_none, none_at_all}
use Rattle.tcap_faults.proofs.transaction_laws.KeyLaws.{set_more}
use Rattle.tcap_faults.proofs.transaction.history_update.insert_all.Goals as goal

pub loop-id-init : goal.loop-id-init
loop-id-init c =
    has_at_first (option_then (option_copied c.args.ids) (λ kept. kept.first)) c.in-Some-first.first
    (rw c.in-Some.is c.in-Some-first.is) c.deref-id-items.result.now c.args.set.now c.insert.new.self
    (set_more c.in-Some-first.first c.args.set.now c.insert.new.self
    (rw (c.to_transaction_id.ensures, c.view.ensures) at c.in_ok-insert.ensures.updates.0))

pub loop-id-preserved : goal.loop-id-preserved
loop-id-preserved c =
    has_next (option_then (option_copied c.args.ids) (λ kept. kept.first)) c.in-Some-first.first
    (rw c.in-Some.is c.in-Some-first.is) c.deref-id-items.result.now c.args.set.now c.loop-id.id-index c.id-item.result
    c.loop-id-test.true c.id-item.is c.loop-id.set _ c.loop-id.invariant
    (set_more c.id-item.result c.loop-id.set _
    (rw (c.to_transaction_id-in-loop-id.ensures, c.view-in-loop-id.ensures) at c.in_ok-insert-2.ensures.updates.0))

pub returns-after-loop-id : goal.returns-after-loop-id
returns-after-loop-id c = λ those are.
    let among : AreAmong those (Some c.in-Some.ids.now) = rw c.in-Some.is at are in
    let so_far : HasMore (λ id. list_any (bytes_eq id) (ids_kept c.in-Some.ids.now.first (take c.loop-id.id-index c.deref-id-items.result.now))) c.args.set.now c.loop-id.set =
    rw c.in-Some.is at c.loop-id.invariant in
    λ id. so_far id
    ∙ ap (λ b. set.contains octets_cmp c.args.set.now id || b)
    (any_all (bytes_eq id) c.in-Some.ids.now those c.deref-id-items.result.now c.loop-id.id-index
    c.deref-id-items.ensures.value c.loop-id-test.false among)

pub returns-in_default-first : goal.returns-in_default-first
returns-in_default-first c = λ those are.
    let among : AreAmong those (Some c.in-Some.ids.now) = rw c.in-Some.is at are in
    has_none _ c.args.set.now
    (λ id. none_at_all (bytes_eq id) c.in-Some.ids.now those (sym c.in_default-first.is) among)
