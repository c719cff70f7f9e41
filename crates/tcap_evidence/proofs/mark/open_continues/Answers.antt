use Rattle.tcap_evidence.proofs.Common.{◌≡◌, false, sym, ap, ◌∙◌, entries_where, numbered_of, is_open_continue}
use Rattle.tcap_evidence.proofs.ListingLaws.{where_all, where_more, where_same}
use Rattle.tcap_evidence.proofs.MarkLaws.{none_open}
use Rattle.tcap_evidence.proofs.mark.open_continues.Goals.{then-has+in_ok-push, else-has}
use Rattle.tcap_evidence.proofs.mark.open_continues.Goals as goal

pub returns-then-prearranged : goal.returns-then-prearranged
returns-then-prearranged c = λ s table_is are.
    c.new-entries.ensures.items
    ∙ none_open s (ap (λ t. t.prearranged) table_is ∙ sym c.prearranged.ensures ∙ c.if-prearranged.true) s.own

pub loop-one-preserved : goal.loop-one-preserved
loop-one-preserved c = λ s table_is are.
    let unarranged : s.table.prearranged ≡ false =
    ap (λ t. t.prearranged) table_is ∙ sym c.prearranged.ensures ∙ c.if-prearranged.false in
    let is = c.has.ensures s (c.in_ok-halves.ensures s are) unarranged in
    elim c.if-has.branch [
      | then-has+in_ok-push w ↦ rw (w.entries-is, w.in_ok-push.ensures.items)
          (where_more c.deref-one-items.result.now c.loop-one.one-index c.one-item.result c.loop-one-test.true c.one-item.is
          (is_open_continue s) c.loop-one.entries.items (sym is ∙ w.if-has.true) (c.loop-one.invariant s table_is are))
      | else-has w ↦ rw w.entries-is
          (where_same c.deref-one-items.result.now c.loop-one.one-index c.one-item.result c.loop-one-test.true c.one-item.is
          (is_open_continue s) c.loop-one.entries.items (sym is ∙ w.if-has.false) (c.loop-one.invariant s table_is are))
    ]

pub returns : goal.returns
returns c = λ s table_is are.
    where_all c.deref-one-items.result.now c.loop-one.one-index (is_open_continue s) c.loop-one.entries.items
    c.loop-one-test.false (c.loop-one.invariant s table_is are)
    ∙ ap (λ xs. entries_where (is_open_continue s) (numbered_of xs)) c.deref-one-items.ensures.value
    ∙ ap (entries_where (is_open_continue s)) are.own
