use Rattle.tcap_evidence.proofs.Common.{sym, ◌∙◌, to_z-of_z}
use Rattle.tcap_evidence.proofs.ListingLaws.{sorted_all, sorted_more, sorted_same}
use Rattle.tcap_evidence.proofs.listing.push_sorted.Goals.{then-is_sort+in_ok-push, else-is_sort}
use Rattle.tcap_evidence.proofs.listing.push_sorted.Goals as goal

pub loop-component-preserved : goal.loop-component-preserved
loop-component-preserved c =
    elim c.if-is_sort.branch [
      | then-is_sort+in_ok-push w ↦ rw (w.entries-is, w.in_ok-push.ensures.items)
          (sorted_more _ c.args.number c.args.components.now c.loop-component.component-index c.component-item.result
          c.loop-component-test.true c.component-item.is c.loop-component.entries.items (sym c.is_sort.ensures ∙ w.if-is_sort.true)
          c.loop-component.invariant)
      | else-is_sort w ↦ rw w.entries-is
          (sorted_same _ c.args.number c.args.components.now c.loop-component.component-index c.component-item.result
          c.loop-component-test.true c.component-item.is c.loop-component.entries.items (sym c.is_sort.ensures ∙ w.if-is_sort.false)
          c.loop-component.invariant)
    ]

pub returns : goal.returns
returns c =
    rw (to_z-of_z c.ranges.id) at
    (sorted_all _ c.args.number c.args.components.now c.loop-component.component-index c.loop-component.entries.items
    c.loop-component-test.false c.loop-component.invariant)
