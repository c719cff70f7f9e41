-- The messages so far and the remaining ones, with the first in its place, are all.
use Rattle.tcap_evidence.proofs.Common.{◌≡◌, ◌++◌, drop, inserted, numbered_of}
use Rattle.tcap_evidence.proofs.ListingLaws.{placed}
use Rattle.tcap_evidence.proofs.listing.in_order.Given as goal

abbrev pub invariant-loop-one : goal.invariant-loop-one
invariant-loop-one l =
    numbered_of l.ordered.items ++ placed l.has_come (l.first.number, l.first.message.now) (numbered_of (drop l.one-index l.more))
    ≡ inserted (l.first.number, l.first.message.now) (numbered_of l.more)
