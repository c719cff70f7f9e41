-- The entries so far and those of the remaining messages are all.
use Rattle.tcap_evidence.proofs.Common.{◌≡◌, ◌++◌, drop, passes, entries_where, numbered_of}
use Rattle.tcap_evidence.proofs.listing.entries_where.Given as goal

abbrev pub invariant-loop-one : goal.invariant-loop-one
invariant-loop-one l =
    l.entries.items ++ entries_where (passes l.test) (numbered_of (drop l.one-index l.sent))
    ≡ entries_where (passes l.test) (numbered_of l.sent)
