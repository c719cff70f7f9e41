-- The entries so far and those of the remaining messages are all.
use Rattle.tcap_evidence.proofs.Common.{◌≡◌, ◌++◌, drop, is_sort, numbered_of}
use Rattle.tcap_evidence.specs.NumberedMessages.{entries_with}
use Rattle.tcap_evidence.proofs.listing.entries_with.Given as goal

abbrev pub invariant-loop-one : goal.invariant-loop-one
invariant-loop-one l =
    l.entries.items ++ entries_with (is_sort l.table l.id l.sort) (numbered_of (drop l.one-index l.sent))
    ≡ entries_with (is_sort l.table l.id l.sort) (numbered_of l.sent)
