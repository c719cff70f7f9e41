-- The result is the first among the remaining messages.
use Rattle.tcap_evidence.proofs.Common.{◌≡◌, drop, find, passes, numbered_of}
use Rattle.tcap_evidence.proofs.listing.first_where.Given as goal

abbrev pub invariant-loop-one : goal.invariant-loop-one
invariant-loop-one l =
    find (λ n. passes l.test n.1) (numbered_of (drop l.one-index l.sent))
    ≡ find (λ n. passes l.test n.1) (numbered_of l.sent)
