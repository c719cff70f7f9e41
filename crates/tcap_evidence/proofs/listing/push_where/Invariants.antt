-- The messages so far and those among the remaining ones are all.
use Rattle.tcap_evidence.proofs.Common.{◌≡◌, ◌++◌, drop, filter, passes, numbered_of}
use Rattle.tcap_evidence.proofs.listing.push_where.Given as goal

abbrev pub invariant-loop-one : goal.invariant-loop-one
invariant-loop-one l =
    numbered_of l.kept.items ++ filter (λ n. passes l.test n.1) (numbered_of (drop l.one-index l.sent))
    ≡ numbered_of l.fn.kept.items ++ filter (λ n. passes l.test n.1) (numbered_of l.sent)
