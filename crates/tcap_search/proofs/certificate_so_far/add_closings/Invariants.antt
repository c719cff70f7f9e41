-- the closings so far
use Rattle.std.proofs.Common.{◌≡◌, ◌++◌, map, take}
use Rattle.tcap_search.specs.ProposedCertificate.{closing_after}
use Rattle.tcap_search.proofs.certificate_so_far.add_closings.Given as goal

abbrev pub invariant-loop-x : goal.invariant-loop-x
invariant-loop-x l = l.close.items ≡ l.initial.close.items ++ map (closing_after l.first) (take l.x-index l.more)
