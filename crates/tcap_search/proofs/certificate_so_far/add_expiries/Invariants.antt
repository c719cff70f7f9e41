-- the expiries so far
use Rattle.std.proofs.Common.{◌≡◌, ◌++◌, map, take}
use Rattle.tcap_search.specs.ProposedCertificate.{expiry_after}
use Rattle.tcap_search.proofs.certificate_so_far.add_expiries.Given as goal

abbrev pub invariant-loop-x : goal.invariant-loop-x
invariant-loop-x l = l.expire.items ≡ l.initial.expire.items ++ map (expiry_after l.first) (take l.x-index l.more)
