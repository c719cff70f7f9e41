-- the fates so far
use Rattle.std.proofs.Common.{◌≡◌, ◌++◌, map, take}
use Rattle.tcap_search.specs.ProposedCertificate.{fate_after}
use Rattle.tcap_search.proofs.certificate_so_far.add_fates.Given as goal

abbrev pub invariant-loop-fate : goal.invariant-loop-fate
invariant-loop-fate l = l.fates.items ≡ l.initial.fates.items ++ map (fate_after l.first) (take l.fate-index l.more)
