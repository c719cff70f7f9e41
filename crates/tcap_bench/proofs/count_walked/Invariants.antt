use Rattle.std.proofs.Common.{◌≡◌, [], length}
use Rattle.tcap_ber.specs.WalkResult.{outer_at}
use Rattle.tcap_ber.specs.ResumedWalk.{resumes}
use Rattle.tcap_bench.specs.ElementLength.{whole_len}
use Rattle.tcap_bench.proofs.count_walked.Given as goal

-- the walk of the rest gives the answer for all octets, and `len` is the length in the answer so far
abbrev pub invariant-loop-len : goal.invariant-loop-len
invariant-loop-len l = (resumes l.walk l.rest ≡ outer_at l.octets) × (l.len ≡ whole_len (resumes l.walk []))

abbrev pub decreases-loop-len : goal.decreases-loop-len
decreases-loop-len l = length l.rest
