use Rattle.std.proofs.Common.{◌≡◌, ◌++◌, ℕ, List, length}
use Rattle.tcap_ber.specs.ResumedWalk.{resumes}
use Rattle.tcap_ber.proofs.walk.Walk.go_on.Given as goal

abbrev pub invariant-loop-rest : goal.invariant-loop-rest
invariant-loop-rest l = (more : List ℕ) → resumes l.walk (l.rest ++ more) ≡ resumes l.initial.self (l.octets ++ more)

abbrev pub decreases-loop-rest : goal.decreases-loop-rest
decreases-loop-rest l = length l.rest
