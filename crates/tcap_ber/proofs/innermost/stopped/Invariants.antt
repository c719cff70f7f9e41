use Rattle.std.proofs.Common.{◌≡◌, ◌+◌, length}
use Rattle.tcap_ber.specs.WalkResult.{at_first}
use Rattle.tcap_ber.specs.Progress.{IsPlaced}
use Rattle.tcap_ber.proofs.WalkLaws.{stops}
use Rattle.tcap_ber.proofs.innermost.stopped.Given as goal

abbrev pub invariant-loop-next : goal.invariant-loop-next
invariant-loop-next l =
    (stops at_first l.octets ≡ stops l.progress l.rest) × IsPlaced l.progress × (l.progress.depth ≡ 0 → l.progress.at ≡ 0) × (l.progress.at + length l.rest ≡ length l.octets)

abbrev pub decreases-loop-next : goal.decreases-loop-next
decreases-loop-next l = length l.rest
