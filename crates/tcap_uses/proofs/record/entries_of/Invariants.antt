-- The octets are those of the entries that were taken and of those that wait.
use Rattle.std.proofs.Common.{◌≡◌, ◌++◌, [], length}
use Rattle.tcap_record.specs.FeederState.{IsFedSoFar}
use Rattle.tcap_uses.proofs.record.entries_of.Given as goal

abbrev pub invariant-loop-entry : goal.invariant-loop-entry
invariant-loop-entry l = (l.feeder.held.octets ≡ []) × IsFedSoFar (l.first ++ l.second) l.entries.items l.feeder

abbrev pub decreases-loop-entry : goal.decreases-loop-entry
decreases-loop-entry l = length l.feeder.waiting
