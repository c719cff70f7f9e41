-- The count so far, and that of the rest, make the whole.
use Rattle.std.proofs.Common.{◌≡◌, ◌≤◌, ◌+◌, length}
use Rattle.tcap_judge.specs.EndFindings.{lost_of}
use Rattle.tcap_judge.proofs.each_end.count_lost.Given as goal

abbrev pub invariant-loop-entries : goal.invariant-loop-entries
invariant-loop-entries l = record {
  counted : l.count + lost_of l.end l.fates l.entries ≡ lost_of l.end l.fn.fates l.fn.entries;
  bound : l.count + length l.entries ≤ length l.fn.entries;
}

abbrev pub decreases-loop-entries : goal.decreases-loop-entries
decreases-loop-entries l = length l.entries
