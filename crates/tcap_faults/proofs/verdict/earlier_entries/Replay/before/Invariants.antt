-- The history is of the entries so far, and the entry with this number is not among them.
use Rattle.std.specs.Prelude.{◌≤◌}
use Rattle.tcap_faults.specs.Replay.{IsReplayed}
use Rattle.tcap_faults.proofs.verdict.earlier_entries.Replay.before.Given as goal

abbrev pub invariant-loop-place : goal.invariant-loop-place
invariant-loop-place l = record {
  so_far : IsReplayed l.table l.end l.record.entries.items l.place l.replay;
  below : l.place ≤ l.number;
}
