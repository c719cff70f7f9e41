-- The history is of the entries so far that matter, and the entry with this number is not among them.
use Rattle.std.specs.Prelude.{◌≤◌}
use Rattle.tcap_faults.specs.RelevantItems.{IsNotedFor}
use Rattle.tcap_faults.proofs.transaction.history.Facts.for_half.Given as goal

abbrev pub invariant-loop-place : goal.invariant-loop-place
invariant-loop-place l = record {
  so_far : IsNotedFor l.table l.side l.id.octets.now l.record.entries.items l.place l.kept;
  below : l.place ≤ l.number;
}
