-- The count so far and that of the rest add up.
use Rattle.std.proofs.Common.{◌≡◌, ◌+◌, ◌≤◌, drop}
use Rattle.std.specs.Prelude.{count_by}
use Rattle.tcap_readings.specs.Reactions.{begins_from}
use Rattle.tcap_readings.proofs.transaction.count_begins.Given as goal

abbrev pub invariant-loop-entry : goal.invariant-loop-entry
invariant-loop-entry l = record {
  sum : l.count + count_by (begins_from l.malformed) (drop l.entry-index l.entries)
      ≡ count_by (begins_from l.malformed) l.entries;
  few : l.count ≤ l.entry-index;
}
