-- No entry so far is malformed, so the rest decides.
use Rattle.std.proofs.Common.{◌≡◌, ◌≤◌, drop}
use Rattle.std.specs.List.{position_from}
use Rattle.tcap_readings.specs.Malformed.{is_malformed_of}
use Rattle.tcap_readings.proofs.malformed.first_malformed.Given as goal

abbrev pub invariant-loop-entry : goal.invariant-loop-entry
invariant-loop-entry l = record {
  rest : position_from (is_malformed_of l.end) l.at (drop l.entry-index l.entries)
      ≡ position_from (is_malformed_of l.end) 0 l.entries;
  few : l.at ≤ l.entry-index;
}
