-- No entry so far is malformed, so the rest decides.
use Rattle.std.proofs.Common.{◌≡◌, ◌+◌, ◌<◌, suc, drop, length}
use Rattle.std.specs.List.{position_from}
use Rattle.tcap_readings.specs.Malformed.{is_malformed_of}
use Rattle.tcap_readings.proofs.malformed.next_malformed.Given as goal

abbrev pub invariant-loop-entry : goal.invariant-loop-entry
invariant-loop-entry l = record {
  rest : position_from (is_malformed_of l.end) (suc l.at) (drop l.entry-index l.rest)
      ≡ position_from (is_malformed_of l.end) (suc l.after) l.rest;
  few : l.at + length (drop l.entry-index l.rest) < length l.entries;
}
