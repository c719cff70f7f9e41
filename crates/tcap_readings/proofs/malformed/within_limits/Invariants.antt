-- The entries so far are within the limits, so the rest decides.
use Rattle.std.proofs.Common.{◌≡◌, ◌++◌, drop, not, take}
use Rattle.std.specs.Prelude.{take_while}
use Rattle.tcap_readings.specs.Malformed.{is_over_limit}
use Rattle.tcap_readings.proofs.malformed.within_limits.Given as goal

abbrev pub invariant-loop-entry : goal.invariant-loop-entry
invariant-loop-entry l = record {
  count : l.count ≡ l.entry-index;
  rest : take l.entry-index l.entries ++ take_while (λ entry. not (is_over_limit entry)) (drop l.entry-index l.entries)
      ≡ take_while (λ entry. not (is_over_limit entry)) l.entries;
}
