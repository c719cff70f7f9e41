-- No entry so far fits, so the rest decides.
use Rattle.std.proofs.Common.{◌≡◌, drop}
use Rattle.std.specs.List.{list_any}
use Rattle.tcap_traces.specs.Verdict.{is_of}
use Rattle.tcap_traces.proofs.judging.has_own.Given as goal

abbrev pub invariant-loop-entry : goal.invariant-loop-entry
invariant-loop-entry l = list_any (is_of l.end) (drop l.entry-index l.entries) ≡ list_any (is_of l.end) l.entries
