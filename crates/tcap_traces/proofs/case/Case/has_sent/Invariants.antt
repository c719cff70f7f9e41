-- No entry so far is of the end, so the rest decides.
use Rattle.std.proofs.Common.{◌≡◌, drop}
use Rattle.tcap_traces.specs.Segments.{sends_one}
use Rattle.tcap_traces.proofs.case.Case.has_sent.Given as goal

abbrev pub invariant-loop-entry : goal.invariant-loop-entry
invariant-loop-entry l = sends_one l.«end» (drop l.entry-index l.self.entries.items) ≡ sends_one l.«end» l.self.entries.items
