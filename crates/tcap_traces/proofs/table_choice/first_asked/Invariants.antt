-- No entry so far asks, so the rest decides.
use Rattle.std.proofs.Common.{◌≡◌, drop}
use Rattle.tcap_traces.specs.TableChoice.{first_asked}
use Rattle.tcap_traces.proofs.table_choice.first_asked.Given as goal

abbrev pub invariant-loop-entry : goal.invariant-loop-entry
invariant-loop-entry l = first_asked (drop l.entry-index l.entries) ≡ first_asked l.entries
