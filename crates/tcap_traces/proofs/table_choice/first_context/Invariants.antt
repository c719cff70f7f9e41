-- No message so far has a context, so the rest decides.
use Rattle.std.proofs.Common.{◌≡◌, drop}
use Rattle.tcap_traces.specs.TableChoice.{first_context}
use Rattle.tcap_traces.proofs.table_choice.first_context.Given as goal

abbrev pub invariant-loop-entry : goal.invariant-loop-entry
invariant-loop-entry l = first_context (drop l.entry-index l.entries) ≡ first_context l.entries
