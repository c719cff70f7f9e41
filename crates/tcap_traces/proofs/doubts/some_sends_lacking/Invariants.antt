-- No entry so far fits, so the rest decides.
use Rattle.std.proofs.Common.{◌≡◌, drop, map}
use Rattle.std.specs.List.{list_any}
use Rattle.tcap_model.specs.Entries.{item_of}
use Rattle.tcap_traces.specs.Verdict.{sends_lacking}
use Rattle.tcap_traces.proofs.doubts.some_sends_lacking.Given as goal

abbrev pub invariant-loop-entry : goal.invariant-loop-entry
invariant-loop-entry l =
    list_any (sends_lacking l.table l.end l.id) (map item_of (drop l.entry-index l.before))
    ≡ list_any (sends_lacking l.table l.end l.id) (map item_of l.before)
