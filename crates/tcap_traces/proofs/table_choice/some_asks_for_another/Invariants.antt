-- No entry so far fits, so the rest decides.
use Rattle.std.proofs.Common.{◌≡◌, drop}
use Rattle.std.specs.List.{list_any}
use Rattle.std.specs.Prelude.{option_copied}
use Rattle.tcap_traces.specs.TableChoice.{asks_for_another}
use Rattle.tcap_traces.proofs.table_choice.some_asks_for_another.Given as goal

abbrev pub invariant-loop-entry : goal.invariant-loop-entry
invariant-loop-entry l =
    list_any (asks_for_another l.book (option_copied l.table)) (drop l.entry-index l.entries)
    ≡ list_any (asks_for_another l.book (option_copied l.table)) l.entries
