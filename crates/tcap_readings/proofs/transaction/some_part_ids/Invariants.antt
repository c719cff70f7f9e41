-- No entry so far fits, so the rest decides.
use Rattle.std.proofs.Common.{◌≡◌, drop}
use Rattle.std.specs.List.{list_any}
use Rattle.tcap_readings.specs.Reactions.{parts_ids}
use Rattle.tcap_readings.proofs.transaction.some_part_ids.Given as goal

abbrev pub invariant-loop-entry : goal.invariant-loop-entry
invariant-loop-entry l =
    list_any (parts_ids l.malformed) (drop l.entry-index l.entries) ≡ list_any (parts_ids l.malformed) l.entries
