-- No entry so far fits, so the rest decides.
use Rattle.std.proofs.Common.{◌≡◌, drop}
use Rattle.std.specs.List.{list_any}
use Rattle.tcap_msg.specs.Meaning.{id_of}
use Rattle.tcap_readings.specs.Reactions.{joins}
use Rattle.tcap_readings.proofs.transaction.some_join.Given as goal

abbrev pub invariant-loop-entry : goal.invariant-loop-entry
invariant-loop-entry l =
    list_any (joins l.malformed (id_of l.id)) (drop l.entry-index l.entries)
    ≡ list_any (joins l.malformed (id_of l.id)) l.entries
