-- The IDs so far and those of the remaining entries are all IDs.
use Rattle.std.proofs.Common.{◌≡◌, ◌++◌, drop}
use Rattle.tcap_uses.specs.Ids.{ids_in}
use Rattle.tcap_uses.proofs.record.ids_of.Given as goal

abbrev pub invariant-loop-entry : goal.invariant-loop-entry
invariant-loop-entry l = l.ids.items ++ ids_in (drop l.entry-index l.entries) ≡ ids_in l.entries
