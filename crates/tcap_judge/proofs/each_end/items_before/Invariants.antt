-- All entries so far are items, and the rest decides.
use Rattle.std.proofs.Common.{◌≡◌, ◌+◌, map, drop}
use Rattle.tcap_model.specs.Entries.{item_of}
use Rattle.tcap_judge.specs.BlameOutcome.{items_before}
use Rattle.tcap_judge.proofs.each_end.items_before.Given as goal

abbrev pub invariant-loop-entry : goal.invariant-loop-entry
invariant-loop-entry l = record {
  counted : l.count ≡ l.entry-index;
  left : items_before (map item_of l.entries) ≡ l.count + items_before (map item_of (drop l.entry-index l.entries));
}
