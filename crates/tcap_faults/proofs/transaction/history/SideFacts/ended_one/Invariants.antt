-- The IDs that are left decide.
use Rattle.std.proofs.Common.{◌≡◌, List, drop}
use Rattle.std.specs.List.{list_any}
use Rattle.tcap_record.specs.declared.entry.End.{End as Side}
use Rattle.tcap_end.specs.Table.{Table}
use Rattle.tcap_model.specs.World.{Item}
use Rattle.tcap_faults.specs.History.{IsSide}
use Rattle.tcap_faults.specs.SentToId.{has_ended}
use Rattle.tcap_faults.proofs.transaction.history.SideFacts.ended_one.Given as goal

abbrev pub invariant-loop-id : goal.invariant-loop-id
invariant-loop-id l =
    (table : Table) (side : Side) (items : List Item) → IsSide table side items l.self
    → list_any (has_ended side items) (drop l.id-index l.id-items) ≡ list_any (has_ended side items) l.id-items
