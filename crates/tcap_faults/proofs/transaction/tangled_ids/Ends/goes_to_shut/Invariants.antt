-- The IDs that are left decide.
use Rattle.std.proofs.Common.{◌≡◌, List, drop, not}
use Rattle.std.specs.List.{list_any}
use Rattle.tcap_record.specs.declared.entry.End.{End as Side}
use Rattle.tcap_record.specs.Ends.{other}
use Rattle.tcap_model.specs.World.{Item}
use Rattle.tcap_faults.specs.ClosedHalves.{is_surely_open}
use Rattle.tcap_faults.specs.History.{IsSide}
use Rattle.tcap_faults.proofs.transaction.tangled_ids.Ends.goes_to_shut.Given as goal

abbrev pub invariant-loop-id : goal.invariant-loop-id
invariant-loop-id l =
    (side : Side) (items : List Item) → IsSide l.table side items l.self.own.now
    → IsSide l.table (other side) items l.self.peer.now
    → list_any (λ own. not (is_surely_open l.table side items own)) (drop l.id-index l.id-items)
    ≡ list_any (λ own. not (is_surely_open l.table side items own)) l.id-items
