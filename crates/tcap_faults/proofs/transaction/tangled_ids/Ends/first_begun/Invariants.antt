-- The IDs that are left decide.
use Rattle.std.proofs.Common.{◌≡◌, List, drop}
use Rattle.std.specs.List.{find}
use Rattle.tcap_record.specs.declared.entry.End.{End as Side}
use Rattle.tcap_end.specs.Table.{Table}
use Rattle.tcap_model.specs.World.{Item}
use Rattle.tcap_faults.specs.SentToId.{began}
use Rattle.tcap_faults.specs.History.{IsSide}
use Rattle.tcap_faults.proofs.transaction.tangled_ids.Ends.first_begun.Given as goal

abbrev pub invariant-loop-id : goal.invariant-loop-id
invariant-loop-id l =
    (table : Table) (side : Side) (items : List Item) → IsSide table side items l.self.own.now
    → find (λ own. began side own items) (drop l.id-index l.id-items) ≡ find (λ own. began side own items) l.id-items
