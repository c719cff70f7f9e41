-- The IDs so far are in the set.
use Rattle.std.proofs.Common.{bytes_eq, take}
use Rattle.std.specs.Prelude.{option_copied}
use Rattle.std.specs.List.{list_any}
use Rattle.tcap_model.specs.Run.{option_then}
use Rattle.tcap_faults.specs.IdList.{ids_kept}
use Rattle.tcap_faults.specs.JoinedIds.{HasMore}
use Rattle.tcap_faults.proofs.transaction.history_update.insert_all.Given as goal

abbrev pub invariant-loop-id : goal.invariant-loop-id
invariant-loop-id l =
    HasMore (λ id. list_any (bytes_eq id)
    (ids_kept (option_then (option_copied l.ids) (λ kept. kept.first)) (take l.id-index l.id-items))) l.fn.set l.set
