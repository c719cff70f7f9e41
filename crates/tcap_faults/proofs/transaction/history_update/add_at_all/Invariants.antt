-- The keys so far have the ID.
use Rattle.std.proofs.Common.{bytes_eq, take}
use Rattle.std.specs.List.{list_any}
use Rattle.tcap_faults.specs.IdList.{ids_kept}
use Rattle.tcap_faults.specs.JoinedIds.{GetsMore}
use Rattle.tcap_faults.proofs.transaction.history_update.add_at_all.Given as goal

abbrev pub invariant-loop-key : goal.invariant-loop-key
invariant-loop-key l =
    GetsMore (λ key. list_any (bytes_eq key) (ids_kept l.keys.first (take l.key-index l.key-items))) l.id.octets.now
    l.fn.map l.map
