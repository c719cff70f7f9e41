-- The IDs that are left decide, and all of them are kept.
use Rattle.std.proofs.Common.{◌≡◌, ℕ, List}
use Rattle.std.specs.Prelude.{Contains}
use Rattle.std.specs.List.{list_any}
use Rattle.tcap_record.specs.Ends.{other}
use Rattle.tcap_model.specs.World.{Item}
use Rattle.tcap_faults.specs.declared.transaction.sent_from_id.SentFrom.{SentFrom}
use Rattle.tcap_faults.specs.History.{IsSide}
use Rattle.tcap_faults.proofs.dialogue_laws.OpenHalvesLaws.{leaves}
use Rattle.tcap_faults.proofs.transaction.tangled_ids.Ends.is_open_at_mark.Given as goal

abbrev pub invariant-loop-own : goal.invariant-loop-own
invariant-loop-own l = record {
  kept : (e : List ℕ × SentFrom) → Contains l.own-iterator e → Contains l.self.own.now.from.entries e;
  left : (items : List Item) → IsSide l.table l.end items l.self.own.now
      → IsSide l.table (other l.end) items l.self.peer.now
      → list_any (leaves l.table l.end items) l.own-iterator
      ≡ list_any (leaves l.table l.end items) l.self.own.now.from.entries;
}
