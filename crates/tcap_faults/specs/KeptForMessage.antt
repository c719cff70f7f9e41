-- What is kept of the transaction IDs of a message: of an own ID, and of an ID of the peer?
use Rattle.std.specs.Prelude.{◌≡◌, ⊤, ℕ, List, filter, Option, Some, None, option_copied}
use Rattle.tcap_msg.specs.declared.message.Message.{Message}
use Rattle.tcap_msg.specs.Parts.{dtid_in, otid_in}
use Rattle.tcap_record.specs.declared.entry.End.{End as Side}
use Rattle.tcap_record.specs.Ends.{other}
use Rattle.tcap_end.specs.Table.{Table}
use Rattle.tcap_model.specs.World.{Item}
use Rattle.tcap_faults.specs.declared.transaction.lookup.MessageIds.{MessageIds}
use Rattle.tcap_faults.specs.declared.transaction.lookup.OwnId.{OwnId}
use Rattle.tcap_faults.specs.declared.transaction.lookup.PeerId.{PeerId}
use Rattle.tcap_faults.specs.IdList.{AreAmong}
use Rattle.tcap_faults.specs.History.{IsFromAt, IsToAt, dtids_of, sent_from, sent_to}
use Rattle.tcap_faults.specs.SentToId.{has_used}

-- `own` is what is kept of this own ID: what the end sent from it, and what the peer sent to it.
pub record IsOwnId (table : Table) (side : Side) (items : List Item) (id : List ℕ) (own : OwnId) : Type 0 where
  pub it : own.id.now ≡ id
  pub from : IsFromAt table (sent_from side items id) (option_copied own.from)
  pub to : IsToAt table (sent_to (other side) items id) (option_copied own.to)

-- `peer_id` is what is kept of this ID of the peer: what the peer sent from it, what the end sent to it, and the own
-- IDs that the peer's Continues join with it.
pub record IsPeerId (table : Table) (side : Side) (items : List Item) (id : List ℕ) (peer_id : PeerId) : Type 0 where
  pub it : peer_id.id.now ≡ id
  pub from : IsFromAt table (sent_from (other side) items id) (option_copied peer_id.from)
  pub to : IsToAt table (sent_to side items id) (option_copied peer_id.to)
  pub joined : AreAmong (filter (has_used side items) (dtids_of (sent_from (other side) items id)))
      (option_copied peer_id.joined)

-- `IsOwnId`, if there is an ID.
abbrev pub IsOwnIdAt : Table → Side → List Item → Option (List ℕ) → Option OwnId → Type 0
IsOwnIdAt table side items None None = ⊤
IsOwnIdAt table side items (Some id) (Some own) = IsOwnId table side items id own
IsOwnIdAt table side items _ _ = ⊥

-- `IsPeerId`, if there is an ID.
abbrev pub IsPeerIdAt : Table → Side → List Item → Option (List ℕ) → Option PeerId → Type 0
IsPeerIdAt table side items None None = ⊤
IsPeerIdAt table side items (Some id) (Some peer_id) = IsPeerId table side items id peer_id
IsPeerIdAt table side items _ _ = ⊥

-- `found` is what is kept of the IDs of this message.
pub record AreMessageIds (table : Table) (side : Side) (items : List Item) (m : Message) (found : MessageIds)
    : Type 0 where
  pub own : IsOwnIdAt table side items (otid_in m) found.own
  pub peer_id : IsPeerIdAt table side items (dtid_in m) found.peer_id
