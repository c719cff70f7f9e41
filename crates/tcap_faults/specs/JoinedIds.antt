-- How does one more message change which IDs are kept as joined?
use Rattle.std.specs.Prelude.{◌≡◌, ℕ, Bool, List, [], ◌∷◌, ◌++◌, filter, ◌||◌, cond}
use Rattle.std.specs.List.{list_any}
use Rattle.std.specs.Map.{lookup}
use Rattle.std.specs.BTreeMap.{BTreeMap, is_at}
use Rattle.std.specs.BTreeSet as set
use Rattle.std.specs.BTreeSet.{BTreeSet}
use Rattle.tcap_end.specs.Table.{octets_cmp}
use Rattle.tcap_record.specs.declared.entry.End.{End as Side}
use Rattle.tcap_record.specs.Ends.{other}
use Rattle.tcap_msg.specs.declared.message.Message.{Message}
use Rattle.tcap_model.specs.World.{Item, Sent}
use Rattle.tcap_faults.specs.declared.transaction.id_list.Ids.{Ids}
use Rattle.tcap_faults.specs.declared.transaction.history.SideFacts.{SideFacts}
use Rattle.tcap_faults.specs.IdList.{AreAmong}
use Rattle.tcap_faults.specs.History.{dtids_of, sent_from}
use Rattle.tcap_faults.specs.TangledIds.{peers_of}
use Rattle.tcap_faults.specs.SentToId.{has_ended, has_used}

-- This ID, if the condition holds.
abbrev pub id_if : Bool → List ℕ → List (List ℕ)
id_if so id = cond so (id ∷ []) []

-- In a map of IDs, each key that passes gets this ID besides.
abbrev pub GetsMore : (List ℕ → Bool) → List ℕ → BTreeMap (List ℕ) Ids → BTreeMap (List ℕ) Ids → Type 0
GetsMore so id old new =
    (key : List ℕ) (ids : List (List ℕ)) → AreAmong ids (lookup (is_at (octets_cmp key)) old.entries)
    → AreAmong (ids ++ id_if (so key) id) (lookup (is_at (octets_cmp key)) new.entries)

-- A set of IDs that also has the IDs that pass a test.
abbrev pub HasMore : (List ℕ → Bool) → BTreeSet (List ℕ) → BTreeSet (List ℕ) → Type 0
HasMore so old new = (id : List ℕ) → set.contains octets_cmp new id ≡ set.contains octets_cmp old id || so id

-- After one more message of the end, its joined and ended IDs are kept too, and the rest is unchanged.
pub record IsJoined (side : Side) (items : List Item) (m : Message) (own own_now peer peer_now : SideFacts) : Type
    0 where
  pub own_joined : (id : List ℕ)
      → AreAmong (filter (has_used (other side) items) (dtids_of (sent_from side (items ++ Sent side m ∷ []) id)))
      (lookup (is_at (octets_cmp id)) own_now.joined.entries)
  pub peer_joined : (id : List ℕ)
      → AreAmong (filter (has_used side (items ++ Sent side m ∷ [])) (dtids_of (sent_from (other side) items id)))
      (lookup (is_at (octets_cmp id)) peer_now.joined.entries)
  pub own_over : (id : List ℕ)
      → set.contains octets_cmp own_now.over id
      ≡ list_any (has_ended side (items ++ Sent side m ∷ [])) (peers_of side (items ++ Sent side m ∷ []) id)
  pub peer_over : (id : List ℕ)
      → set.contains octets_cmp peer_now.over id
      ≡ list_any (has_ended (other side) (items ++ Sent side m ∷ []))
      (peers_of (other side) (items ++ Sent side m ∷ []) id)
  pub own_rest : own_now ≡ record own { over = own_now.over; joined = own_now.joined }
  pub peer_rest : peer_now ≡ record peer { over = peer_now.over; joined = peer_now.joined }
