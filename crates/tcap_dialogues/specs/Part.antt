-- Whether a part of a list of messages shares no transaction ID with the rest (Q.774 3.3).
use Rattle.std.specs.Prelude.{◌≡◌, ℕ, ◌+◌, Bool, true, List, [], ◌∷◌, slice_get, Some, cond}
use Rattle.tcap_msg.specs.declared.message.Message.{Message}
use Rattle.tcap_msg.specs.Parts.{dtid_in, otid_in}
use Rattle.tcap_record.specs.declared.entry.End.{End as Side}
use Rattle.tcap_end.specs.End.{is_id}
use Rattle.tcap_model.specs.World.{Item, Sent, is_side}

-- Whether a message has this ID of this end: its originating ID belongs to its sender, its destination ID to its
-- receiver.
abbrev pub carries : Side → List ℕ → Side → Message → Bool
carries end id sender message = cond (is_side end sender) (is_id id (otid_in message)) (is_id id (dtid_in message))

-- Two messages, each with its sender, share an ID of one end.
abbrev pub ShareId : Side → Message → Side → Message → Type 0
ShareId sender message other_sender other_message =
    (end : Side) × (id : List ℕ) × (carries end id sender message ≡ true)
    × (carries end id other_sender other_message ≡ true)

-- those messages of these items whose numbers are in the part, and all quiet marks; the first item has number n
abbrev pub part_of : (ℕ → Bool) → ℕ → List Item → List Item
part_of keeps n [] = []
part_of keeps n (Sent side message ∷ items) =
    cond (keeps n) (Sent side message ∷ part_of keeps (n + 1) items) (part_of keeps (n + 1) items)
part_of keeps n (Item.Quiet ∷ items) = Item.Quiet ∷ part_of keeps (n + 1) items

-- The part shares no ID with the rest: of two messages that share an ID, both are in the part, or neither.
pub record IsClosed (keeps : ℕ → Bool) (items : List Item) : Type 0 where
  pub same : (i j : ℕ) (s t : Side) (m n : Message) → slice_get items i ≡ Some (Sent s m)
      → slice_get items j ≡ Some (Sent t n) → ShareId s m t n → keeps i ≡ keeps j
