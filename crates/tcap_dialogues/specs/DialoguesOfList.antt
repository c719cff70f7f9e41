-- Which dialogues a list of messages has (Q.774 3.3): two messages are in one dialogue if they share a transaction ID
-- of one end, directly or through other messages. Quiet marks, after which IDs are free again, are not considered: a
-- record is first divided at its marks.
use Rattle.std.specs.Prelude.{ℕ, ◌+◌, Bool, List, [], ◌∷◌, ◌++◌, filter, map, ◌==◌, ◌&&◌, not}
use Rattle.std.specs.List.{flat_map, list_any}
use Rattle.std.specs.Option.{option_to_list}
use Rattle.std.specs.Str.{bytes_eq}
use Rattle.tcap_msg.specs.declared.message.Message.{Message}
use Rattle.tcap_msg.specs.Parts.{dtid_in, otid_in}
use Rattle.tcap_record.specs.declared.entry.End.{End as Side}
use Rattle.tcap_record.specs.Ends.{other}
use Rattle.tcap_model.specs.World.{Item, Sent, is_side}

-- a transaction ID of an end
pub record IdOf : Type 0 where
  pub end : Side
  pub octets : List ℕ

-- the IDs in a message: its originating ID belongs to its sender, its destination ID to the other end
abbrev pub ids_of : Side → Message → List IdOf
ids_of sender m =
    map (λ id. record { end = sender; octets = id }) (option_to_list (otid_in m))
    ++ map (λ id. record { end = other sender; octets = id }) (option_to_list (dtid_in m))

-- whether two IDs are equal; and whether an ID is in a list
abbrev pub is_same : IdOf → IdOf → Bool
is_same a b = is_side a.end b.end && bytes_eq a.octets b.octets

abbrev pub is_among : List IdOf → IdOf → Bool
is_among ids id = list_any (is_same id) ids

-- a dialogue: the numbers of its messages, and their IDs
pub record Dialogue : Type 0 where
  pub numbers : List ℕ
  pub ids : List IdOf

-- whether the dialogue has one of these IDs
abbrev pub has_id_among : List IdOf → Dialogue → Bool
has_id_among ids d = list_any (is_among d.ids) ids

-- whether the message with this number is in the dialogue
abbrev pub is_of : Dialogue → ℕ → Bool
is_of d n = list_any (λ i. i == n) d.numbers

-- these dialogues joined into one, with a message with this number and these IDs
abbrev pub joined : List Dialogue → ℕ → List IdOf → Dialogue
joined dialogues n ids = record {
  numbers = flat_map (λ d. d.numbers) dialogues ++ n ∷ [];
  ids = flat_map (λ d. d.ids) dialogues ++ ids;
}

-- A message joins the dialogues that have one of its IDs, or begins a new one if there are none.
abbrev pub with_message : ℕ → List IdOf → List Dialogue → List Dialogue
with_message n ids dialogues =
    filter (λ d. not (has_id_among ids d)) dialogues ++ joined (filter (has_id_among ids) dialogues) n ids ∷ []

-- the dialogues of these items and of those before; the first of these items has number n
abbrev pub dialogues_behind : List Dialogue → ℕ → List Item → List Dialogue
dialogues_behind before n [] = before
dialogues_behind before n (Sent side m ∷ items) = dialogues_behind (with_message n (ids_of side m) before) (n + 1) items
dialogues_behind before n (Item.Quiet ∷ items) = dialogues_behind before (n + 1) items

-- the dialogues of a list
abbrev pub dialogues_of : List Item → List Dialogue
dialogues_of items = dialogues_behind [] 0 items
