-- Which entries show with which IDs of the other end (partners) a transaction ID was used. They are those that begin
-- the ID, and the Continues, to it or from it, whose partner is not that of the Continue before in the same direction.
use Rattle.std.specs.Prelude.{ℕ, ◌+◌, Bool, true, false, List, [], ◌∷◌, ◌++◌, map, take, Option, Some, None, Result, Ok, Err, ◌&&◌, cond}
use Rattle.tcap_msg.specs.declared.message.Message.{Message}
use Rattle.tcap_msg.specs.Parts.{dtid_in, otid_in}
use Rattle.tcap_record.specs.declared.entry.End.{End as Side}
use Rattle.tcap_record.specs.declared.entry.Entry.{Entry}
use Rattle.tcap_model.specs.declared.reason.Reason.{Reason}
use Rattle.tcap_model.specs.World.{Item, Sent, is_side}
use Rattle.tcap_model.specs.Entries.{item_of}
use Rattle.tcap_model.specs.Run.{only_if}
use Rattle.tcap_faults.specs.SentToId.{is_begin_from, is_continue_from, is_continue_to}
use Rattle.tcap_evidence.specs.Scene.{is_same_id}

-- the entries so far; and, since the ID was begun, its partner in the last Continue from it and in the last Continue
-- to it
abbrev pub Pairing : Type 0
Pairing = List ℕ × Option (List ℕ) × Option (List ℕ)

-- the pairing before the first entry, and after a quiet mark
abbrev pub no_pairing : Pairing
no_pairing = ([], None, None)

-- The partner of an ID in a Continue. If the ID's end sent the Continue from the ID, it is the destination ID. If the
-- other end sent it to the ID, it is the originating ID.
abbrev pub partner_in : Side → List ℕ → Side → Message → Option (List ℕ)
partner_in of id sender m =
    cond (is_side of sender) (only_if (is_continue_from id m) (dtid_in m)) (only_if (is_continue_to id m) (otid_in m))

-- the entry, unless its partner is the same as the last one
abbrev pub anew : ℕ → List ℕ → Option (List ℕ) → List ℕ
anew number partner last = cond (is_same_id last (Some partner)) [] (number ∷ [])

-- the pairing after a Continue from the ID (`true`) or to it, with this partner
abbrev pub with_partner : ℕ → Bool → Option (List ℕ) → Pairing → Pairing
with_partner number is_from None pairing = pairing
with_partner number true (Some partner) (entries, from, to) = (entries ++ anew number partner from, Some partner, to)
with_partner number false (Some partner) (entries, from, to) = (entries ++ anew number partner to, from, Some partner)

-- the pairing after a message
abbrev pub with_message : Side → List ℕ → ℕ → Side → Message → Pairing → Pairing
with_message of id number sender m pairing = cond (is_side of sender && is_begin_from id m)
    (pairing.0 ++ number ∷ [], None, None) (with_partner number (is_side of sender) (partner_in of id sender m) pairing)

-- the pairing after an entry: a quiet mark resets it, and octets that are not a message change nothing
abbrev pub with_pair : Side → List ℕ → ℕ → Result Item Reason → Pairing → Pairing
with_pair of id number (Ok (Sent sender m)) pairing = with_message of id number sender m pairing
with_pair of id number (Ok Item.Quiet) pairing = no_pairing
with_pair of id number (Err reason) pairing = pairing

-- the pairing after several entries, the first of which is entry `number`
abbrev pub with_pairs : Side → List ℕ → ℕ → List (Result Item Reason) → Pairing → Pairing
with_pairs of id number [] pairing = pairing
with_pairs of id number (entry ∷ more) pairing =
    with_pairs of id (number + 1) more (with_pair of id number entry pairing)

-- the entries before entry `number`, since the last quiet mark
abbrev pub paired_before : Side → List ℕ → List Entry → ℕ → List ℕ
paired_before of id entries number = (with_pairs of id 0 (map item_of (take number entries)) no_pairing).0
