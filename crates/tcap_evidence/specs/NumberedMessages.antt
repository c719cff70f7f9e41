-- Which messages an end sent since the last quiet mark, with the numbers of their entries, and which of these entries
-- pass a test.
use Rattle.std.specs.Prelude.{ℕ, ◌+◌, List, [], ◌∷◌, ◌++◌, filter, flat_map, map, take, Bool, Option, Some, None, Result, Ok, Err, cond, nat_lt}
use Rattle.tcap_parts.specs.declared.component.Component.{Component}
use Rattle.tcap_msg.specs.declared.message.Message.{Message}
use Rattle.tcap_msg.specs.Parts.{components_in}
use Rattle.tcap_record.specs.declared.entry.End.{End as Side}
use Rattle.tcap_record.specs.declared.entry.Entry.{Entry}
use Rattle.tcap_model.specs.declared.reason.Reason.{Reason}
use Rattle.tcap_model.specs.World.{Item, Sent, is_side}
use Rattle.tcap_model.specs.Entries.{item_of}
use Rattle.tcap_evidence.specs.declared.sent.Sent.{Sent as SentEntry}

abbrev pub Numbered : Type 0
Numbered = ℕ × Message

-- the messages with the numbers of their entries, as stored
abbrev pub numbered_of : List SentEntry → List Numbered
numbered_of sent = map (λ s. (s.number, s.message.now)) sent

-- The messages after one more entry. A quiet mark removes all messages before it. Octets that are not a message, and
-- messages of the other end, add nothing.
abbrev pub with_entry : Side → ℕ → Result Item Reason → List Numbered → List Numbered
with_entry side number (Ok (Sent sender m)) sent = cond (is_side side sender) (sent ++ (number, m) ∷ []) sent
with_entry side number (Ok Item.Quiet) sent = []
with_entry side number (Err reason) sent = sent

-- the messages after several more entries, the first of which is entry `number`
abbrev pub with_entries : Side → ℕ → List (Result Item Reason) → List Numbered → List Numbered
with_entries side number [] sent = sent
with_entries side number (entry ∷ more) sent =
    with_entries side (number + 1) more (with_entry side number entry sent)

-- the messages that an end sent before entry `number`, since the last quiet mark
abbrev pub sent_before : Side → List Entry → ℕ → List Numbered
sent_before side entries number = with_entries side 0 (map item_of (take number entries)) []

-- the entries of the messages that pass a test
abbrev pub entries_where : (Message → Bool) → List Numbered → List ℕ
entries_where passes sent = map (λ s. s.0) (filter (λ s. passes s.1) sent)

-- the entries of the components that pass a test; an entry occurs once for each such component
abbrev pub entries_with : (Component → Bool) → List Numbered → List ℕ
entries_with passes sent = flat_map (λ s. map (λ c. s.0) (filter passes (components_in s.1))) sent

-- the messages with `n` inserted before the first one whose number is not lower
abbrev pub inserted : Numbered → List Numbered → List Numbered
inserted n [] = n ∷ []
inserted n (k ∷ more) = cond (nat_lt k.0 n.0) (k ∷ inserted n more) (n ∷ k ∷ more)

-- the messages in the order of their numbers, if all but the first are in order already
abbrev pub in_order : List Numbered → List Numbered
in_order [] = []
in_order (n ∷ more) = inserted n more
