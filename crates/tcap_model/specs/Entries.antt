-- Which items the entries of a record are: messages with their senders, and quiet marks.
use Rattle.std.specs.Prelude.{◌≡◌, ℕ, ◌+◌, List, [], ◌∷◌, length, Option, Some, None, Result, Ok, Err}
use Rattle.tcap_msg.specs.Parts.{components_in}
use Rattle.tcap_record.specs.declared.entry.End.{End as Side}
use Rattle.tcap_record.specs.declared.entry.Body.{Body}
use Rattle.tcap_record.specs.declared.entry.Body.TheVariants.{Good, Bad, Quiet as QuietMark}
use Rattle.tcap_record.specs.declared.entry.Entry.{Entry}
use Rattle.tcap_model.specs.declared.reason.Reason.{Reason}
use Rattle.tcap_model.specs.declared.reason.Reason.TheVariants.{BadMessage, NoItem}
use Rattle.tcap_model.specs.World.{Item, Sent}

-- An entry is this item: a message with the end that sent it, or a quiet mark with no end.
abbrev pub IsItem : Entry → Item → Type 0
IsItem entry (Sent side message) = (entry.side ≡ Some side) × (entry.body ≡ Good message)
IsItem entry Item.Quiet = (entry.side ≡ None) × (entry.body ≡ QuietMark)

-- The entries are these items in order, and there are no others.
abbrev pub AreItems : List Entry → List Item → Type 0
AreItems [] [] = Unit {0}
AreItems (entry ∷ entries) (item ∷ items) = IsItem entry item × AreItems entries items
AreItems _ _ = ⊥

-- the item that an entry is, or the reason why it is none
abbrev pub item_by : Option Side → Body → Result Item Reason
item_by side (Bad fault) = Err (BadMessage fault)
item_by (Some side) (Good message) = Ok (Sent side message)
item_by None QuietMark = Ok Item.Quiet
item_by _ _ = Err NoItem

-- the item of an entry, by its end and its body
abbrev pub item_of : Entry → Result Item Reason
item_of entry = item_by entry.side entry.body

-- the number of components in the messages of these items
abbrev pub count_components : List Item → ℕ
count_components [] = 0
count_components (Sent side message ∷ items) = length (components_in message) + count_components items
count_components (Item.Quiet ∷ items) = count_components items

-- the entry of an item, at place 0
abbrev pub entry_of : Item → Entry
entry_of (Sent side message) = record { side = Some side; place = 0; body = Good message }
entry_of Item.Quiet = record { side = None; place = 0; body = QuietMark }
