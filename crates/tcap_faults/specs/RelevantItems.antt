-- Which items matter for the half of an end with an ID of its peer (Q.774 3.3)? They are what the peer sent from the
-- ID, what the end sent to it, the end's Begins, since the peer may have continued one of them from the ID, and quiet
-- marks.
use Rattle.std.specs.Prelude.{ℕ, Bool, true, List, [], filter, Option, Some, None, Result, Ok, Err, ◌||◌, cond}
use Rattle.tcap_msg.specs.declared.kind.Kind.TheVariants as forms
use Rattle.tcap_msg.specs.Parts.{dtid_in, otid_in}
use Rattle.tcap_record.specs.declared.entry.End.{End as Side}
use Rattle.tcap_record.specs.declared.entry.Entry.{Entry}
use Rattle.tcap_end.specs.End.{is_id}
use Rattle.tcap_end.specs.Table.{Table}
use Rattle.tcap_model.specs.declared.reason.Reason.{Reason}
use Rattle.tcap_model.specs.World.{Item, Sent, is_side}
use Rattle.tcap_refute.specs.EarlierMessages.{is_a}
use Rattle.tcap_faults.specs.declared.transaction.history.Facts.{Facts}
use Rattle.tcap_faults.specs.Replay.{items_up_to}
use Rattle.tcap_faults.specs.SearchState.{AreCounted, IsHalfKey}

-- Whether an item matters for the half of this end with this ID.
abbrev pub matters_for_half : Side → List ℕ → Item → Bool
matters_for_half side id (Sent sender m) =
    cond (is_side sender side) (is_a forms.Begin m || is_id id (dtid_in m)) (is_id id (otid_in m))
matters_for_half side id Item.Quiet = true

-- The items that matter for the half with this ID; none if there is no ID.
abbrev pub items_for_half : Side → Option (List ℕ) → List Item → List Item
items_for_half side None items = []
items_for_half side (Some id) items = filter (matters_for_half side id) items

-- The items that matter for the half with the destination ID of an entry's message.
abbrev pub items_for_entry : Side → Result Item Reason → List Item → List Item
items_for_entry side (Ok (Sent sender m)) items = items_for_half side (dtid_in m) items
items_for_entry side (Ok Item.Quiet) items = []
items_for_entry side (Err reason) items = []

-- `kept` is the history of these items, and they are at most `number`.
pub record IsNoted (table : Table) (items : List Item) (number : ℕ) (kept : Facts) : Type 0 where
  pub are : IsHalfKey table items kept
  pub counted : AreCounted items number

-- `kept` is the history of those among the first `number` entries that matter for the half with this ID.
abbrev pub IsNotedFor : Table → Side → List ℕ → List Entry → ℕ → Facts → Type 0
IsNotedFor table side id entries number kept =
    IsNoted table (filter (matters_for_half side id) (items_up_to entries number)) number kept
