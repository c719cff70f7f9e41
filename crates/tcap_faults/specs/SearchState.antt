-- What is kept and found while the entries of a record are searched for faults?
use Rattle.std.specs.Prelude.{◌≡◌, ◌≤◌, ℕ, ◌+◌, ◌*◌, ◌^◌, Bool, true, false, List, [], ◌∷◌, ◌++◌, drop, length, map, Option, Some, None, Result, Ok, Err, ◌||◌, cond, not}
use Rattle.tcap_msg.specs.Parts.{components_in}
use Rattle.tcap_record.specs.declared.entry.End.{End as Side}
use Rattle.tcap_record.specs.declared.entry.End.TheVariants.{A, B}
use Rattle.tcap_model.specs.declared.reason.Reason.{Reason}
use Rattle.tcap_record.specs.declared.entry.Entry.{Entry}
use Rattle.tcap_end.specs.Table.{Table}
use Rattle.tcap_model.specs.World.{Item, Sent}
use Rattle.tcap_model.specs.Entries.{item_of}
use Rattle.tcap_refute.specs.declared.kind.Kind.{Kind}
use Rattle.tcap_refute.specs.declared.kind.Kind.TheVariants as kinds
use Rattle.tcap_refute.specs.EarlierMessages.{since_quiet}
use Rattle.tcap_faults.specs.declared.transaction.history.Facts.{Facts}
use Rattle.tcap_faults.specs.declared.verdict.first_fault.EndSearch.{EndSearch}
use Rattle.tcap_faults.specs.declared.verdict.first_fault.SearchState.{SearchState}
use Rattle.tcap_faults.specs.Fault.{bad_entry_of, blamed, blamed_after, fault_since}
use Rattle.tcap_faults.specs.History.{AreFacts}

-- The lowest of F10 to F13 that components have.
abbrev pub kind_of_components : Bool → Bool → Bool → Bool → Option Kind
kind_of_components busy linked answered rejected =
    cond busy (Some kinds.InvokeIdBusy)
    (cond linked (Some kinds.BadLink)
    (cond answered (Some kinds.AnsweredAlready)
    (cond rejected (Some kinds.RejectNotAllowed) None)))

-- `kept` is the history of these items since the last quiet mark.
abbrev pub IsHalfKey : Table → List Item → Facts → Type 0
IsHalfKey table items kept = AreFacts table (since_quiet items) kept

-- The number of components in these items.
abbrev pub components_in_all : List Item → ℕ
components_in_all [] = 0
components_in_all (Sent side m ∷ items) = length (components_in m) + components_in_all items
components_in_all (Item.Quiet ∷ items) = components_in_all items

-- The items and their components are so few that no count exceeds the greatest.
pub record AreRoomy (items : List Item) : Type 0 where
  pub few : length items ≤ 2 ^ 63
  pub components : components_in_all items ≤ 2 ^ 126

-- There are at most `number` items, with few components.
pub record AreCounted (items : List Item) (number : ℕ) : Type 0 where
  pub few : length items ≤ number
  pub components : components_in_all items ≤ number * 2 ^ 63

-- ---- what was found for an end

-- The search for an end before the first entry; it is over if the end is not asked for.
abbrev pub search_begun : Bool → EndSearch
search_begun is_asked = record { is_over = not is_asked; found = None }

-- The search after an entry with this kind, if it has one.
abbrev pub search_ended : ℕ → Option Kind → EndSearch → EndSearch
search_ended number None end_search = end_search
search_ended number (Some kind) end_search =
    record { is_over = true; found = Some (record { entry = number; kind = kind }) }

-- The search after an entry with this kind, unless it was over before.
abbrev pub search_continued : ℕ → Option Kind → EndSearch → EndSearch
search_continued number kind end_search = cond end_search.is_over end_search (search_ended number kind end_search)

-- The search after an item with this number, which comes after these items.
abbrev pub search_after_item : Table → List Item → ℕ → Item → Side → EndSearch → EndSearch
search_after_item table items number item side end_search =
    search_continued number (fault_since table side (since_quiet items) item) end_search

-- The search after an entry that is no item.
abbrev pub search_after_bad : ℕ → Option Side → Reason → Side → EndSearch → EndSearch
search_after_bad number sender reason side end_search =
    search_continued number (bad_entry_of side sender reason) end_search

-- The state of the search for an end.
abbrev pub search_of : Side → SearchState → EndSearch
search_of A search = search.a
search_of B search = search.b

-- The search with this state for an end.
abbrev pub with_search : Side → EndSearch → SearchState → SearchState
with_search A end_search search = record search { a = end_search }
with_search B end_search search = record search { b = end_search }

-- `new` is `old` after an item with this number: the item is kept, and judged for both ends.
pub record IsTaken (table : Table) (items : List Item) (number : ℕ) (item : Item) (old new : SearchState) : Type 0 where
  pub are : IsHalfKey table (items ++ item ∷ []) new.kept
  pub end_search : (side : Side)
      → search_of side new ≡ search_after_item table items number item side (search_of side old)

-- `new` is `old` after an entry with this number. An item is kept and judged, and the search goes on if it is not
-- over for both ends. An entry that is no item is judged, and the search stops.
abbrev pub Takes : Table → List Item → ℕ → Entry → Bool → SearchState → SearchState → Type 0
Takes table items number entry more old new = by (item_of entry)
  where
    by : Result Item Reason → Type 0
    by (Ok item) = IsTaken table items number item old new × (more ≡ (not new.a.is_over || not new.b.is_over))
    by (Err reason) =
        (more ≡ false)
        × ((side : Side) → search_of side new ≡ search_after_bad number entry.side reason side (search_of side old))

-- What is known of an end after these items, the first `number` entries. If its search is over, the result is what is
-- blamed on it. Else nothing was found yet, and the remaining entries decide.
abbrev pub IsFound : Table → Side → List Entry → List Item → ℕ → EndSearch → Type 0
IsFound table side entries items number end_search = by end_search.is_over
  where
    by : Bool → Type 0
    by true = end_search.found ≡ blamed table side entries
    by false = (end_search.found ≡ None)
        × (blamed_after table side items number (map (λ e. (e.side, item_of e)) (drop number entries))
        ≡ blamed table side entries)
