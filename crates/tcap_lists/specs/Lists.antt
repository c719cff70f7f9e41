-- Which items stored rows hold, by invoke ID. Rows without places, and empty places, do not count.
use Rattle.std.specs.Prelude.{◌≡◌, ℕ, ℤ, List, [], ◌∷◌, Option, Some, None, IsSome, take, length, ◌-◌, slice_set, option_and_then}
use Rattle.std.specs.List.{slice_get}
use Rattle.std.specs.Ordering.{int_cmp}
use Rattle.std.specs.Map.{lookup}
use Rattle.std.specs.BTreeMap.{is_at}
use Rattle.std.specs.Global.{Box}
use Rattle.tcap_lists.specs.declared.lists.Lists.{Lists}
use Rattle.tcap_lists.specs.declared.row.Row.{Row}
use Rattle.tcap_lists.specs.Items.{listed, with_listed}
use Rattle.tcap_lists.specs.Row.{filled, items_in}

-- the entries, with one more in front if it has a value
abbrev pub kept_entry : {B : Type 0} → ℤ → Option B → List (ℤ × B) → List (ℤ × B)
kept_entry id None more = more
kept_entry id (Some value) more = (id, value) ∷ more

-- the entries with the values that `f` gives; those without a value are left out
abbrev pub keep : {A B : Type 0} → (A → Option B) → List (ℤ × A) → List (ℤ × B)
keep f [] = []
keep f (e ∷ more) = kept_entry e.0 (f e.1) (keep f more)

-- the list, or None if it is empty
abbrev pub some_items : {A : Type 0} → List A → Option (List A)
some_items [] = None
some_items (first ∷ more) = Some (first ∷ more)

-- the kinds of a row, by their numbers
abbrev pub row_kinds : {K : Type 0} → Row K → List K
row_kinds row = row.kinds.items

-- the kind number in each place of a row, or None if the place is empty
abbrev pub row_places : {K : Type 0} → Row K → List (Option ℕ)
row_places row = row.places.items

-- the item in each place of a row, or None if the place is empty
abbrev pub row_of : {K : Type 0} → Row K → List (Option K)
row_of row = items_in row.kinds.items row.places.items

-- the items in the places of a boxed row
abbrev pub row_in : {K : Type 0} → Box (Row K) → List (Option K)
row_in box = row_of box.value

-- Each kind of the first row is in the second, with the same number.
abbrev pub KeepsKinds : {K : Type 0} → Row K → Row K → Type 0
KeepsKinds row next = (number : ℕ) → IsSome (slice_get row.kinds.items number) → slice_get next.kinds.items number
    ≡ slice_get row.kinds.items number

-- the rows that have a place, by invoke ID
abbrev pub rows_of : {K : Type 0} → Lists K → List (ℤ × List (Option K))
rows_of l = keep (λ row. some_items (row_in row)) l.rows.entries

-- the items of rows, without the empty places
abbrev pub items_of : {A : Type 0} → List (ℤ × List (Option A)) → List (ℤ × List A)
items_of rows = keep (λ row. some_items (filled row)) rows

-- The ID has a row, perhaps without places.
abbrev pub HasRow : {K : Type 0} → ℤ → Lists K → Type 0
HasRow id l = IsSome (lookup (is_at (int_cmp id)) l.rows.entries)

-- the kind with this number in an ID's row
abbrev pub kind_of : {K : Type 0} → ℤ → ℕ → Lists K → Option K
kind_of id number l =
    option_and_then (λ row. slice_get row.value.kinds.items number) (lookup (is_at (int_cmp id)) l.rows.entries)

-- Each row and each kind of the first lists is in the second, with the same ID and number.
pub record KeepsRows {K : Type 0} (l next : Lists K) : Type 0 where
  pub rows : (id : ℤ) → HasRow id l → HasRow id next
  pub kinds : (id : ℤ) (number : ℕ) → IsSome (kind_of id number l) → kind_of id number next ≡ kind_of id number l

-- the rows without the newest place of an ID
abbrev pub one_less : {A : Type 0} → ℤ → List (ℤ × List A) → List (ℤ × List A)
one_less id rows = with_listed id (take (length (listed id rows) - 1) (listed id rows)) rows

-- the rows with this item, or none, in a place of an ID's row
abbrev pub with_place : {A : Type 0} → ℤ → ℕ → Option A → List (ℤ × List (Option A)) → List (ℤ × List (Option A))
with_place id at item rows = with_listed id (slice_set (listed id rows) at item) rows
