-- Which items an invoke ID has, and which after one is added or removed.
use Rattle.std.specs.Prelude.{ℤ, Bool, List, [], ◌∷◌, ◌++◌, Option, Some, None, cond}
use Rattle.std.specs.List.{list_any}
use Rattle.std.specs.List.Sorted.{IsStrictlySortedBy}
use Rattle.std.specs.Ordering.{int_cmp}
use Rattle.std.specs.declared.cmp.Ordering.{Ordering}
use Rattle.std.specs.Map.{keys_of, lookup, remove_entry}
use Rattle.std.specs.BTreeMap.{insert_entry, is_at}

-- The keys are in strictly ascending order.
abbrev pub Rises : {K A : Type 0} → (K → K → Ordering) → List (K × A) → Type 0
Rises cmp entries = IsStrictlySortedBy cmp (keys_of entries)

-- the items of a list, or none without a list
abbrev pub listed_by : {A : Type 0} → Option (List A) → List A
listed_by None = []
listed_by (Some items) = items

-- the items of an invoke ID, oldest first
abbrev pub listed : {A : Type 0} → ℤ → List (ℤ × List A) → List A
listed id items = listed_by (lookup (is_at (int_cmp id)) items)

-- the lists with these items as those of an ID; an ID without items has no list
abbrev pub with_listed : {A : Type 0} → ℤ → List A → List (ℤ × List A) → List (ℤ × List A)
with_listed id [] items = remove_entry (is_at (int_cmp id)) items
with_listed id (first ∷ more) items = insert_entry int_cmp items id (first ∷ more)

-- the lists with one more item of an ID, the newest
abbrev pub with_newest : {A : Type 0} → ℤ → A → List (ℤ × List A) → List (ℤ × List A)
with_newest id item items = with_listed id (listed id items ++ item ∷ []) items

-- whether an item of the ID passes a test
abbrev pub one_fits : {A : Type 0} → ℤ → (A → Bool) → List (ℤ × List A) → Bool
one_fits id fits items = list_any fits (listed id items)

-- the items without the oldest that passes a test
abbrev pub without_oldest : {A : Type 0} → (A → Bool) → List A → List A
without_oldest fits [] = []
without_oldest fits (item ∷ items) = cond (fits item) items (item ∷ without_oldest fits items)

-- the lists without the oldest item of an ID that passes a test
abbrev pub without_oldest_of : {A : Type 0} → ℤ → (A → Bool) → List (ℤ × List A) → List (ℤ × List A)
without_oldest_of id fits items = with_listed id (without_oldest fits (listed id items)) items
