-- Which place of a row has the oldest item of a kind.
use Rattle.std.specs.Prelude.{◌≡◌, ℕ, suc, ◌≤◌, ◌<◌, Bool, true, false, List, [], ◌∷◌, Option, Some, None, ◌==◌, cond, map, option_map, slice_index_or, nat_lt}
use Rattle.std.specs.List.{slice_get}

-- the kind number in a place, or None if the place is empty or beyond the end
abbrev pub kind_at : List (Option ℕ) → ℕ → Option ℕ
kind_at places at = slice_index_or places at None

-- whether a place has an item, and of the wanted kind if one is given
abbrev pub is_wanted : Option ℕ → Option ℕ → Bool
is_wanted wanted None = false
is_wanted None (Some kind) = true
is_wanted (Some wanted) (Some kind) = kind == wanted

-- Each item's kind number is less than `count`.
abbrev pub AreNumbered : List (Option ℕ) → ℕ → Type 0
AreNumbered places count = (at kind : ℕ) → kind_at places at ≡ Some kind → kind < count

-- If there is a wanted item, the oldest is in place `oldest`.
abbrev pub IsOldest : Option ℕ → List (Option ℕ) → ℕ → Type 0
IsOldest wanted places oldest = (at : ℕ) → is_wanted wanted (kind_at places at) ≡ true
    → (oldest ≤ at) × (is_wanted wanted (kind_at places oldest) ≡ true)

-- Entry `kind` of the second list is the place of the oldest item of each kind that has one.
abbrev pub AreOldest : List (Option ℕ) → List ℕ → Type 0
AreOldest places oldest = (kind : ℕ) → IsOldest (Some kind) places (slice_index_or oldest kind 0)

-- the kind with this number, or None without a number
abbrev pub kind_in : {K : Type 0} → List K → Option ℕ → Option K
kind_in kinds None = None
kind_in kinds (Some number) = slice_get kinds number

-- the item in each place, or None if the place is empty
abbrev pub items_in : {K : Type 0} → List K → List (Option ℕ) → List (Option K)
items_in kinds places = map (kind_in kinds) places

-- the items without the empty places
abbrev pub filled : {A : Type 0} → List (Option A) → List A
filled [] = []
filled (None ∷ places) = filled places
filled (Some item ∷ places) = item ∷ filled places

-- whether a place has an item that passes a test
abbrev pub fits_in : {A : Type 0} → (A → Bool) → Option A → Bool
fits_in fits None = false
fits_in fits (Some item) = fits item

-- the place of the first item that passes a test
abbrev pub place_of : {A : Type 0} → (A → Bool) → List A → Option ℕ
place_of fits [] = None
place_of fits (item ∷ items) = cond (fits item) (Some 0) (option_map suc (place_of fits items))

-- the lesser of two places, or the only one
abbrev pub earlier : Option ℕ → Option ℕ → Option ℕ
earlier None other = other
earlier (Some place) None = Some place
earlier (Some place) (Some other) = Some (cond (nat_lt other place) other place)
