-- The items in the places of a row, from its kinds.
use Rattle.std.proofs.Common.{◌≡◌, ℕ, zero, suc, ◌<◌, ◌-◌, true, false, List, [], ◌∷◌, ◌++◌, Option, Some, None, length, take, refl, sym, ap, ◌∙◌, arith, get_or, set}
use Rattle.std.proofs.Math.ListN.{get_or-map}
use Rattle.std.proofs.lemmas.Option.{none-some}
use Rattle.std.specs.Prelude.{IsSome}
use Rattle.std.specs.List.{slice_get}
use Rattle.tcap_lists.specs.declared.row.Row.{Row}
use Rattle.tcap_lists.specs.Lists.{row_of}
use Rattle.tcap_lists.specs.Row.{AreNumbered, is_wanted, items_in, kind_at, kind_in}

-- ---- kinds

pub get_front : {A : Type 0} (items more : List A) (n : ℕ) → n < length items → slice_get (items ++ more) n ≡ slice_get items n
get_front [] more n below = absurd (omega (arith, below))
get_front (item ∷ items) more zero below = refl
get_front (item ∷ items) more (suc n) below = get_front items more n (omega (arith, below))

pub get_last : {A : Type 0} (items : List A) (new : A) (n : ℕ) → n ≡ length items → slice_get (items ++ new ∷ []) n ≡ Some new
get_last [] new n is = rw is refl
get_last (item ∷ items) new n is = rw is (get_last items new (length items) refl)

pub get_within : {A : Type 0} (items : List A) (n : ℕ) → IsSome (slice_get items n) → n < length items
get_within [] n some = absurd (let bad : false ≡ true = some in cc)
get_within (item ∷ items) zero some = omega arith
get_within (item ∷ items) (suc n) some = omega (arith, get_within items n some)

-- An entry of the front is the same entry of the whole list.
pub get_some : {A : Type 0} (items more : List A) (n : ℕ) → IsSome (slice_get items n) → slice_get (items ++ more) n ≡ slice_get items n
get_some items more n some = get_front items more n (get_within items n some)

-- ---- places

pub items_append : {K : Type 0} (kinds : List K) (places more : List (Option ℕ))
    → items_in kinds (places ++ more) ≡ items_in kinds places ++ items_in kinds more
items_append kinds [] more = refl
items_append kinds (place ∷ places) more = ap (λ items. kind_in kinds place ∷ items) (items_append kinds places more)

pub items_set : {K : Type 0} (kinds : List K) (places : List (Option ℕ)) (at : ℕ) (new : Option ℕ)
    → items_in kinds (set places at new) ≡ set (items_in kinds places) at (kind_in kinds new)
items_set kinds [] at new = refl
items_set kinds (place ∷ places) zero new = refl
items_set kinds (place ∷ places) (suc at) new = ap (λ items. kind_in kinds place ∷ items) (items_set kinds places at new)

pub items_take : {K : Type 0} (kinds : List K) (places : List (Option ℕ)) (n : ℕ) → items_in kinds (take n places) ≡ take n (items_in kinds places)
items_take kinds places zero = refl
items_take kinds [] (suc n) = refl
items_take kinds (place ∷ places) (suc n) = ap (λ items. kind_in kinds place ∷ items) (items_take kinds places n)

pub items_length : {K : Type 0} (kinds : List K) (places : List (Option ℕ)) → length (items_in kinds places) ≡ length places
items_length kinds [] = refl
items_length kinds (place ∷ places) = ap suc (items_length kinds places)

pub items_stood : {K : Type 0} (kinds : List K) (places : List (Option ℕ)) (at : ℕ) → get_or (items_in kinds places) at None ≡ kind_in kinds (kind_at places at)
items_stood kinds places at = get_or-map (kind_in kinds) places at None

-- One more kind changes no item.
pub items_more : {K : Type 0} (kinds : List K) (kind : K) (places : List (Option ℕ)) → AreNumbered places (length kinds)
    → items_in (kinds ++ kind ∷ []) places ≡ items_in kinds places
items_more kinds kind [] numbered = refl
items_more {K} kinds kind (place ∷ places) numbered =
    rw (by place (λ number is. numbered 0 number is), items_more kinds kind places (λ at number is. numbered (suc at) number is)) refl
  where
    by : (o : Option ℕ) → ((number : ℕ) → o ≡ Some number → number < length kinds) → kind_in (kinds ++ kind ∷ []) o ≡ kind_in kinds o
    by None below = refl
    by (Some number) below = get_front kinds (kind ∷ []) number (below number refl)

-- A place without an item is empty.
pub none_stood : {K : Type 0} (kinds : List K) (places : List (Option ℕ)) (at : ℕ) → AreNumbered places (length kinds)
    → get_or (items_in kinds places) at None ≡ None → kind_at places at ≡ None
none_stood {K} kinds places at numbered none = by (kind_at places at) refl (sym (items_stood kinds places at) ∙ none)
  where
    some_in : (kinds : List K) (n : ℕ) → n < length kinds → slice_get kinds n ≡ None → ⊥
    some_in [] n below e = omega (arith, below)
    some_in (kind ∷ kinds) zero below e = cc
    some_in (kind ∷ kinds) (suc n) below e = some_in kinds n (omega (arith, below)) e

    by : (o : Option ℕ) → kind_at places at ≡ o → kind_in kinds o ≡ None → kind_at places at ≡ None
    by None is e = is
    by (Some kind) is e = absurd (some_in kinds kind (numbered at kind is) e)

-- A place with an item is not empty.
pub some_stood : {K : Type 0} (kinds : List K) (places : List (Option ℕ)) (at : ℕ) → IsSome (get_or (items_in kinds places) at None)
    → IsSome (kind_at places at)
some_stood {K} kinds places at some = by (kind_at places at) (rw (items_stood kinds places at) at some)
  where
    by : (o : Option ℕ) → IsSome (kind_in kinds o) → IsSome o
    by None bad = bad
    by (Some kind) some = refl

-- A place with a kind has an item.
pub kind_wanted : {K : Type 0} (kinds : List K) (place : Option ℕ) (kind : K) → kind_in kinds place ≡ Some kind → is_wanted None place ≡ true
kind_wanted kinds None kind e = absurd (none-some kind e)
kind_wanted kinds (Some number) kind e = refl

-- ---- an item is added

module _ {K : Type 0} (row mid next : Row K) (kind : K) (n : ℕ) (numbered : AreNumbered row.places.items (length row.kinds.items))
    (made : mid.kinds.items ≡ row.kinds.items ++ kind ∷ []) (places : mid.places ≡ row.places) (kinds : next.kinds.items ≡ mid.kinds.items) where
  -- It has a new kind.
  pub first_joined : n ≡ length row.kinds.items → next.places.items ≡ mid.places.items ++ Some n ∷ []
      → row_of next ≡ row_of row ++ Some kind ∷ []
  first_joined is joined =
      rw (
        kinds,
        made,
        joined,
        places,
        items_append (row.kinds.items ++ kind ∷ []) row.places.items (Some n ∷ []),
        items_more row.kinds.items kind row.places.items numbered,
        get_last row.kinds.items kind n is,
      )
      refl

  -- It is not added.
  pub first_kept : next.places.items ≡ mid.places.items → row_of next ≡ row_of row
  first_kept kept = rw (kinds, made, kept, places) (items_more row.kinds.items kind row.places.items numbered)

pub kind_kept : {K : Type 0} (row next : Row K) → next.kinds.items ≡ row.kinds.items → next.places.items ≡ row.places.items → row_of next ≡ row_of row
kind_kept row next kinds places = rw (kinds, places) refl

-- ---- a place changes

pub row_less : {K : Type 0} (row next : Row K) → next.kinds ≡ row.kinds
    → next.places.items ≡ take (length row.places.items - 1) row.places.items → row_of next ≡ take (length (row_of row) - 1) (row_of row)
row_less row next kinds places =
    rw (kinds, places, items_length row.kinds.items row.places.items) (items_take row.kinds.items row.places.items (length row.places.items - 1))

pub row_set : {K : Type 0} (row next : Row K) (at : ℕ) (place : Option ℕ) → next.kinds ≡ row.kinds
    → next.places.items ≡ set row.places.items at place → row_of next ≡ set (row_of row) at (kind_in row.kinds.items place)
row_set row next at place kinds places = rw (kinds, places) (items_set row.kinds.items row.places.items at place)
