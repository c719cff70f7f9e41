-- Reading and changing one row of the lists.
use Rattle.std.proofs.Common.{◌≡◌, ◌≢◌, ◌⊎◌, inl, inr, ℕ, suc, ℤ, true, false, get_or, List, [], ◌∷◌, ◌++◌, Option, Some, None, Result, Ok, Err, OnOk, refl, sym, ap, subst, ◌∙◌}
use Rattle.std.specs.Prelude.{IsSome, cond, is_some, option_and_then, option_map}
use Rattle.std.specs.Borrow.{Bor}
use Rattle.std.specs.List.{slice_get}
use Rattle.std.specs.Ordering.{int_cmp, is_eq, match_ordering}
use Rattle.std.specs.declared.cmp.Ordering.{Ordering}
use Rattle.std.specs.declared.cmp.Ordering.TheVariants.{Less, Equal, Greater}
use Rattle.std.specs.Global.{Box}
use Rattle.std.specs.List.Sorted.{IsStrictlySortedBy}
use Rattle.std.specs.Map.{keys_of, lookup, set_value}
use Rattle.std.specs.Option.{MatchOption}
use Rattle.std.specs.BTreeMap.{insert_entry, is_at}
use Rattle.std.specs.FinMap.{int_cmp-IsAntisymmetric}
use Rattle.std.proofs.lemmas.Cmp.{int_cmp_total}
use Rattle.std.proofs.lemmas.Option.{none-some}
use Rattle.tcap_lists.specs.declared.lists.Lists.{Lists}
use Rattle.tcap_lists.specs.declared.row.Row.{Row}
use Rattle.tcap_lists.specs.Items.{Rises, listed, listed_by, with_listed, with_newest}
use Rattle.tcap_lists.specs.Lists.{HasRow, items_of, keep, kind_of, row_in, row_of, rows_of, some_items}
use Rattle.tcap_lists.specs.Row.{filled, fits_in, is_wanted, items_in, kind_at, kind_in, place_of}
use Rattle.tcap_lists.proofs.KeepLaws.{Whole, given_back, insert_listed, list_in, listed_keep, lookup_above, lookup_keep, remove_keep, some_listed, whole_keep}
use Rattle.tcap_lists.proofs.PlaceLaws.{none_at_all, oldest_fits}
use Rattle.tcap_lists.proofs.MapLaws.{below_all, found_new, found_other, keys_eq, still_found}

pub whole_rows : {K : Type 0} (l : Lists K) → Whole (rows_of l)
whole_rows l = whole_keep row_in l.rows.entries l.ordered

-- ---- items without their places

module _ {A : Type 0} (id : ℤ) (m : List (ℤ × List (Option A))) (rises : Rises int_cmp m) where
  pub listed_items : listed id (items_of m) ≡ filled (listed id m)
  listed_items = ap listed_by (lookup_keep (λ row. some_items (filled row)) id m rises) ∙ by (lookup (is_at (int_cmp id)) m)
    where
      by : (o : Option (List (Option A))) → listed_by (option_and_then (λ row. some_items (filled row)) o) ≡ filled (listed_by o)
      by None = refl
      by (Some row) = some_listed (filled row)

  pub items_with : (row : List (Option A)) → items_of (with_listed id row m) ≡ with_listed id (filled row) (items_of m)
  items_with [] = remove_keep (λ row. some_items (filled row)) id m rises
  items_with (place ∷ places) = insert_listed filled id m rises (place ∷ places)

filled_newest : {A : Type 0} (places : List (Option A)) (item : A) → filled (places ++ Some item ∷ []) ≡ filled places ++ item ∷ []
filled_newest [] item = refl
filled_newest (None ∷ places) item = filled_newest places item
filled_newest (Some first ∷ places) item = ap (λ more. first ∷ more) (filled_newest places item)

-- one more item
pub items_newest : {A : Type 0} (id : ℤ) (item : A) (m : List (ℤ × List (Option A))) → Whole m
    → items_of (with_newest id (Some item) m) ≡ with_newest id item (items_of m)
items_newest id item m whole =
    items_with id m whole.rises (listed id m ++ Some item ∷ [])
    ∙ ap (λ items. with_listed id items (items_of m))
    (filled_newest (listed id m) item ∙ ap (λ items. items ++ item ∷ []) (sym (listed_items id m whole.rises)))

-- ---- lookups

module _ {K : Type 0} (id : ℤ) (l : Lists K) where
  kept_row : listed id (rows_of l) ≡ list_in row_in (lookup (is_at (int_cmp id)) l.rows.entries)
  kept_row = listed_keep row_in id l.rows.entries l.ordered

  -- the row is there
  module _ (row : Box (Row K)) (found : Some row ≡ lookup (is_at (int_cmp id)) l.rows.entries) where
    pub got_row : row_of row.value ≡ listed id (rows_of l)
    got_row = ap (list_in row_in) found ∙ sym kept_row

    pub got_kinds : (number : ℕ) → slice_get row.value.kinds.items number ≡ kind_of id number l
    got_kinds number = ap (option_and_then (λ row. slice_get row.value.kinds.items number)) found

    pub got_has : HasRow id l
    got_has = sym (ap is_some found)

  -- the row is not there
  pub got_none : None ≡ lookup (is_at (int_cmp id)) l.rows.entries → listed id (rows_of l) ≡ []
  got_none none = kept_row ∙ ap (list_in row_in) (sym none)

  pub has_none : None ≡ lookup (is_at (int_cmp id)) l.rows.entries → HasRow id l → ⊥
  has_none none has = let wrong : false ≡ true = ap is_some none ∙ has in cc

-- An ID whose row has a kind or an item has a row.
pub kind_row : {K : Type 0} (id : ℤ) (number : ℕ) (l : Lists K) → IsSome (kind_of id number l) → HasRow id l
kind_row {K} id number l some = by (lookup (is_at (int_cmp id)) l.rows.entries) some
  where
    by : (o : Option (Box (Row K))) → IsSome (option_and_then (λ row. slice_get row.value.kinds.items number) o) → IsSome o
    by None bad = bad
    by (Some row) some = refl

pub item_row : {K : Type 0} (id : ℤ) (at : ℕ) (l : Lists K) → IsSome (get_or (listed id (rows_of l)) at None) → HasRow id l
item_row {K} id at l some = by (lookup (is_at (int_cmp id)) l.rows.entries) (rw (kept_row id l) at some)
  where
    by : (o : Option (Box (Row K))) → IsSome (get_or (list_in row_in o) at None) → IsSome o
    by None bad = bad
    by (Some row) some = refl

-- ---- a row is changed

-- Setting the value of a present ID is an insertion.
set_inserts : {B : Type 0} (id : ℤ) (was new : B) (es : List (ℤ × B)) → Rises int_cmp es → Some was ≡ lookup (is_at (int_cmp id)) es
    → set_value (is_at (int_cmp id)) es new ≡ insert_entry int_cmp es id new
unfolding IsStrictlySortedBy
set_inserts id was new [] rises bad = absurd (none-some was (sym bad))
set_inserts {B} id was new (e ∷ es) rises found = by (int_cmp id e.0) refl found (set_inserts id was new es rises.1)
  where
    by : (r : Ordering) → int_cmp id e.0 ≡ r → Some was ≡ cond (is_eq r) (Some e.1) (lookup (is_at (int_cmp id)) es)
        → (Some was ≡ lookup (is_at (int_cmp id)) es → set_value (is_at (int_cmp id)) es new ≡ insert_entry int_cmp es id new)
        → cond (is_eq r) ((e.0, new) ∷ es) (e ∷ set_value (is_at (int_cmp id)) es new)
        ≡ match_ordering r ((id, new) ∷ e ∷ es) ((e.0, new) ∷ es) (e ∷ insert_entry int_cmp es id new)
    by Equal is here rest = refl
    by Greater is there rest = ap (λ more. e ∷ more) (rest there)
    by Less is there rest = absurd (none-some was
        (sym (lookup_above id es (below_all int_cmp_total id e.0 (keys_of es) is rises.0)) ∙ sym there))

module _ {K : Type 0} (id : ℤ) (es next : List (ℤ × Box (Row K))) (rises : Rises int_cmp es) (row : Box (Row K))
    (given : next ≡ insert_entry int_cmp es id row) where
  pub given_rows : keep (λ row. some_items (row_in row)) next
      ≡ with_listed id (row_in row) (keep (λ row. some_items (row_in row)) es)
  given_rows = ap (keep (λ row. some_items (row_in row))) given ∙ insert_listed row_in id es rises row

  found_here : lookup (is_at (int_cmp id)) next ≡ Some row
  found_here = ap (lookup (is_at (int_cmp id))) given ∙ found_new int_cmp_total id row es

  pub given_has : IsSome (lookup (is_at (int_cmp id)) next)
  given_has = rw found_here refl

  found_there : (other : ℤ) (was : Box (Row K)) → other ≢ id → lookup (is_at (int_cmp other)) es ≡ Some was
      → lookup (is_at (int_cmp other)) next ≡ Some was
  found_there other was apart found =
      ap (lookup (is_at (int_cmp other))) given ∙ found_other int_cmp_total int_cmp-IsAntisymmetric other id row was es apart found

  pub given_keeps_rows : (other : ℤ) → IsSome (lookup (is_at (int_cmp other)) es) → IsSome (lookup (is_at (int_cmp other)) next)
  given_keeps_rows other has =
      subst (λ rows. IsSome (lookup (is_at (int_cmp other)) rows)) (sym given) (still_found int_cmp_total other id row es has)

  -- If the row of this ID keeps its kinds, all rows do.
  pub given_keeps_kinds : ((number : ℕ)
      → IsSome (option_and_then (λ row. slice_get row.value.kinds.items number) (lookup (is_at (int_cmp id)) es))
      → slice_get row.value.kinds.items number
      ≡ option_and_then (λ row. slice_get row.value.kinds.items number) (lookup (is_at (int_cmp id)) es))
      → (other : ℤ) (number : ℕ)
      → IsSome (option_and_then (λ row. slice_get row.value.kinds.items number) (lookup (is_at (int_cmp other)) es))
      → option_and_then (λ row. slice_get row.value.kinds.items number) (lookup (is_at (int_cmp other)) next)
      ≡ option_and_then (λ row. slice_get row.value.kinds.items number) (lookup (is_at (int_cmp other)) es)
  given_keeps_kinds keeps other number some = kinds_at some (keys_eq int_cmp_total int_cmp-IsAntisymmetric other id)
    where
      kind_with : ℤ → List (ℤ × Box (Row K)) → Option K
      kind_with q entries = option_and_then (λ row. slice_get row.value.kinds.items number) (lookup (is_at (int_cmp q)) entries)

      kinds_at : IsSome (kind_with other es) → (other ≡ id) ⊎ (other ≢ id) → kind_with other next ≡ kind_with other es
      kinds_at some (inl e) = rw e (ap (option_and_then (λ row. slice_get row.value.kinds.items number)) found_here ∙ keeps number (rw e at some))
      kinds_at some (inr apart) = by (lookup (is_at (int_cmp other)) es) refl some
        where
          by : (o : Option (Box (Row K))) → lookup (is_at (int_cmp other)) es ≡ o
              → IsSome (option_and_then (λ row. slice_get row.value.kinds.items number) o) → kind_with other next ≡ kind_with other es
          by None e bad = let wrong : false ≡ true = bad in cc
          by (Some was) e some =
              ap (option_and_then (λ row. slice_get row.value.kinds.items number)) (found_there other was apart e ∙ sym e)

-- An existing row is changed.
module _ {K : Type 0} (id : ℤ) (l : Lists K) (next : List (ℤ × Box (Row K))) (was row : Box (Row K))
    (found : Some was ≡ lookup (is_at (int_cmp id)) l.rows.entries)
    (set : next ≡ set_value (is_at (int_cmp id)) l.rows.entries row) where
  given : next ≡ insert_entry int_cmp l.rows.entries id row
  given = set ∙ set_inserts id was row l.rows.entries l.ordered found

  pub changed_as : (f : List (Option K) → List (Option K)) → row_of row.value ≡ f (row_of was.value)
      → keep (λ row. some_items (row_in row)) next ≡ with_listed id (f (listed id (rows_of l))) (rows_of l)
  changed_as f made = given_rows id l.rows.entries next l.ordered row given
      ∙ ap (λ items. with_listed id items (rows_of l)) (made ∙ ap f (got_row id l was found))

  -- Its items are unchanged.
  pub changed_same : row_of row.value ≡ row_of was.value → keep (λ row. some_items (row_in row)) next ≡ rows_of l
  changed_same same = changed_as (λ items. items) same ∙ given_back id (rows_of l) (whole_rows l)

  pub changed_has : IsSome (lookup (is_at (int_cmp id)) next)
  changed_has = given_has id l.rows.entries next l.ordered row given

-- A row is made for an ID without one.
module _ {K : Type 0} (id : ℤ) (l : Lists K) (next : List (ℤ × Box (Row K))) (row : Box (Row K))
    (none : None ≡ lookup (is_at (int_cmp id)) l.rows.entries) (given : next ≡ insert_entry int_cmp l.rows.entries id row) where
  pub made_same : row_of row.value ≡ [] → keep (λ row. some_items (row_in row)) next ≡ rows_of l
  made_same empty = given_rows id l.rows.entries next l.ordered row given
      ∙ ap (λ items. with_listed id items (rows_of l)) (empty ∙ sym (got_none id l none))
      ∙ given_back id (rows_of l) (whole_rows l)

  pub made_keeps_rows : (other : ℤ) → HasRow other l → IsSome (lookup (is_at (int_cmp other)) next)
  made_keeps_rows = given_keeps_rows id l.rows.entries next l.ordered row given

  pub made_keeps_kinds : (other : ℤ) (number : ℕ) → IsSome (kind_of other number l)
      → option_and_then (λ row. slice_get row.value.kinds.items number) (lookup (is_at (int_cmp other)) next) ≡ kind_of other number l
  made_keeps_kinds = given_keeps_kinds id l.rows.entries next l.ordered row given
      (λ number some. absurd (has_none id l none (kind_row id number l some)))

-- ---- whether the row existed or not

pub on_ok : {T E P : Type 0} (r : Result T E) → P → OnOk r P
on_ok (Ok _) p = p
on_ok (Err _) p = tt

-- ---- the oldest item of a row

-- whether there is one
pub oldest_there : {K : Type 0} (row : Row K) (found : Option (ℕ × Bor K))
    → MatchOption found (place_of (is_wanted None) row.places.items ≡ None)
    (λ first. (place_of (is_wanted None) row.places.items ≡ Some first.0)
    × (kind_in row.kinds.items (kind_at row.places.items first.0) ≡ Some first.1.now))
    → is_some found ≡ is_some (place_of (fits_in (λ item. true)) (row_of row))
oldest_there row None none = sym (ap is_some (none_at_all (λ item. true) row.kinds.items row.places.items none))
oldest_there row (Some first) there =
    sym (ap is_some (oldest_fits (λ item. true) row.kinds.items row.places.items first.0 first.1.now there.0 there.1 refl))

-- ---- a row without items is dropped

none_filled : {K : Type 0} (kinds : List K) (places : List (Option ℕ)) → place_of (is_wanted None) places ≡ None
    → filled (items_in kinds places) ≡ []
none_filled kinds [] e = refl
none_filled kinds (None ∷ places) e = none_filled kinds places (by (place_of (is_wanted None) places) e)
  where
    by : (place : Option ℕ) → option_map suc place ≡ None → place ≡ None
    by None e = refl
    by (Some n) bad = absurd (none-some (suc n) (sym bad))
none_filled kinds (Some kind ∷ places) bad = absurd (none-some 0 (sym bad))

-- The row becomes an empty one.
pub emptied : {K : Type 0} (id : ℤ) (l : Lists K) (next : List (ℤ × Box (Row K))) (was row : Box (Row K))
    → Some was ≡ lookup (is_at (int_cmp id)) l.rows.entries → next ≡ set_value (is_at (int_cmp id)) l.rows.entries row
    → place_of (is_wanted None) was.value.places.items ≡ None → row_of row.value ≡ []
    → items_of (keep (λ row. some_items (row_in row)) next) ≡ items_of (rows_of l)
emptied {K} id l next was row found set none is_empty =
    ap (λ (rows : List (ℤ × List (Option K))). items_of rows) (changed_as id l next was row found set (λ items. []) is_empty)
    ∙ items_with id (rows_of l) (whole_rows l).rises []
    ∙ ap (λ items. with_listed id items (items_of (rows_of l))) (sym none_kept)
    ∙ given_back id (items_of (rows_of l)) (whole_keep filled (rows_of l) (whole_rows l).rises)
  where
    none_kept : listed id (items_of (rows_of l)) ≡ []
    none_kept = listed_items id (rows_of l) (whole_rows l).rises ∙ ap filled (sym (got_row id l was found))
        ∙ none_filled was.value.kinds.items was.value.places.items none
