-- Lists whose entries without a value are left out: lookups and insertions.
use Rattle.std.proofs.Common.{◌≡◌, ℤ, List, [], ◌∷◌, Option, Some, None, refl, sym, ap, ◌∙◌}
use Rattle.std.specs.Prelude.{cond, option_and_then}
use Rattle.std.specs.Ordering.{int_cmp, is_eq, match_ordering}
use Rattle.std.specs.declared.cmp.Ordering.{Ordering}
use Rattle.std.specs.declared.cmp.Ordering.TheVariants.{Less, Equal, Greater}
use Rattle.std.proofs.lemmas.Cmp.{int_cmp_total}
use Rattle.std.proofs.lemmas.Option.{none-some}
use Rattle.std.specs.FinMap.{int_cmp-IsAntisymmetric}
use Rattle.std.specs.List.{AllByRecursion}
use Rattle.std.specs.List.Sorted.{IsStrictlySortedBy}
use Rattle.std.specs.Map.{keys_of, lookup, remove_entry}
use Rattle.std.specs.BTreeMap.{insert_entry, is_at}
use Rattle.tcap_lists.specs.Items.{Rises, listed, listed_by, with_listed}
use Rattle.tcap_lists.specs.Lists.{keep, kept_entry, some_items}
use Rattle.tcap_lists.proofs.MapLaws.{below_all, found_new, insert_again, insert_twice, rises_inserted}

abbrev Above : {B : Type 0} → ℤ → List (ℤ × B) → Type 0
Above id entries = AllByRecursion (λ key. int_cmp id key ≡ Less) (keys_of entries)

-- ---- entries above an ID

keep_above : {A B : Type 0} (f : A → Option B) (id : ℤ) (es : List (ℤ × A)) → Above id es → Above id (keep f es)
keep_above f id [] above = tt
keep_above {A} {B} f id (e ∷ es) above = by (f e.1) (keep_above f id es above.1)
  where
    by : (o : Option B) → Above id (keep f es) → Above id (kept_entry e.0 o (keep f es))
    by None rest = rest
    by (Some b) rest = (above.0, rest)

keep_rises : {A B : Type 0} (f : A → Option B) (es : List (ℤ × A)) → Rises int_cmp es → Rises int_cmp (keep f es)
unfolding IsStrictlySortedBy
keep_rises f [] rises = tt
keep_rises {A} {B} f (e ∷ es) rises = by (f e.1) (keep_above f e.0 es rises.0) (keep_rises f es rises.1)
  where
    by : (o : Option B) → Above e.0 (keep f es) → Rises int_cmp (keep f es) → Rises int_cmp (kept_entry e.0 o (keep f es))
    by None above rest = rest
    by (Some b) above rest = (above, rest)

pub lookup_above : {B : Type 0} (id : ℤ) (es : List (ℤ × B)) → Above id es → lookup (is_at (int_cmp id)) es ≡ None
lookup_above id [] above = refl
lookup_above id (e ∷ es) above = rw above.0 (lookup_above id es above.1)

insert_above : {B : Type 0} (id : ℤ) (b : B) (es : List (ℤ × B)) → Above id es → insert_entry int_cmp es id b ≡ (id, b) ∷ es
insert_above id b [] above = refl
insert_above id b (e ∷ es) above = rw above.0 refl

remove_above : {B : Type 0} (id : ℤ) (es : List (ℤ × B)) → Above id es → remove_entry (is_at (int_cmp id)) es ≡ es
remove_above id [] above = refl
remove_above id (e ∷ es) above = rw above.0 (ap (λ more. e ∷ more) (remove_above id es above.1))

-- ---- the entries with a value

pub lookup_keep : {A B : Type 0} (f : A → Option B) (id : ℤ) (es : List (ℤ × A)) → Rises int_cmp es
    → lookup (is_at (int_cmp id)) (keep f es) ≡ option_and_then f (lookup (is_at (int_cmp id)) es)
unfolding IsStrictlySortedBy
lookup_keep f id [] rises = refl
lookup_keep {A} {B} f id (e ∷ es) rises = by (int_cmp id e.0) refl (f e.1) refl (lookup_keep f id es rises.1)
  where
    by : (r : Ordering) → int_cmp id e.0 ≡ r → (o : Option B) → f e.1 ≡ o
        → lookup (is_at (int_cmp id)) (keep f es) ≡ option_and_then f (lookup (is_at (int_cmp id)) es)
        → lookup (is_at (int_cmp id)) (kept_entry e.0 o (keep f es))
        ≡ option_and_then f (cond (is_eq r) (Some e.1) (lookup (is_at (int_cmp id)) es))
    by Equal is None kept rest =
        rw kept (lookup_above id (keep f es) (keep_above f id es (rw (int_cmp-IsAntisymmetric id e.0 is) rises.0)))
    by Equal is (Some b) kept rest = rw (is, kept) refl
    by Less is None kept rest = rest
    by Less is (Some b) kept rest = rw is rest
    by Greater is None kept rest = rest
    by Greater is (Some b) kept rest = rw is rest

pub insert_keep : {A B : Type 0} (f : A → Option B) (id : ℤ) (a : A) (b : B) (es : List (ℤ × A)) → Rises int_cmp es → f a ≡ Some b
    → keep f (insert_entry int_cmp es id a) ≡ insert_entry int_cmp (keep f es) id b
unfolding IsStrictlySortedBy
insert_keep f id a b [] rises is_b = rw is_b refl
insert_keep {A} {B} f id a b (e ∷ es) rises is_b = by (int_cmp id e.0) refl (f e.1) refl (insert_keep f id a b es rises.1 is_b)
  where
    by : (r : Ordering) → int_cmp id e.0 ≡ r → (o : Option B) → f e.1 ≡ o
        → keep f (insert_entry int_cmp es id a) ≡ insert_entry int_cmp (keep f es) id b
        → keep f (match_ordering r ((id, a) ∷ e ∷ es) ((e.0, a) ∷ es) (e ∷ insert_entry int_cmp es id a))
        ≡ insert_entry int_cmp (kept_entry e.0 o (keep f es)) id b
    by Less is None kept rest =
        rw (is_b, kept) (sym (insert_above id b (keep f es) (keep_above f id es (below_all int_cmp_total id e.0 (keys_of es) is rises.0))))
    by Less is (Some x) kept rest = rw (is_b, kept, is) refl
    by Equal is None kept rest = let same : id ≡ e.0 = int_cmp-IsAntisymmetric id e.0 is in
        rw (is_b, same) (sym (insert_above e.0 b (keep f es) (keep_above f e.0 es rises.0)))
    by Equal is (Some x) kept rest = rw (is_b, is) refl
    by Greater is None kept rest = rw kept rest
    by Greater is (Some x) kept rest = rw (kept, is) (ap (λ more. (e.0, x) ∷ more) rest)

pub insert_dropped : {A B : Type 0} (f : A → Option B) (id : ℤ) (a : A) (es : List (ℤ × A)) → Rises int_cmp es → f a ≡ None
    → keep f (insert_entry int_cmp es id a) ≡ remove_entry (is_at (int_cmp id)) (keep f es)
unfolding IsStrictlySortedBy
insert_dropped f id a [] rises is_none = rw is_none refl
insert_dropped {A} {B} f id a (e ∷ es) rises is_none =
    by (int_cmp id e.0) refl (f e.1) refl (insert_dropped f id a es rises.1 is_none)
  where
    by : (r : Ordering) → int_cmp id e.0 ≡ r → (o : Option B) → f e.1 ≡ o
        → keep f (insert_entry int_cmp es id a) ≡ remove_entry (is_at (int_cmp id)) (keep f es)
        → keep f (match_ordering r ((id, a) ∷ e ∷ es) ((e.0, a) ∷ es) (e ∷ insert_entry int_cmp es id a))
        ≡ remove_entry (is_at (int_cmp id)) (kept_entry e.0 o (keep f es))
    by Less is None kept rest =
        rw (is_none, kept) (sym (remove_above id (keep f es) (keep_above f id es (below_all int_cmp_total id e.0 (keys_of es) is rises.0))))
    by Less is (Some x) kept rest =
        rw (is_none, kept, is)
        (ap (λ more. (e.0, x) ∷ more)
        (sym (remove_above id (keep f es) (keep_above f id es (below_all int_cmp_total id e.0 (keys_of es) is rises.0)))))
    by Equal is None kept rest = let same : id ≡ e.0 = int_cmp-IsAntisymmetric id e.0 is in
        rw (is_none, same) (sym (remove_above e.0 (keep f es) (keep_above f e.0 es rises.0)))
    by Equal is (Some x) kept rest = rw (is_none, is) refl
    by Greater is None kept rest = rw kept rest
    by Greater is (Some x) kept rest = rw (kept, is) (ap (λ more. (e.0, x) ∷ more) rest)

pub remove_keep : {A B : Type 0} (f : A → Option B) (id : ℤ) (es : List (ℤ × A)) → Rises int_cmp es
    → keep f (remove_entry (is_at (int_cmp id)) es) ≡ remove_entry (is_at (int_cmp id)) (keep f es)
unfolding IsStrictlySortedBy
remove_keep f id [] rises = refl
remove_keep {A} {B} f id (e ∷ es) rises = by (int_cmp id e.0) refl (f e.1) refl (remove_keep f id es rises.1)
  where
    by : (r : Ordering) → int_cmp id e.0 ≡ r → (o : Option B) → f e.1 ≡ o
        → keep f (remove_entry (is_at (int_cmp id)) es) ≡ remove_entry (is_at (int_cmp id)) (keep f es)
        → keep f (cond (is_eq r) es (e ∷ remove_entry (is_at (int_cmp id)) es)) ≡ remove_entry (is_at (int_cmp id)) (kept_entry e.0 o (keep f es))
    by Equal is None kept rest =
        sym (remove_above id (keep f es) (keep_above f id es (rw (int_cmp-IsAntisymmetric id e.0 is) rises.0)))
    by Equal is (Some x) kept rest = rw is refl
    by Less is None kept rest = rw kept rest
    by Less is (Some x) kept rest = rw (kept, is) (ap (λ more. (e.0, x) ∷ more) rest)
    by Greater is None kept rest = rw kept rest
    by Greater is (Some x) kept rest = rw (kept, is) (ap (λ more. (e.0, x) ∷ more) rest)

-- ---- lists by invoke IDs

pub remove_absent : {B : Type 0} (id : ℤ) (m : List (ℤ × B))
    → lookup (is_at (int_cmp id)) m ≡ None → remove_entry (is_at (int_cmp id)) m ≡ m
remove_absent id [] absent = refl
remove_absent {B} id (e ∷ m) absent = by (int_cmp id e.0) absent (remove_absent id m)
  where
    by : (r : Ordering) → cond (is_eq r) (Some e.1) (lookup (is_at (int_cmp id)) m) ≡ None
        → (lookup (is_at (int_cmp id)) m ≡ None → remove_entry (is_at (int_cmp id)) m ≡ m)
        → cond (is_eq r) m (e ∷ remove_entry (is_at (int_cmp id)) m) ≡ e ∷ m
    by Equal some rest = absurd (none-some e.1 (sym some))
    by Less none rest = ap (λ more. e ∷ more) (rest none)
    by Greater none rest = ap (λ more. e ∷ more) (rest none)

pub some_listed : {A : Type 0} (items : List A) → listed_by (some_items items) ≡ items
some_listed [] = refl
some_listed (x ∷ xs) = refl

-- the list of a value, or none without a value
abbrev pub list_in : {V A : Type 0} → (V → List A) → Option V → List A
list_in list None = []
list_in list (Some value) = list value

-- Each value means a list.
module _ {V A : Type 0} (list : V → List A) (id : ℤ) (es : List (ℤ × V)) (rises : Rises int_cmp es) where
  -- the items of an ID
  pub listed_keep : listed id (keep (λ v. some_items (list v)) es) ≡ list_in list (lookup (is_at (int_cmp id)) es)
  listed_keep = ap listed_by (lookup_keep (λ v. some_items (list v)) id es rises) ∙ by (lookup (is_at (int_cmp id)) es)
    where
      by : (o : Option V) → listed_by (option_and_then (λ v. some_items (list v)) o) ≡ list_in list o
      by None = refl
      by (Some v) = some_listed (list v)

  -- an ID gets a value
  pub insert_listed : (v : V) → keep (λ v. some_items (list v)) (insert_entry int_cmp es id v)
      ≡ with_listed id (list v) (keep (λ v. some_items (list v)) es)
  insert_listed v = by (list v) refl
    where
      by : (items : List A) → list v ≡ items → keep (λ v. some_items (list v)) (insert_entry int_cmp es id v)
          ≡ with_listed id items (keep (λ v. some_items (list v)) es)
      by [] is = insert_dropped (λ v. some_items (list v)) id v es rises (ap some_items is)
      by (x ∷ xs) is = insert_keep (λ v. some_items (list v)) id v (x ∷ xs) es rises (ap some_items is)

-- The lists are in the order of their IDs, and none is empty.
pub record Whole {A : Type 0} (m : List (ℤ × List A)) : Type 0 where
  pub rises : Rises int_cmp m
  pub same : keep some_items m ≡ m

pub whole_keep : {V A : Type 0} (list : V → List A) (es : List (ℤ × V)) → Rises int_cmp es → Whole (keep (λ v. some_items (list v)) es)
whole_keep {V} {A} list es rises = record { rises = keep_rises (λ v. some_items (list v)) es rises; same = all es }
  where
    all : (es : List (ℤ × V)) → keep some_items (keep (λ v. some_items (list v)) es) ≡ keep (λ v. some_items (list v)) es
    all [] = refl
    all (e ∷ es) = by (list e.1) (all es)
      where
        by : (items : List A) → keep some_items (keep (λ v. some_items (list v)) es) ≡ keep (λ v. some_items (list v)) es
            → keep some_items (kept_entry e.0 (some_items items) (keep (λ v. some_items (list v)) es))
            ≡ kept_entry e.0 (some_items items) (keep (λ v. some_items (list v)) es)
        by [] rest = rest
        by (x ∷ xs) rest = ap (λ more. (e.0, x ∷ xs) ∷ more) rest

module _ {A : Type 0} (id : ℤ) (m : List (ℤ × List A)) (whole : Whole m) where
  inserted : (items : List A) → keep some_items (insert_entry int_cmp m id items) ≡ with_listed id items m
  inserted items = insert_listed (λ items. items) id m whole.rises items ∙ ap (with_listed id items) whole.same

  -- the items of an ID after it got a list
  pub listed_with : (items : List A) → listed id (with_listed id items m) ≡ items
  listed_with items =
      ap (listed id) (sym (inserted items))
      ∙ listed_keep (λ items. items) id (insert_entry int_cmp m id items) (rises_inserted int_cmp_total m id items whole.rises)
      ∙ ap (list_in (λ items. items)) (found_new int_cmp_total id items m)

  -- The second of two lists for an ID counts.
  pub given_twice : (first second : List A) → with_listed id second (with_listed id first m) ≡ with_listed id second m
  given_twice first second =
      ap (with_listed id second) (sym (inserted first))
      ∙ sym (insert_listed (λ items. items) id (insert_entry int_cmp m id first) (rises_inserted int_cmp_total m id first whole.rises) second)
      ∙ ap (keep some_items) (insert_twice int_cmp_total id first second m)
      ∙ inserted second

  -- Giving an ID its own items changes nothing.
  pub given_back : with_listed id (listed id m) m ≡ m
  given_back = by (lookup (is_at (int_cmp id)) m) refl (lookup_keep some_items id m whole.rises)
    where
      by : (o : Option (List A)) → lookup (is_at (int_cmp id)) m ≡ o
          → lookup (is_at (int_cmp id)) (keep some_items m) ≡ option_and_then some_items (lookup (is_at (int_cmp id)) m)
          → with_listed id (listed id m) m ≡ m
      by None e there = rw e (remove_absent id m e)
      by (Some []) e there = rw e (remove_absent id m (ap (lookup (is_at (int_cmp id))) (sym whole.same) ∙ there ∙ ap (option_and_then some_items) e))
      by (Some (x ∷ xs)) e there = rw e (insert_again int_cmp_total id (x ∷ xs) m whole.rises e)
