-- What is kept of one invoke ID after a change at this ID or another: no change, one more item, or one item less.
use Rattle.std.proofs.Common.{◌≡◌, ◌≢◌, ◌⊎◌, inl, inr, ℤ, ◌+◌, ◌≤◌, arith, Bool, true, false, cond, List, [], ◌∷◌, ◌++◌, Option, Some, None, refl, sym, ap, ◌∙◌}
use Rattle.std.specs.Prelude.{◌||◌}
use Rattle.std.specs.List.{list_any}
use Rattle.std.specs.Map.{keys_of, remove_entry}
use Rattle.std.specs.BTreeMap.{insert_entry, is_at}
use Rattle.std.specs.Ordering.{eq_by_cmp, int_cmp}
use Rattle.std.proofs.lemmas.Bool.{both_ways}
use Rattle.std.proofs.lemmas.Cmp.{eq_by_cmp_equiv, int_cmp_total, tied_itself}
use Rattle.std.proofs.lemmas.Map.{lookup-remove_entry}
use Rattle.std.proofs.lemmas.Map.Keys.{IsDistinct-from_sorted}
use Rattle.std.proofs.lemmas.Map.Lookups.{exact_signed}
use Rattle.std.proofs.lemmas.Map.Views.{tells_apart}
use Rattle.tcap_end.specs.Half.{listed, listed_by, one_fits, with_listed, with_newest, without_oldest, without_oldest_of}
use Rattle.tcap_end.specs.ReachableEnd.{Rises}
use Rattle.tcap_end.proofs.MapLaws.{found_inserted, found_new, found_other, kept_at}
use Rattle.tcap_refute.specs.EarlierMessages.{is_invoke_id}
use Rattle.tcap_faults.specs.Counts.{count}
use Rattle.tcap_faults.proofs.list_laws.CountLaws.{count_last, count_more, one}

-- ---- invoke IDs

-- An ID equals itself.
pub id_itself : (id : ℤ) → is_invoke_id id id ≡ true
id_itself id = rw (tied_itself int_cmp_total id) refl

-- IDs that compare as equal are equal.
pub id_same : (x id : ℤ) → is_invoke_id x id ≡ true → x ≡ id
id_same x id is = tells_apart exact_signed x id is

-- The comparison is symmetric.
pub id_turned : (x id : ℤ) → is_invoke_id id x ≡ is_invoke_id x id
id_turned x id = grind arith

apart : (x id : ℤ) → is_invoke_id x id ≡ false → x ≢ id
apart x id other same = both_ways (is_invoke_id x id) other (rw same (id_itself id))

-- ---- what is kept of an ID

-- After an insertion.
pub kept_inserted : {A : Type 0} (x id : ℤ) (v : A) (items : List (ℤ × A))
    → kept_at int_cmp (insert_entry int_cmp items id v) x ≡ cond (is_invoke_id x id) (Some v) (kept_at int_cmp items x)
kept_inserted {A} x id v items = by (is_invoke_id x id) refl
  where
    found : Option A
    found = kept_at int_cmp (insert_entry int_cmp items id v) x

    was : Option A
    was = kept_at int_cmp items x

    there : (w : A) → x ≢ id → ((x ≡ id) × (w ≡ v)) ⊎ (was ≡ Some w) → was ≡ Some w
    there w other (inl new) = absurd (other (new.0))
    there w other (inr old) = old

    elsewhere : x ≢ id → (a b : Option A) → found ≡ a → was ≡ b → found ≡ was
    elsewhere other (Some w) b at_a at_b =
        at_a ∙ sym (there w other (found_inserted int_cmp_total exact_signed x id v w items at_a))
    elsewhere other None (Some w) at_a at_b =
        let bad = found_other int_cmp_total exact_signed x id v w items other at_b in cc
    elsewhere other None None at_a at_b = at_a ∙ sym at_b

    by : (b : Bool) → is_invoke_id x id ≡ b → found ≡ cond b (Some v) was
    by true here = let same = id_same x id here in rw same (found_new int_cmp_total id v items)
    by false other = elsewhere (apart x id other) found was refl refl

-- After a removal.
pub kept_removed : {A : Type 0} (x id : ℤ) (items : List (ℤ × A)) → Rises int_cmp items
    → kept_at int_cmp (remove_entry (is_at (int_cmp id)) items) x
    ≡ cond (is_invoke_id x id) None (kept_at int_cmp items x)
kept_removed x id items rises = left ∙ ap (λ b. cond b None (kept_at int_cmp items x)) (id_turned x id)
  where
    one_key : (k q : ℤ) → is_at (int_cmp id) k ≡ true → is_at (int_cmp id) q ≡ eq_by_cmp int_cmp k q
    one_key k q is = rw (tells_apart exact_signed id k is) refl

    left : kept_at int_cmp (remove_entry (is_at (int_cmp id)) items) x
        ≡ cond (is_invoke_id id x) None (kept_at int_cmp items x)
    left = lookup-remove_entry (eq_by_cmp_equiv int_cmp_total) (is_at (int_cmp id)) one_key x items
        (IsDistinct-from_sorted int_cmp (keys_of items) rises)

-- After the list of one ID is replaced.
pub listed_changed : {A : Type 0} (x id : ℤ) (list : List A) (items : List (ℤ × List A)) → Rises int_cmp items
    → listed x (with_listed id list items) ≡ cond (is_invoke_id x id) list (listed x items)
listed_changed {A} x id [] items rises = ap listed_by (kept_removed x id items rises) ∙ by (is_invoke_id x id)
  where
    by : (b : Bool) → listed_by (cond b None (kept_at int_cmp items x)) ≡ cond b [] (listed x items)
    by b = grind arith
listed_changed {A} x id (first ∷ more) items rises =
    ap listed_by (kept_inserted x id (first ∷ more) items) ∙ by (is_invoke_id x id)
  where
    by : (b : Bool)
        → listed_by (cond b (Some (first ∷ more)) (kept_at int_cmp items x)) ≡ cond b (first ∷ more) (listed x items)
    by b = grind arith

-- ---- one item less

-- The list after the oldest element that passes a test is taken, or after none is.
abbrev pub Took : {A : Type 0} → Option (A → Bool) → List A → List A → Type 0
Took None xs ys = ys ≡ xs
Took (Some fits) xs ys = (list_any fits xs ≡ true) × (ys ≡ without_oldest fits xs)

-- The element is taken from the list of one ID.
pub took_of : {A : Type 0} (x id : ℤ) (fits : A → Bool) (items : List (ℤ × List A)) → Rises int_cmp items
    → one_fits id fits items ≡ true
    → Took (cond (is_invoke_id x id) (Some fits) None) (listed x items) (listed x (without_oldest_of id fits items))
took_of {A} x id fits items rises one_is =
    by (is_invoke_id x id) refl (listed_changed x id (without_oldest fits (listed id items)) items rises)
  where
    left : List A
    left = without_oldest fits (listed id items)

    by : (b : Bool) → is_invoke_id x id ≡ b → listed x (with_listed id left items) ≡ cond b left (listed x items)
        → Took (cond b (Some fits) None) (listed x items) (listed x (with_listed id left items))
    by true here is = let same = id_same x id here in (rw same one_is, is ∙ rw same refl)
    by false other is = is

-- Whether each element that may be taken passes a second test; false if none is taken.
abbrev pub TakesWhat : {A : Type 0} → Option (A → Bool) → (A → Bool) → Type 0
TakesWhat None passes = ⊥
TakesWhat {A} (Some fits) passes = (a : A) → fits a ≡ true → passes a ≡ true

-- After the oldest is taken, no more elements pass.
fewer : {A : Type 0} (fits passes : A → Bool) (xs : List A) → count passes (without_oldest fits xs) ≤ count passes xs
fewer fits passes [] = omega arith
fewer {A} fits passes (x ∷ xs) =
    grind (arith, fewer fits passes xs, count_more passes x xs, count_more passes x (without_oldest fits xs))

-- After the oldest is taken, one less passes, if the taken one did.
one_fewer : {A : Type 0} (fits passes : A → Bool) (xs : List A) → ((a : A) → fits a ≡ true → passes a ≡ true)
    → list_any fits xs ≡ true → 1 + count passes (without_oldest fits xs) ≤ count passes xs
one_fewer fits passes [] shows found = cc
one_fewer {A} fits passes (x ∷ xs) shows found = by (fits x) refl found (one_fewer fits passes xs shows)
  where
    by : (b : Bool) → fits x ≡ b → (b || list_any fits xs) ≡ true
        → (list_any fits xs ≡ true → 1 + count passes (without_oldest fits xs) ≤ count passes xs)
        → 1 + count passes (cond b xs (x ∷ without_oldest fits xs)) ≤ count passes (x ∷ xs)
    by true fits_it is rest =
        let passes_it = shows x fits_it in omega (arith, count_more passes x xs, ap one passes_it)
    by false other is rest =
        omega (arith, rest is, count_more passes x xs, count_more passes x (without_oldest fits xs))

-- If an element that passes is taken whenever `b` holds, it and those that are left are at most those before.
pub count_taken : {A : Type 0} (o : Option (A → Bool)) (passes : A → Bool) (b : Bool) (xs ys : List A) → Took o xs ys
    → (b ≡ true → TakesWhat o passes) → one b + count passes ys ≤ count passes xs
count_taken None passes true xs ys took shows = absurd (shows refl)
count_taken None passes false xs ys took shows = rw took (omega arith)
count_taken (Some fits) passes true xs ys took shows = rw (took.1) (one_fewer fits passes xs (shows refl) took.0)
count_taken (Some fits) passes false xs ys took shows =
    rw (took.1) (let less = fewer fits passes xs in omega (arith, less))

-- ---- one item more

-- One element is added as the newest, or none is.
abbrev pub Gained : {A : Type 0} → Option A → List A → List A → Type 0
Gained None xs ys = ys ≡ xs
Gained (Some a) xs ys = ys ≡ xs ++ a ∷ []

-- The element is added to the list of one ID.
pub gained_of : {A : Type 0} (x id : ℤ) (a : A) (items : List (ℤ × List A)) → Rises int_cmp items
    → Gained (cond (is_invoke_id x id) (Some a) None) (listed x items) (listed x (with_newest id a items))
gained_of {A} x id a items rises = by (is_invoke_id x id) refl (listed_changed x id more items rises)
  where
    more : List A
    more = listed id items ++ a ∷ []

    by : (b : Bool) → is_invoke_id x id ≡ b → listed x (with_listed id more items) ≡ cond b more (listed x items)
        → Gained (cond b (Some a) None) (listed x items) (listed x (with_listed id more items))
    by true here is = let same = id_same x id here in is ∙ rw same refl
    by false other is = is

-- Whether the added element passes a test.
abbrev pub gain : {A : Type 0} → (A → Bool) → Option A → Bool
gain passes None = false
gain passes (Some a) = passes a

pub count_gained : {A : Type 0} (o : Option A) (passes : A → Bool) (xs ys : List A) → Gained o xs ys
    → count passes ys ≡ count passes xs + one (gain passes o)
count_gained None passes xs ys gained = rw gained (omega arith)
count_gained (Some a) passes xs ys gained = rw gained (count_last passes xs a)
