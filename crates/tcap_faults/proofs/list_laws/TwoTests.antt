-- Lists with two tests, and with functions of their elements.
use Rattle.std.proofs.Common.{◌≡◌, ◌⊎◌, inl, inr, ℕ, Bool, true, false, cond, not, ◌&&◌, ◌||◌, List, [], ◌∷◌, Option, Some, None, bytes_eq, filter, is_some, refl, ap, ◌∙◌, arith}
use Rattle.std.specs.Prelude.{Contains, filter_map}
use Rattle.std.specs.List.{cons_option, find, flat_map, list_any}
use Rattle.std.proofs.lemmas.Bool.{both_ways, false_from_ne_true}
use Rattle.std.proofs.lemmas.List.Elements.{Contains-append_cases, filter_agree}
use Rattle.std.proofs.Math.Path.{fun_ext}
use Rattle.tcap_end.specs.End.{is_id}
use Rattle.tcap_model.proofs.ListLaws.{contains_first}
use Rattle.tcap_refute.proofs.Members.{any_has, has_first, has_later, has_not}
use Rattle.tcap_faults.specs.Counts.{is_nothing}
use Rattle.tcap_faults.proofs.list_laws.FindLaws.{any_is}

pub and_turned : (a b : Bool) → (a && b) ≡ (b && a)
and_turned a b = grind arith

-- ---- two tests

-- Two filters keep what both tests keep.
pub filter_both : {A : Type 0} (p q : A → Bool) (xs : List A) → filter q (filter p xs) ≡ filter (λ x. p x && q x) xs
filter_both p q [] = refl
filter_both {A} p q (x ∷ xs) = by (p x) (filter_both p q xs)
  where
    both : List A
    both = filter (λ y. p y && q y) xs

    by : (b : Bool) → filter q (filter p xs) ≡ both
        → filter q (cond b (x ∷ filter p xs) (filter p xs)) ≡ cond (b && q x) (x ∷ both) both
    by b rest = grind (arith, rest)

-- The order of two tests does not matter.
pub filter_turned : {A : Type 0} (p q : A → Bool) (xs : List A) → filter q (filter p xs) ≡ filter (λ x. q x && p x) xs
filter_turned p q xs = filter_both p q xs ∙ filter_agree _ _ (λ x. and_turned (p x) (q x)) xs

-- A test of what a filter keeps finds what both tests find.
pub any_both : {A : Type 0} (p q : A → Bool) (xs : List A) → list_any q (filter p xs) ≡ list_any (λ x. p x && q x) xs
any_both p q [] = refl
any_both p q (x ∷ xs) = grind (arith, any_both p q xs)

pub any_agree : {A : Type 0} (p q : A → Bool) (xs : List A) → ((x : A) → p x ≡ q x) → list_any p xs ≡ list_any q xs
any_agree p q xs same = ap (λ test. list_any test xs) (fun_ext same)

pub any_turned : {A : Type 0} (p q : A → Bool) (xs : List A)
    → list_any q (filter p xs) ≡ list_any (λ x. q x && p x) xs
any_turned p q xs = any_both p q xs ∙ any_agree _ _ xs (λ x. and_turned (p x) (q x))

-- The first element that passes both tests.
pub found_both : {A : Type 0} (p q : A → Bool) (xs : List A) → find q (filter p xs) ≡ find (λ x. q x && p x) xs
found_both p q [] = refl
found_both p q (x ∷ xs) = by (p x) (found_both p q xs)
  where
    kept : (c : Bool) → find q (filter p xs) ≡ find (λ y. q y && p y) xs
        → cond c (Some x) (find q (filter p xs)) ≡ cond (c && true) (Some x) (find (λ y. q y && p y) xs)
    kept c rest = grind (arith, rest)

    left : (c : Bool) → find q (filter p xs) ≡ find (λ y. q y && p y) xs
        → find q (filter p xs) ≡ cond (c && false) (Some x) (find (λ y. q y && p y) xs)
    left c rest = grind (arith, rest)

    by : (b : Bool) → find q (filter p xs) ≡ find (λ y. q y && p y) xs
        → find q (cond b (x ∷ filter p xs) (filter p xs)) ≡ cond (q x && b) (Some x) (find (λ y. q y && p y) xs)
    by true rest = kept (q x) rest
    by false rest = left (q x) rest

-- ---- search

-- A test finds an element exactly if a filter keeps one.
pub any_kept : {A : Type 0} (p : A → Bool) (xs : List A) → list_any p xs ≡ not (is_nothing (filter p xs))
any_kept p [] = refl
any_kept p (x ∷ xs) = grind (arith, any_kept p xs)

-- A test finds an element exactly if there is a first that passes.
pub any_found : {A : Type 0} (p : A → Bool) (xs : List A) → list_any p xs ≡ is_some (find p xs)
any_found p [] = refl
any_found p (x ∷ xs) = grind (arith, any_found p xs)

-- If no element passes, none is found.
pub none_passes : {A : Type 0} (p : A → Bool) (xs : List A) → ((x : A) → Contains xs x → p x ≡ false)
    → list_any p xs ≡ false
none_passes p xs none = false_from_ne_true _ some
  where
    some : list_any p xs ≡ true → ⊥
    some is = let (x, has, passes) = any_is p xs is in both_ways _ (none x has) passes

-- If a test finds none, no element passes.
pub passes_not : {A : Type 0} (p : A → Bool) (xs : List A) (x : A) → Contains xs x → list_any p xs ≡ false → p x ≡ false
passes_not p xs x has none = false_from_ne_true (p x) (λ so. both_ways _ none (any_has p xs x has so))

-- ---- functions of elements

-- Each result of `filter_map` is the result of an element.
pub filter_map_is : {A B : Type 0} (f : A → Option B) (xs : List A) (y : B) → Contains (filter_map f xs) y
    → (x : A) × Contains xs x × (f x ≡ Some y)
filter_map_is f [] y has = has_not y has
filter_map_is {A} {B} f (z ∷ zs) y has = by (f z) refl has (filter_map_is f zs y)
  where
    later : (x : A) × Contains zs x × (f x ≡ Some y) → (x : A) × Contains (z ∷ zs) x × (f x ≡ Some y)
    later (x, rest, made) = (x, has_later z zs x rest, made)

    by : (o : Option B) → f z ≡ o → Contains (cons_option o (filter_map f zs)) y
        → (Contains (filter_map f zs) y → (x : A) × Contains zs x × (f x ≡ Some y))
        → (x : A) × Contains (z ∷ zs) x × (f x ≡ Some y)
    by None made there rest = later (rest there)
    by (Some w) made there rest = of (contains_first w (filter_map f zs) y there)
      where
        of : (w ≡ y) ⊎ Contains (filter_map f zs) y → (x : A) × Contains (z ∷ zs) x × (f x ≡ Some y)
        of (inl same) = (z, has_first z zs, made ∙ ap Some same)
        of (inr more) = later (rest more)

pub flat_map_is : {A B : Type 0} (f : A → List B) (xs : List A) (y : B) → Contains (flat_map f xs) y
    → (x : A) × Contains xs x × Contains (f x) y
flat_map_is f [] y has = has_not y has
flat_map_is {A} {B} f (z ∷ zs) y has = by (Contains-append_cases (f z) (flat_map f zs) y has) (flat_map_is f zs y)
  where
    by : Contains (f z) y ⊎ Contains (flat_map f zs) y
        → (Contains (flat_map f zs) y → (x : A) × Contains zs x × Contains (f x) y)
        → (x : A) × Contains (z ∷ zs) x × Contains (f x) y
    by (inl here) rest = (z, has_first z zs, here)
    by (inr there) rest = let (x, in_rest, inside) = rest there in (x, has_later z zs x in_rest, inside)

-- An ID is among the results exactly if it is the result of an element.
pub any_id : {A : Type 0} (f : A → Option (List ℕ)) (id : List ℕ) (xs : List A)
    → list_any (bytes_eq id) (filter_map f xs) ≡ list_any (λ x. is_id id (f x)) xs
any_id f id [] = refl
any_id f id (x ∷ xs) = grind (arith, any_id f id xs)
