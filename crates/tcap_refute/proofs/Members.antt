-- Membership in a list, and what a test finds there.
use Rattle.std.proofs.Common.{◌≡◌, ◌⊎◌, inl, inr, arith, Bool, true, false, cond, zero, List, [], ◌∷◌, Option, Some, None, refl, ap, ◌∙◌}
use Rattle.std.specs.Prelude.{Contains, filter, filter_map}
use Rattle.std.specs.List.{cons_option, flat_map, list_any}
use Rattle.std.proofs.lemmas.List.Elements.{Contains-append_left, Contains-append_right}
use Rattle.std.proofs.lemmas.List.Folds.{list_any_at}
use Rattle.tcap_model.proofs.ListLaws.{contains_first}

-- ---- what a list has

pub has_first : {A : Type 0} (x : A) (xs : List A) → Contains (x ∷ xs) x
has_first x xs = (zero, omega arith, refl)

pub has_later : {A : Type 0} (y : A) (xs : List A) (x : A) → Contains xs x → Contains (y ∷ xs) x
has_later y xs x has = Contains-append_right (y ∷ []) xs x has

pub has_not : {A P : Type 0} (x : A) → Contains [] x → P
has_not x (k, below, is) = absurd (omega arith)

-- `filter` keeps what passes.
pub filter_has : {A : Type 0} (p : A → Bool) (xs : List A) (x : A) → Contains xs x → p x ≡ true
    → Contains (filter p xs) x
filter_has p [] x has passes = has_not x has
filter_has {A = A} p (y ∷ ys) x has passes = by (contains_first y ys x has) (λ rest. filter_has p ys x rest passes)
  where
    later : (b : Bool) → Contains (filter p ys) x → Contains (cond b (y ∷ filter p ys) (filter p ys)) x
    later true in_rest = has_later y (filter p ys) x in_rest
    later false in_rest = in_rest

    by : (y ≡ x) ⊎ Contains ys x → (Contains ys x → Contains (filter p ys) x) → Contains (filter p (y ∷ ys)) x
    by (inl first) kept = rw (first, passes) (has_first x (filter p ys))
    by (inr rest) kept = later (p y) (kept rest)

-- `filter_map` keeps what `f` makes of an element.
pub filter_map_has : {A B : Type 0} (f : A → Option B) (xs : List A) (x : A) (y : B) → Contains xs x → f x ≡ Some y
    → Contains (filter_map f xs) y
filter_map_has f [] x y has made = has_not x has
filter_map_has {A = A} {B = B} f (z ∷ zs) x y has made =
    by (contains_first z zs x has) (λ rest. filter_map_has f zs x y rest made)
  where
    later : (o : Option B) → Contains (filter_map f zs) y → Contains (cons_option o (filter_map f zs)) y
    later None in_rest = in_rest
    later (Some w) in_rest = has_later w (filter_map f zs) y in_rest

    by : (z ≡ x) ⊎ Contains zs x → (Contains zs x → Contains (filter_map f zs) y) → Contains (filter_map f (z ∷ zs)) y
    by (inl first) kept = rw (first, made) (has_first y (filter_map f zs))
    by (inr rest) kept = later (f z) (kept rest)

pub flat_map_has : {A B : Type 0} (f : A → List B) (xs : List A) (x : A) (y : B) → Contains xs x → Contains (f x) y
    → Contains (flat_map f xs) y
flat_map_has f [] x y has inside = has_not x has
flat_map_has {A = A} {B = B} f (z ∷ zs) x y has inside =
    by (contains_first z zs x has) (λ rest. flat_map_has f zs x y rest inside)
  where
    by : (z ≡ x) ⊎ Contains zs x → (Contains zs x → Contains (flat_map f zs) y) → Contains (flat_map f (z ∷ zs)) y
    by (inl first) kept = rw first (Contains-append_left (f x) (flat_map f zs) y inside)
    by (inr rest) kept = Contains-append_right (f z) (flat_map f zs) y (kept rest)

-- ---- what a test finds

-- A test finds an element that passes.
pub any_has : {A : Type 0} (p : A → Bool) (xs : List A) (x : A) → Contains xs x → p x ≡ true → list_any p xs ≡ true
any_has p xs x (k, below, is) passes = list_any_at p xs k x below (ap p is ∙ passes)
