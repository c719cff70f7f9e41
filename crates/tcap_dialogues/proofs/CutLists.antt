-- Elements of lists: those that pass a test, and those of joined lists.
use Rattle.std.proofs.Common.{arith, ◌≡◌, ◌⊎◌, inl, inr, ℕ, zero, suc, ◌+◌, Bool, true, false, cond, List, [], ◌∷◌, ◌++◌, Some, refl, sym, ap, subst, ◌∙◌}
use Rattle.std.specs.Prelude.{◌==◌, ◌||◌, Contains, filter, slice_get}
use Rattle.std.specs.List.{flat_map, list_any}
use Rattle.std.proofs.lemmas.Bool.{eqb-true, false≢true, or_cases, or_left, or_right}
use Rattle.std.proofs.lemmas.List.Folds.{list_any-append, list_any_at}

-- ---- elements

-- The first element is in the list.
pub first_in : {X : Type 0} (x : X) (xs : List X) → Contains (x ∷ xs) x
first_in x xs = (0, omega arith, refl)

-- Each later element is in the list.
pub later_in : {X : Type 0} (y x : X) (xs : List X) → Contains xs x → Contains (y ∷ xs) x
later_in y x xs (k, less, is) = (suc k, omega arith, is)

-- No other element is.
pub in_cases : {X : Type 0} (y x : X) (xs : List X) → Contains (y ∷ xs) x → (y ≡ x) ⊎ Contains xs x
in_cases y x xs (zero, less, is) = inl is
in_cases y x xs (suc k, less, is) = inr (k, omega arith, is)

-- The empty list has no element.
pub none_in : {X : Type 0} (x : X) → Contains [] x → ⊥
none_in x (k, less, is) = absurd (omega arith)

-- ---- a test

-- An element left by a test is in the list, and passes.
pub kept_in : {X : Type 0} (test : X → Bool) (xs : List X) (x : X) → Contains (filter test xs) x → Contains xs x × (test x ≡ true)
kept_in test [] x has = absurd (none_in x has)
kept_in {X} test (y ∷ xs) x has = by (test y) refl has (λ there. kept_in test xs x there)
  where
    later : Contains xs x × (test x ≡ true) → Contains (y ∷ xs) x × (test x ≡ true)
    later (there, so) = (later_in y x xs there, so)

    at : test y ≡ true → (y ≡ x) ⊎ Contains (filter test xs) x → (Contains (filter test xs) x → Contains xs x × (test x ≡ true))
        → Contains (y ∷ xs) x × (test x ≡ true)
    at is (inl same) rest = subst (λ z. Contains (y ∷ xs) z × (test z ≡ true)) same (first_in y xs, is)
    at is (inr there) rest = later (rest there)

    by : (b : Bool) → test y ≡ b → Contains (cond b (y ∷ filter test xs) (filter test xs)) x
        → (Contains (filter test xs) x → Contains xs x × (test x ≡ true)) → Contains (y ∷ xs) x × (test x ≡ true)
    by true is there rest = at is (in_cases y x (filter test xs) there) rest
    by false is there rest = later (rest there)

-- An element that passes is left.
pub left_in : {X : Type 0} (test : X → Bool) (xs : List X) (x : X) → Contains xs x → test x ≡ true → Contains (filter test xs) x
left_in test [] x has so = absurd (none_in x has)
left_in test (y ∷ xs) x has so = by (test y) refl (in_cases y x xs has) (λ there. left_in test xs x there so)
  where
    by : (b : Bool) → test y ≡ b → (y ≡ x) ⊎ Contains xs x → (Contains xs x → Contains (filter test xs) x)
        → Contains (cond b (y ∷ filter test xs) (filter test xs)) x
    by true is (inl same) rest = subst (Contains (y ∷ filter test xs)) same (first_in y (filter test xs))
    by true is (inr there) rest = later_in y x (filter test xs) (rest there)
    by false is (inl same) rest = absurd (false≢true (sym is ∙ ap test same ∙ so))
    by false is (inr there) rest = rest there

-- ---- an element that passes

-- If some element passes, this is one.
pub found : {X : Type 0} (test : X → Bool) (xs : List X) → list_any test xs ≡ true → (x : X) × Contains xs x × (test x ≡ true)
found test [] is = absurd (false≢true is)
found {X} test (y ∷ xs) is = by (or_cases (test y) (list_any test xs) is) (λ more. found test xs more)
  where
    by : (test y ≡ true) ⊎ (list_any test xs ≡ true) → (list_any test xs ≡ true → (x : X) × Contains xs x × (test x ≡ true))
        → (x : X) × Contains (y ∷ xs) x × (test x ≡ true)
    by (inl here) rest = (y, first_in y xs, here)
    by (inr more) rest = let (x, there, so) = rest more in (x, later_in y x xs there, so)

-- If this element passes, some element does.
pub finds : {X : Type 0} (test : X → Bool) (xs : List X) (x : X) → Contains xs x → test x ≡ true → list_any test xs ≡ true
finds test xs x has so = list_any_at test xs has.0 x has.1 (ap test has.2 ∙ so)

-- ---- joined lists

-- An element that passes in joined lists is in one of them.
pub found_of : {X A : Type 0} (test : A → Bool) (f : X → List A) (xs : List X) → list_any test (flat_map f xs) ≡ true
    → (x : X) × Contains xs x × (list_any test (f x) ≡ true)
found_of test f [] is = absurd (false≢true is)
found_of {X} test f (y ∷ xs) is =
    by (or_cases _ _ (sym (list_any-append test (f y) (flat_map f xs)) ∙ is)) (λ more. found_of test f xs more)
  where
    by : (list_any test (f y) ≡ true) ⊎ (list_any test (flat_map f xs) ≡ true)
        → (list_any test (flat_map f xs) ≡ true → (x : X) × Contains xs x × (list_any test (f x) ≡ true))
        → (x : X) × Contains (y ∷ xs) x × (list_any test (f x) ≡ true)
    by (inl here) rest = (y, first_in y xs, here)
    by (inr more) rest = let (x, there, so) = rest more in (x, later_in y x xs there, so)

-- If an element of one list passes, some element of the joined lists does.
pub finds_of : {X A : Type 0} (test : A → Bool) (f : X → List A) (xs : List X) (x : X) → Contains xs x → list_any test (f x) ≡ true
    → list_any test (flat_map f xs) ≡ true
finds_of test f [] x has so = absurd (none_in x has)
finds_of test f (y ∷ xs) x has so =
    list_any-append test (f y) (flat_map f xs) ∙ by (in_cases y x xs has) (λ there. finds_of test f xs x there so)
  where
    by : (y ≡ x) ⊎ Contains xs x → (Contains xs x → list_any test (flat_map f xs) ≡ true)
        → (list_any test (f y) || list_any test (flat_map f xs)) ≡ true
    by (inl same) rest = or_left _ _ (ap (λ z. list_any test (f z)) same ∙ so)
    by (inr there) rest = or_right _ _ (rest there)

-- An element that passes in joined lists and one more is in one of them, or in the last.
pub found_more : {X A : Type 0} (test : A → Bool) (f : X → List A) (xs : List X) (more : List A)
    → list_any test (flat_map f xs ++ more) ≡ true → ((x : X) × Contains xs x × (list_any test (f x) ≡ true)) ⊎ (list_any test more ≡ true)
found_more {X} test f xs more is = by (or_cases _ _ (sym (list_any-append test (flat_map f xs) more) ∙ is))
  where
    by : (list_any test (flat_map f xs) ≡ true) ⊎ (list_any test more ≡ true)
        → ((x : X) × Contains xs x × (list_any test (f x) ≡ true)) ⊎ (list_any test more ≡ true)
    by (inl some) = inl (found_of test f xs some)
    by (inr one) = inr one

-- If an element of one list passes, some element of all does.
pub finds_old : {X A : Type 0} (test : A → Bool) (f : X → List A) (xs : List X) (more : List A) (x : X) → Contains xs x
    → list_any test (f x) ≡ true → list_any test (flat_map f xs ++ more) ≡ true
finds_old test f xs more x has so = list_any-append test (flat_map f xs) more ∙ or_left _ _ (finds_of test f xs x has so)

-- If an element of the last list passes, some element of all does.
pub finds_last : {X A : Type 0} (test : A → Bool) (f : X → List A) (xs : List X) (more : List A) → list_any test more ≡ true
    → list_any test (flat_map f xs ++ more) ≡ true
finds_last test f xs more so = list_any-append test (flat_map f xs) more ∙ or_right _ _ so

-- The only number of a list is this one.
pub alone_is : (n i : ℕ) → list_any (λ k. k == i) (n ∷ []) ≡ true → n ≡ i
alone_is n i is = by (or_cases (n == i) false is)
  where
    by : ((n == i) ≡ true) ⊎ (false ≡ true) → n ≡ i
    by (inl same) = eqb-true n i same
    by (inr bad) = absurd (false≢true bad)

-- ---- the rest of a list

-- The first element of the rest from place n is at n.
pub first_left : {X : Type 0} (xs left : List X) (n : ℕ) (x : X) → ((k : ℕ) → slice_get (x ∷ left) k ≡ slice_get xs (n + k))
    → slice_get xs n ≡ Some x
first_left xs left n x same = ap (slice_get xs) at_front ∙ sym (same 0)
  where
    at_front : n ≡ n + 0
    at_front = omega arith

-- The others are the rest from the next place.
pub later_left : {X : Type 0} (xs left : List X) (n : ℕ) (x : X) → ((k : ℕ) → slice_get (x ∷ left) k ≡ slice_get xs (n + k)) → (k : ℕ)
    → slice_get left k ≡ slice_get xs ((n + 1) + k)
later_left xs left n x same k = same (suc k) ∙ ap (slice_get xs) further
  where
    further : n + suc k ≡ (n + 1) + k
    further = omega arith
