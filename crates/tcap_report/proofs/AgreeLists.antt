-- Tests and lists that agree on the elements of a list.
use Rattle.std.proofs.Common.{arith, ◌≡◌, ℕ, zero, suc, ◌+◌, ◌<◌, Bool, true, false, cond, List, [], ◌∷◌, ◌++◌, length, map, refl, ap, ◌∙◌}
use Rattle.std.specs.Prelude.{◌||◌, Contains, Some, count_by, filter, fold, nat_le, slice_get}
use Rattle.std.specs.List.{AllByRecursion, list_any}
use Rattle.std.proofs.lemmas.Bool.{false≢true, true≢false, le-leb}
use Rattle.tcap_dialogues.proofs.CutLists.{first_in, later_in}

-- Two tests that agree on the elements find one alike.
pub any_agree : {X : Type 0} (p q : X → Bool) (xs : List X) → ((x : X) → Contains xs x → p x ≡ q x) → list_any p xs ≡ list_any q xs
any_agree p q [] agree = refl
any_agree p q (x ∷ xs) agree =
    ap (λ b. b || list_any p xs) (agree x (first_in x xs))
    ∙ ap (λ b. q x || b) (any_agree p q xs (λ y has. agree y (later_in x y xs has)))

-- The values of what is kept agree if the tests and the values do.
pub kept_agree : {X Y Z : Type 0} (p : Y → Bool) (f : Y → Z) (g k : X → Y) (xs : List X)
    → ((x : X) → Contains xs x → (p (g x) ≡ p (k x)) × (f (g x) ≡ f (k x)))
    → map f (filter p (map g xs)) ≡ map f (filter p (map k xs))
kept_agree p f g k [] agree = refl
kept_agree {X} {Y} p f g k (x ∷ xs) agree =
    by (p (g x)) (p (k x)) (agree x (first_in x xs)).0 (agree x (first_in x xs)).1
    (kept_agree p f g k xs (λ y has. agree y (later_in x y xs has)))
  where
    ones : List Y
    ones = filter p (map g xs)

    others : List Y
    others = filter p (map k xs)

    by : (a b : Bool) → a ≡ b → f (g x) ≡ f (k x) → map f ones ≡ map f others
        → map f (cond a (g x ∷ ones) ones) ≡ map f (cond b (k x ∷ others) others)
    by true true e same rest = ap (λ y. y ∷ map f ones) same ∙ ap (λ l. f (k x) ∷ l) rest
    by false false e same rest = rest
    by true false e same rest = absurd (true≢false e)
    by false true e same rest = absurd (false≢true e)

-- ---- counts

count_from : (k a : ℕ) (ns : List ℕ) → AllByRecursion (λ n. n < k) ns → fold (λ a n. a + cond (nat_le n k) 1 0) a ns ≡ a + length ns
count_from k a [] all = omega arith
count_from k a (n ∷ ns) (less, all) =
    let fits : nat_le n k ≡ true = le-leb n k (omega (less, arith)) in
    let longer : (a + 1) + length ns ≡ a + length (n ∷ ns) = omega arith in
    ap (λ b. fold (λ a n. a + cond (nat_le n k) 1 0) (a + cond b 1 0) ns) fits ∙ count_from k (a + 1) ns all ∙ longer

-- All numbers of a list that are below k are counted.
pub count_below : (k : ℕ) (ns : List ℕ) → AllByRecursion (λ n. n < k) ns → count_by (λ n. nat_le n k) ns ≡ length ns
count_below k ns all = count_from k 0 ns all ∙ from_zero (length ns)
  where
    from_zero : (n : ℕ) → 0 + n ≡ n
    from_zero n = omega arith

-- ---- one more element

-- It comes after the others.
pub last_at : {X : Type 0} (xs : List X) (x : X) → slice_get (xs ++ x ∷ []) (length xs) ≡ Some x
last_at [] x = refl
last_at (y ∷ xs) x = last_at xs x

-- The others keep their places.
pub others_at : {X : Type 0} (xs : List X) (x : X) (n : ℕ) → n < length xs → slice_get (xs ++ x ∷ []) n ≡ slice_get xs n
others_at [] x n less = absurd (omega (less, arith))
others_at (y ∷ xs) x zero less = refl
others_at (y ∷ xs) x (suc n) less = others_at xs x n (omega (less, arith))
