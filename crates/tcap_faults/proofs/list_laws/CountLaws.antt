-- The number of elements of a list that pass a test.
use Rattle.std.proofs.Common.{◌≡◌, ℕ, ◌+◌, ◌≤◌, arith, Bool, true, false, cond, List, [], ◌∷◌, ◌++◌, length, filter, refl}
use Rattle.std.specs.Prelude.{◌||◌}
use Rattle.std.specs.List.{list_any}
use Rattle.tcap_faults.specs.Counts.{count}

-- ---- one element

-- 1 if the condition holds, else 0.
abbrev pub one : Bool → ℕ
one b = cond b 1 0

-- A condition that implies another counts no more.
pub one_weaker : (a b : Bool) → (a ≡ true → b ≡ true) → one a ≤ one b
one_weaker true b option_then = rw (option_then refl) (omega arith)
one_weaker false b option_then = omega arith

-- Two conditions that exclude each other count no more than one that both imply.
pub one_apart : (a b c : Bool) → (a ≡ true → c ≡ true) → (b ≡ true → c ≡ true) → (a ≡ true → b ≡ true → ⊥)
    → one a + one b ≤ one c
one_apart true true c left right apart = absurd (apart refl refl)
one_apart true false c left right apart = rw (left refl) (omega arith)
one_apart false true c left right apart = rw (right refl) (omega arith)
one_apart false false c left right apart = omega arith

-- A condition that implies one of two counts no more than both.
pub one_covered : (a b c : Bool) → (c ≡ true → (a || b) ≡ true) → one c ≤ one a + one b
one_covered true b c covered = one_below c (one b)
  where
    one_below : (x : Bool) (n : ℕ) → one x ≤ 1 + n
    one_below x n = grind arith
one_covered false b c covered = grind (arith, one_weaker c b covered)

-- ---- lists

-- The first element is counted if it passes.
pub count_more : {A : Type 0} (p : A → Bool) (x : A) (xs : List A) → count p (x ∷ xs) ≡ one (p x) + count p xs
count_more {A} p x xs = grind arith

-- The count of two joined lists is the sum.
pub count_both : {A : Type 0} (p : A → Bool) (xs ys : List A) → count p (xs ++ ys) ≡ count p xs + count p ys
count_both p [] ys = omega arith
count_both p (x ∷ xs) ys = omega (arith, count_more p x (xs ++ ys), count_more p x xs, count_both p xs ys)

-- The last element is counted if it passes.
pub count_last : {A : Type 0} (p : A → Bool) (xs : List A) (x : A) → count p (xs ++ x ∷ []) ≡ count p xs + one (p x)
count_last p xs x = omega (arith, count_both p xs (x ∷ []), count_more p x [])

-- ---- two tests

-- At most as many pass a test as a weaker one.
pub count_weaker : {A : Type 0} (p q : A → Bool) (xs : List A) → ((x : A) → p x ≡ true → q x ≡ true)
    → count p xs ≤ count q xs
count_weaker p q [] weaker = omega arith
count_weaker p q (x ∷ xs) weaker =
    omega (arith, count_more p x xs, count_more q x xs, one_weaker (p x) (q x) (weaker x), count_weaker p q xs weaker)

-- Two tests that exclude each other count no more than a test that both imply.
pub count_apart : {A : Type 0} (p q r : A → Bool) (xs : List A) → ((x : A) → p x ≡ true → r x ≡ true)
    → ((x : A) → q x ≡ true → r x ≡ true) → ((x : A) → p x ≡ true → q x ≡ true → ⊥)
    → count p xs + count q xs ≤ count r xs
count_apart p q r [] left right apart = omega arith
count_apart p q r (x ∷ xs) left right apart =
    omega (
      arith,
      count_more p x xs,
      count_more q x xs,
      count_more r x xs,
      one_apart (p x) (q x) (r x) (left x) (right x) (apart x),
      count_apart p q r xs left right apart,
    )

-- A test that implies one of two counts no more than both.
pub count_covered : {A : Type 0} (p q r : A → Bool) (xs : List A) → ((x : A) → r x ≡ true → (p x || q x) ≡ true)
    → count r xs ≤ count p xs + count q xs
count_covered p q r [] covered = omega arith
count_covered p q r (x ∷ xs) covered =
    omega (
      arith,
      count_more p x xs,
      count_more q x xs,
      count_more r x xs,
      one_covered (p x) (q x) (r x) (covered x),
      count_covered p q r xs covered,
    )

-- A test that never holds counts none.
pub count_never : {A : Type 0} (xs : List A) → count (λ x. false) xs ≡ 0
count_never [] = refl
count_never (x ∷ xs) = count_never xs

-- ---- what a test finds

-- If a test finds an element, its count is at least 1.
pub any_counts : {A : Type 0} (p : A → Bool) (xs : List A) → list_any p xs ≡ true → 1 ≤ count p xs
any_counts p [] found = cc
any_counts {A} p (x ∷ xs) found = grind (arith, any_counts p xs, found, count_more p x xs)

-- If the count of a test is at least 1, it finds an element.
pub counts_any : {A : Type 0} (p : A → Bool) (xs : List A) → 1 ≤ count p xs → list_any p xs ≡ true
counts_any p [] found = absurd (omega arith)
counts_any {A} p (x ∷ xs) found = by (p x) (counts_any p xs) (count_more p x xs)
  where
    by : (b : Bool) → (1 ≤ count p xs → list_any p xs ≡ true) → count p (x ∷ xs) ≡ one b + count p xs
        → (b || list_any p xs) ≡ true
    by true later more = refl
    by false later more = later (omega (arith, found))
