-- Sums of counts, and counts of few components.
use Rattle.std.proofs.Common.{◌≡◌, ℕ, ◌+◌, ◌^◌, ◌<◌, ◌≤◌, Bool, true, false, List, [], ◌∷◌, ◌++◌, length, refl, sym, ◌∙◌, arith}
use Rattle.std.specs.Prelude.{nat_lt}
use Rattle.std.proofs.lemmas.Bool.Decides.{nat_tests}
use Rattle.std.proofs.lemmas.List.{length-append}
use Rattle.std.proofs.lemmas.List.Sums.{count_by-le-length, length-filter}
use Rattle.tcap_faults.specs.Counts.{count}
use Rattle.tcap_faults.specs.InvokeCounts.{more_if, sum}
use Rattle.tcap_faults.proofs.list_laws.CountLaws.{count_last}

-- A sum of a sum is the sum of all.
pub sum_more : (a b c : ℕ) → sum (sum a b) c ≡ sum (a + b) c
sum_more a b c = grind (arith, nat_tests)

-- A number that is no count over the greatest exceeds a capped sum exactly if it exceeds the exact sum.
pub above_sum : (a b n : ℕ) → n < 2 ^ 128 → nat_lt (sum a b) n ≡ nat_lt (a + b) n
above_sum a b n fits = grind (arith, nat_tests)

pub sum_few : (a b : ℕ) → a + b < 2 ^ 128 → sum a b ≡ a + b
sum_few a b few = grind (arith, nat_tests)

pub sum_below : (a b : ℕ) → sum a b < 2 ^ 128
sum_below a b = grind (arith, nat_tests)

-- Adding 0 on the left changes no count.
pub first : (n : ℕ) → n < 2 ^ 128 → sum 0 n ≡ n
first n few = sum_few 0 n (omega arith) ∙ omega arith

pub last : (n : ℕ) → n < 2 ^ 128 → sum n 0 ≡ n
last n few = sum_few n 0 (omega arith) ∙ omega arith

-- The count of a list, and one more if the next element passes, is the count of both.
pub count_one_more : {A : Type 0} (p : A → Bool) (xs : List A) (x : A) → length (xs ++ x ∷ []) ≤ 2 ^ 126
    → more_if (p x) (count p xs) ≡ count p (xs ++ x ∷ [])
count_one_more p xs x few = by (p x) refl
  where
    by : (b : Bool) → p x ≡ b → more_if b (count p xs) ≡ count p (xs ++ x ∷ [])
    by true is =
        let last : count p (xs ++ x ∷ []) ≡ count p xs + 1 = rw is at (count_last p xs x) in
        sum_few (count p xs) 1
        (omega (arith, length-filter p xs, count_by-le-length p xs, length-append xs (x ∷ [])))
        ∙ sym last
    by false is =
        let last : count p (xs ++ x ∷ []) ≡ count p xs + 0 = rw is at (count_last p xs x) in omega (arith, last)
