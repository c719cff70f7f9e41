-- Least numbers with one more noted, and tests of lines.
use Rattle.std.proofs.Common.{◌≡◌, ℕ, ◌==◌, ◌&&◌, ◌||◌, Bool, true, false, cond, List, [], ◌∷◌, ◌++◌, Option, Some, None, refl, sym, ap, ◌∙◌, arith}
use Rattle.std.specs.Prelude.{nat_le, nat_lt}
use Rattle.std.specs.List.{list_any}
use Rattle.std.proofs.lemmas.Bool.Decides.{nat_tests}
use Rattle.std.proofs.lemmas.List.Folds.{list_any-append}
use Rattle.tcap_record.specs.Ends.{other}
use Rattle.tcap_search.specs.LeastNumbers.{is_below, is_transaction, is_within, lesser}
use Rattle.tcap_search.specs.SegmentEntries.{Line, share_transaction}
use Rattle.tcap_search.proofs.TestLaws.{and_true, or_false}

-- ---- noted numbers

pub below_lesser : (limit number : ℕ) (o : Option ℕ)
    → is_below limit (lesser number o) ≡ (is_below limit o || nat_lt number limit)
below_lesser limit number None = refl
below_lesser limit number (Some least) = grind (arith, nat_tests)

pub within_lesser : (limit number : ℕ) (o : Option ℕ)
    → is_within limit (lesser number o) ≡ (is_within limit o || nat_le number limit)
within_lesser limit number None = refl
within_lesser limit number (Some least) = grind (arith, nat_tests)

pub eqb_turned : (m n : ℕ) → (m == n) ≡ (n == m)
eqb_turned m n = grind (arith, nat_tests)

-- A test of the least number, after a number is noted or not.
pub test_noted : (test : Option ℕ → Bool) (first second number : Bool) (new old : Option ℕ) (least : Option ℕ)
    → test least ≡ (test old || number) → new ≡ cond (first && second) least old
    → test new ≡ (test old || (number && first && second))
test_noted test true true true new old least more is = ap test is ∙ more
test_noted test true true false new old least more is = ap test is ∙ more
test_noted test true false true new old least more is = ap test is ∙ sym (or_false (test old))
test_noted test true false false new old least more is = ap test is ∙ sym (or_false (test old))
test_noted test false second true new old least more is = ap test is ∙ sym (or_false (test old))
test_noted test false second false new old least more is = ap test is ∙ sym (or_false (test old))

pub any_push : {A : Type 0} (test : A → Bool) (xs : List A) (x : A)
    → list_any test (xs ++ x ∷ []) ≡ (list_any test xs || test x)
any_push {A} test xs x = list_any-append test xs (x ∷ []) ∙ ap (λ (b : Bool). list_any test xs || b) (or_false (test x))

-- ---- tests of lines

pub shares : (x y : Line) (transaction : ℕ) → x.transaction ≡ Some transaction
    → share_transaction x y ≡ is_transaction transaction y.transaction
shares x y transaction has =
    ap (λ (t : Option ℕ). share_transaction (record x { transaction = t }) y) has ∙ by y.transaction
  where
    by : (o : Option ℕ)
        → share_transaction (record x { transaction = Some transaction }) (record y { transaction = o })
        ≡ is_transaction transaction o
    by None = refl
    by (Some other) = refl

-- three equal tests, and a fourth that passes
pub same_tests : (a b c d x y z : Bool) → a ≡ x → b ≡ y → c ≡ z → d ≡ true → (a && b && c && d) ≡ (x && y && z)
same_tests a b c d x y z is_x is_y is_z is_true =
    rw (is_x, is_y, is_z, is_true) (and_true (x && y && z))

-- the same tests in another order
pub turned_tests : (a b c d x y z : Bool) → a ≡ x → b ≡ y → c ≡ true → d ≡ z → (a && b && c && d) ≡ (z && x && y)
turned_tests a b c d x y z is_x is_y is_true is_z =
    rw (is_x, is_y, is_true, is_z) (by x y z)
  where
    by : (x y z : Bool) → (x && y && true && z) ≡ (z && x && y)
    by true true true = refl
    by true true false = refl
    by true false true = refl
    by true false false = refl
    by false y true = refl
    by false y false = refl
