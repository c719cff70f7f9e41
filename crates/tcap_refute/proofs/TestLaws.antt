-- Lemmas on tests that several files share.
use Rattle.std.proofs.Common.{◌≡◌, ℕ, ◌+◌, Bool, true, false, cond, ◌&&◌, ◌||◌, List, [], ◌∷◌, Some, is_some, refl, arith}
use Rattle.std.specs.List.{list_any}
use Rattle.tcap_refute.specs.FirstComponent.{first_where}

pub or_none : (b : Bool) → b ≡ (b || false)
or_none b = grind arith

pub and_true : (b : Bool) → (b && true) ≡ b
and_true b = grind arith

pub and_false : (b : Bool) → (b && false) ≡ false
and_false b = grind arith

-- There is a first element that passes exactly if one passes.
pub some_first : {A : Type 0} (p : A → Bool) (number : ℕ) (xs : List A) → is_some (first_where p number xs) ≡ list_any p xs
some_first p number [] = refl
some_first p number (x ∷ xs) = grind (arith, some_first p (number + 1) xs)
