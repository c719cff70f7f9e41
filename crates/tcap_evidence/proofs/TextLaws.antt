-- Texts that are appended one after another.
use Rattle.tcap_evidence.proofs.Common.{◌≡◌, ℕ, ◌+◌, ◌<◌, ◌≤◌, List, ◌++◌, Ok, Err, append_assoc, drop, flat_map, get_or, length, refl, ap, ◌∙◌, Result, if◌then◌else◌, is_ok}
use Rattle.std.specs.Prelude.{OnOk}
use Rattle.tcap_evidence.proofs.ListingLaws.{all_made, made_more}

-- two appended texts
pub also : (t u v a b : List ℕ) → u ≡ t ++ a → v ≡ u ++ b → v ≡ t ++ (a ++ b)
also t u v a b e f = rw (f, e, append_assoc) refl

-- two appended texts, unless memory ran out for the second
pub at_last : {T E : Type 0} (r : Result T E) (t u v a b other : List ℕ) → u ≡ t ++ a
    → v ≡ (if is_ok r then (u ++ b) else other) → OnOk r (v ≡ t ++ (a ++ b))
at_last (Ok x) t u v a b other e f = also t u v a b e f
at_last (Err x) t u v a b other e f = tt

-- ---- a line for each item

module _ {A : Type 0} (line : A → List ℕ) (xs : List A) (i : ℕ) where
  -- the next line is appended
  pub lines_more : {all : List ℕ} (x : A) → i < length xs → x ≡ get_or xs i x → (made now : List ℕ) → now ≡ made ++ line x
      → made ++ flat_map line (drop i xs) ≡ all → now ++ flat_map line (drop (i + 1) xs) ≡ all
  lines_more x within here made now is so_far =
      ap (λ ys. ys ++ flat_map line (drop (i + 1) xs)) is
      ∙ made_more (flat_map line) xs i x within here made (line x) refl so_far

  -- no items remain
  pub lines_all : {all : List ℕ} (made : List ℕ) → length xs ≤ i → made ++ flat_map line (drop i xs) ≡ all → made ≡ all
  lines_all made past so_far = all_made (flat_map line) xs i made refl past so_far
