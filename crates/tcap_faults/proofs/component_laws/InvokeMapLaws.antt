-- What is read from a map after one value was put into it.
use Rattle.std.proofs.Common.{◌≡◌, ℤ, Bool, true, false, cond, List, Option, Some, int_cmp, refl, ap, ◌∙◌}
use Rattle.std.specs.BTreeMap.{is_at}
use Rattle.std.specs.Map.{lookup}
use Rattle.std.proofs.lemmas.Map.Lookups.{exact_signed}
use Rattle.std.proofs.lemmas.Map.Views.{tells_apart}

-- The value at one ID changed.
abbrev pub Puts : {V : Type 0} → ℤ → V → List (ℤ × V) → List (ℤ × V) → Type 0
Puts id s old new = (q : ℤ)
    → lookup (is_at (int_cmp q)) new ≡ cond (is_at (int_cmp id) q) (Some s) (lookup (is_at (int_cmp q)) old)

module _ {V A : Type 0} (read : Option V → A) (step : A → A) (id : ℤ) (s : V) (old new : List (ℤ × V)) where
  -- If the value at the ID is one step further, what is read at this ID is, and nothing else changes.
  pub read_put : Puts id s old new → read (Some s) ≡ step (read (lookup (is_at (int_cmp id)) old)) → (q : ℤ)
      → read (lookup (is_at (int_cmp q)) new)
      ≡ cond (is_at (int_cmp id) q) (step (read (lookup (is_at (int_cmp q)) old)))
      (read (lookup (is_at (int_cmp q)) old))
  read_put puts steps q = ap read (puts q) ∙ by (is_at (int_cmp id) q) refl
    where
      by : (b : Bool) → is_at (int_cmp id) q ≡ b
          → read (cond b (Some s) (lookup (is_at (int_cmp q)) old))
          ≡ cond b (step (read (lookup (is_at (int_cmp q)) old))) (read (lookup (is_at (int_cmp q)) old))
      by true same = rw (← tells_apart exact_signed id q same) steps
      by false apart = refl
