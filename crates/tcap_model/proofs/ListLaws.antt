-- Properties of all elements of a list, and membership.
use Rattle.std.proofs.Common.{arith, ◌≡◌, ◌<◌, get_or, zero, ◌⊎◌, inl, inr, ℕ, suc, List, [], ◌∷◌, ◌++◌}
use Rattle.std.specs.List.{AllByRecursion, Contains}
use Rattle.std.proofs.lemmas.List.Elements.{Contains-append_cases}

-- A property of all elements of two lists holds for their concatenation.
pub all_both : {A : Type 0} (P : A → Type 0) (xs ys : List A) → AllByRecursion P xs → AllByRecursion P ys → AllByRecursion P (xs ++ ys)
all_both P [] ys left right = right
all_both P (x ∷ xs) ys left right = (left.0, all_both P xs ys left.1 right)

-- A property of all elements still holds with one more element.
pub all_more : {A : Type 0} (P : A → Type 0) (xs : List A) (x : A) → AllByRecursion P xs → P x → AllByRecursion P (xs ++ x ∷ [])
all_more P xs x all new = all_both P xs (x ∷ []) all (new, tt)

-- A weaker property holds for all elements too.
pub all_weaker : {A : Type 0} (P Q : A → Type 0) (xs : List A) → ((x : A) → P x → Q x) → AllByRecursion P xs → AllByRecursion Q xs
all_weaker P Q [] weaker all = tt
all_weaker P Q (x ∷ xs) weaker all = (weaker x all.0, all_weaker P Q xs weaker all.1)

-- An element is the first, or in the rest.
pub contains_first : {A : Type 0} (x : A) (xs : List A) (y : A) → Contains (x ∷ xs) y → (x ≡ y) ⊎ Contains xs y
contains_first x xs y h = by (Contains-append_cases (x ∷ []) xs y h)
  where
    one : (k : ℕ) → k < 1 → get_or (x ∷ []) k y ≡ y → x ≡ y
    one zero lt is = is
    one (suc k) lt is = absurd (omega arith)

    by : Contains (x ∷ []) y ⊎ Contains xs y → (x ≡ y) ⊎ Contains xs y
    by (inl g) = inl (one g.0 g.1 g.2)
    by (inr g) = inr g
