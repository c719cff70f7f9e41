-- The list of changes, latest first, is the stored list in reverse.
use Rattle.std.proofs.Common.{◌≡◌, Bool, true, false, List, [], ◌∷◌, ◌++◌, length, Option, Some, None, MatchOption, refl, ap, ◌∙◌}
use Rattle.std.specs.Prelude.{if◌then◌else◌, reverse}
use Rattle.std.specs.Option.{option_to_list}
use Rattle.std.proofs.lemmas.List.{reverse-append}

-- A change was added, unless memory ran out.
pub pushed : {A : Type 0} (done : Bool) (made : List A) (change : A)
    → reverse (if done then made ++ change ∷ [] else made) ≡ (if done then change ∷ reverse made else reverse made)
pushed true made change = reverse-append made (change ∷ [])
pushed false made change = refl

-- A stored list of length 0 is empty.
pub none_left : {A : Type 0} (made : List A) → length made ≡ 0 → made ≡ []
none_left [] is = refl
none_left (first ∷ more) is = cc

-- The latest change was removed.
pub popped : {A : Type 0} (last : Option A) (made left : List A) → made ≡ left ++ option_to_list last
    → (last ≡ None → (made ≡ []) × (left ≡ []))
    → MatchOption last ((reverse made ≡ []) × (reverse left ≡ [])) (λ change. reverse made ≡ change ∷ reverse left)
popped None made left items none = (ap reverse (none refl).0, ap reverse (none refl).1)
popped (Some change) made left items none = ap reverse items ∙ reverse-append left (change ∷ [])
