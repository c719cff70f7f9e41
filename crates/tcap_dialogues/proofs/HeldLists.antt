-- Tests of lists, by the elements that they have.
use Rattle.std.proofs.Common.{◌≡◌, ◌⊎◌, inl, inr, Bool, true, false, ◌||◌, List, [], ◌∷◌, ◌++◌, refl, sym, ap, ◌∙◌}
use Rattle.std.specs.Prelude.{Contains}
use Rattle.std.specs.List.{flat_map, list_any}
use Rattle.std.proofs.lemmas.Bool.{false_from_ne_true, true≢false}
use Rattle.std.proofs.lemmas.List.Elements.{Contains-append_cases, Contains-append_left, Contains-append_right}
use Rattle.std.proofs.lemmas.List.Folds.{list_any-append}
use Rattle.tcap_dialogues.proofs.CutLists.{finds, found}

-- ---- tests

pub both_so : (a b : Bool) → (a ≡ true → b ≡ true) → (b ≡ true → a ≡ true) → a ≡ b
both_so true b there back = sym (there refl)
both_so false true there back = back refl
both_so false false there back = refl

pub or_none : (b : Bool) → (b || false) ≡ b
or_none true = refl
or_none false = refl

-- Both lists have the same elements.
pub record AreSame {X : Type 0} (xs ys : List X) : Type 0 where
  pub there : (x : X) → Contains xs x → Contains ys x
  pub back : (x : X) → Contains ys x → Contains xs x

pub appended_same : {X : Type 0} (xs ys : List X) → AreSame (xs ++ ys) (ys ++ xs)
appended_same {X} xs ys = record { there = λ x has. turned xs ys x has; back = λ x has. turned ys xs x has }
  where
    turned : (us vs : List X) (x : X) → Contains (us ++ vs) x → Contains (vs ++ us) x
    turned us vs x has = by (Contains-append_cases us vs x has)
      where
        by : Contains us x ⊎ Contains vs x → Contains (vs ++ us) x
        by (inl is) = Contains-append_right vs us x is
        by (inr is) = Contains-append_left vs us x is

module _ {X : Type 0} (p : X → Bool) where
  -- Then some element of both passes, or of neither.
  pub any_same : (xs ys : List X) → AreSame xs ys → list_any p xs ≡ list_any p ys
  any_same xs ys same =
      both_so _ _ (λ is. let (x, has, so) = found p xs is in finds p ys x (same.there x has) so)
      (λ is. let (x, has, so) = found p ys is in finds p xs x (same.back x has) so)

  -- If no other element passes, this one decides.
  pub any_only : (xs : List X) (x : X) → Contains xs x → ((y : X) → Contains xs y → p y ≡ true → y ≡ x) → list_any p xs ≡ p x
  any_only xs x has only =
      both_so _ _ (λ is. let (y, there, so) = found p xs is in sym (ap p (only y there so)) ∙ so) (λ is. finds p xs x has is)

  -- If no element passes, the test fails.
  pub any_none : (xs : List X) → ((y : X) → Contains xs y → p y ≡ false) → list_any p xs ≡ false
  any_none xs none =
      false_from_ne_true (list_any p xs)
      (λ is. let (y, has, so) = found p xs is in true≢false (sym so ∙ none y has))

-- the test of joined lists
pub any_flat : {X A : Type 0} (p : A → Bool) (f : X → List A) (xs : List X)
    → list_any p (flat_map f xs) ≡ list_any (λ x. list_any p (f x)) xs
any_flat p f [] = refl
any_flat p f (x ∷ xs) = list_any-append p (f x) (flat_map f xs) ∙ ap (λ b. list_any p (f x) || b) (any_flat p f xs)
