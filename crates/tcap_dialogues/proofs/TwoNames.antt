-- The live dialogues that have one of two names, and the others.
use Rattle.std.proofs.Common.{◌≡◌, ◌⊎◌, inl, inr, ℕ, Bool, true, false, List, ◌++◌, Option, refl, sym, ap, ◌∙◌}
use Rattle.std.specs.Prelude.{◌||◌, not, Contains, filter}
use Rattle.std.proofs.lemmas.Bool.{cases_Bool, or_left, or_right}
use Rattle.std.proofs.lemmas.List.Elements.{Contains-append_cases, Contains-append_left, Contains-append_right}
use Rattle.tcap_dialogues.specs.Course.{Course}
use Rattle.tcap_dialogues.specs.CutState.{is_named, without_name, with_name}
use Rattle.tcap_dialogues.proofs.CutLists.{kept_in, left_in}
use Rattle.tcap_dialogues.proofs.HeldLists.{AreSame}

module _ (live : List Course) (names : Course → ℕ) (a b : Option ℕ) (test : Course → Bool)
    (is : (d : Course) → Contains live d → test d ≡ (is_named names a d || is_named names b d)) where
  -- the dialogues with the first name, and those of the rest with the second
  abbrev pub first : List Course
  first = with_name names a live

  abbrev pub second : List Course
  second = with_name names b (without_name names a live)

  -- They are those that pass the test.
  pub named_ones : AreSame (first ++ second) (filter test live)
  named_ones = record {
    there = λ d has. there d (Contains-append_cases first second d has);
    back = λ d has. let (listed, so) = kept_in test live d has in back d listed (cases_Bool (is_named names a d)) (sym (is d listed) ∙ so);
  }
    where
      there : (d : Course) → Contains first d ⊎ Contains second d → Contains (filter test live) d
      there d (inl has) =
          let (listed, named) = kept_in (is_named names a) live d has in left_in test live d listed (is d listed ∙ or_left _ _ named)
      there d (inr has) =
          let (in_others, named) = kept_in (is_named names b) (without_name names a live) d has in
          let (listed, not_a) = kept_in (λ e. not (is_named names a e)) live d in_others in
          left_in test live d listed (is d listed ∙ or_right _ _ named)

      back : (d : Course) → Contains live d → (is_named names a d ≡ true) ⊎ (is_named names a d ≡ false)
          → (is_named names a d || is_named names b d) ≡ true → Contains (first ++ second) d
      back d listed (inl so) hit = Contains-append_left first second d (left_in (is_named names a) live d listed so)
      back d listed (inr so) hit =
          Contains-append_right first second d
          (left_in (is_named names b) (without_name names a live) d (left_in (λ e. not (is_named names a e)) live d listed (ap not so))
          (sym (ap (λ x. x || is_named names b d) so) ∙ hit))

  -- The others are those that fail it.
  pub other_ones : AreSame (without_name names b (without_name names a live)) (filter (λ d. not (test d)) live)
  other_ones = record {
    there = λ d has.
        let (in_others, not_b) = kept_in (λ e. not (is_named names b e)) (without_name names a live) d has in
        let (listed, not_a) = kept_in (λ e. not (is_named names a e)) live d in_others in
        left_in (λ e. not (test e)) live d listed (ap not (is d listed) ∙ neither (is_named names a d) (is_named names b d) not_a not_b);
    back = λ d has.
        let (listed, so) = kept_in (λ e. not (test e)) live d has in
        let (not_a, not_b) = both_not (is_named names a d) (is_named names b d) (sym (ap not (is d listed)) ∙ so) in
        left_in (λ e. not (is_named names b e)) (without_name names a live) d
        (left_in (λ e. not (is_named names a e)) live d listed not_a) not_b;
  }
    where
      neither : (x y : Bool) → not x ≡ true → not y ≡ true → not (x || y) ≡ true
      neither true y so too = cc
      neither false y so too = too

      both_not : (x y : Bool) → not (x || y) ≡ true → (not x ≡ true) × (not y ≡ true)
      both_not true y so = cc
      both_not false y so = (refl, so)
