-- An entry joins the dialogues that have one of its IDs: the new dialogue, and the dialogues after the entry.
use Rattle.std.proofs.Common.{arith, ◌≡◌, ◌⊎◌, inl, inr, ℕ, ◌+◌, ◌<◌, Bool, true, false, List, [], ◌∷◌, ◌++◌, refl, sym, ap, ◌∙◌}
use Rattle.std.specs.Prelude.{◌==◌, not, Contains, filter}
use Rattle.std.specs.List.{flat_map, list_any}
use Rattle.std.proofs.lemmas.Bool.{eq-eqb, not-true, not_from_false, or_left, true≢false}
use Rattle.std.proofs.lemmas.List.Elements.{Contains-append_left, Contains-push, Contains-push_cases}
use Rattle.tcap_dialogues.specs.Course.{share_id}
use Rattle.tcap_dialogues.specs.DialoguesOfList.{IdOf, is_among, is_same}
use Rattle.tcap_dialogues.proofs.CutIds.{one_from}
use Rattle.tcap_dialogues.proofs.CutLists.{alone_is, finds_last, finds_old, found_more, kept_in, left_in}

-- The new dialogue has the numbers and IDs of those that the entry joins, and the number and IDs of the entry.
pub record IsJoin {X : Type 0} (numbers : X → List ℕ) (ids : X → List IdOf) (n : ℕ) (its : List IdOf) (old : List X)
    (new : X) : Type 0 where
  pub numbers_are : numbers new ≡ (flat_map numbers (filter (λ d. share_id its (ids d)) old) ++ n ∷ [])
  pub ids_are : ids new ≡ (flat_map ids (filter (λ d. share_id its (ids d)) old) ++ its)

module _ {X : Type 0} {numbers : X → List ℕ} {ids : X → List IdOf} {n : ℕ} {its : List IdOf} {old : List X} {new : X}
    (made : IsJoin numbers ids n its old new) where
  -- whether a dialogue has one of the entry's IDs; and whether it has an entry with this number
  abbrev has_its : X → Bool
  has_its d = share_id its (ids d)

  abbrev has_number : X → ℕ → Bool
  has_number d i = list_any (λ k. k == i) (numbers d)

  -- ---- the dialogues after the entry

  -- the dialogues without an ID of the entry, and the new one
  abbrev pub with_new : List X
  with_new = filter (λ d. not (has_its d)) old ++ new ∷ []

  -- A dialogue without an ID of the entry stays.
  pub stays : (d : X) → Contains old d → has_its d ≡ false → Contains with_new d
  stays d has misses = Contains-append_left _ (new ∷ []) d (left_in (λ e. not (has_its e)) old d has (not_from_false (has_its d) misses))

  -- The new dialogue is there.
  pub joins : Contains with_new new
  joins = Contains-push (filter (λ d. not (has_its d)) old) new

  -- There are no others.
  pub which : (d : X) → Contains with_new d → (Contains old d × (has_its d ≡ false)) ⊎ (new ≡ d)
  which d has = by (Contains-push_cases (filter (λ e. not (has_its e)) old) new d has)
    where
      by : Contains (filter (λ e. not (has_its e)) old) d ⊎ (new ≡ d) → (Contains old d × (has_its d ≡ false)) ⊎ (new ≡ d)
      by (inl there) = let (listed, so) = kept_in (λ e. not (has_its e)) old d there in inl (listed, not-true (has_its d) so)
      by (inr same) = inr same

  -- ---- the new dialogue

  -- a dialogue that the entry joins
  pub record Hit (d : X) : Type 0 where
    pub listed : Contains old d
    pub hit : has_its d ≡ true

  -- The list of those that the entry joins has each of them, and no others.
  pub hit_in : (d : X) → Hit d → Contains (filter has_its old) d
  hit_in d is = left_in has_its old d is.listed is.hit

  pub in_hit : (d : X) → Contains (filter has_its old) d → Hit d
  in_hit d has = let (listed, hit) = kept_in has_its old d has in record { listed = listed; hit = hit }

  -- The new dialogue has the numbers of those joined.
  pub number_stays : (d : X) (i : ℕ) → Hit d → has_number d i ≡ true → has_number new i ≡ true
  number_stays d i is so =
      ap (list_any (λ k. k == i)) made.numbers_are
      ∙ finds_old (λ k. k == i) numbers (filter has_its old) (n ∷ []) d (hit_in d is) so

  -- It has the number of the entry.
  pub number_comes : has_number new n ≡ true
  number_comes =
      ap (list_any (λ k. k == n)) made.numbers_are
      ∙ finds_last (λ k. k == n) numbers (filter has_its old) (n ∷ []) (or_left _ _ (eq-eqb n n refl))

  -- It has no other numbers.
  pub number_of : (i : ℕ) → has_number new i ≡ true → ((d : X) × Hit d × (has_number d i ≡ true)) ⊎ (n ≡ i)
  number_of i is =
      by (found_more (λ k. k == i) numbers (filter has_its old) (n ∷ []) (sym (ap (list_any (λ k. k == i)) made.numbers_are) ∙ is))
    where
      by : ((d : X) × Contains (filter has_its old) d × (has_number d i ≡ true)) ⊎ (list_any (λ k. k == i) (n ∷ []) ≡ true)
          → ((d : X) × Hit d × (has_number d i ≡ true)) ⊎ (n ≡ i)
      by (inl (d, has, so)) = inl (d, in_hit d has, so)
      by (inr one) = inr (alone_is n i one)

  -- It has the IDs of those joined.
  pub id_stays : (d : X) (id : IdOf) → Hit d → is_among (ids d) id ≡ true → is_among (ids new) id ≡ true
  id_stays d id is so =
      ap (λ xs. is_among xs id) made.ids_are ∙ finds_old (is_same id) ids (filter has_its old) its d (hit_in d is) so

  -- It has the IDs of the entry.
  pub id_comes : (id : IdOf) → is_among its id ≡ true → is_among (ids new) id ≡ true
  id_comes id so = ap (λ xs. is_among xs id) made.ids_are ∙ finds_last (is_same id) ids (filter has_its old) its so

  -- It has no other IDs.
  pub id_from : (id : IdOf) → is_among (ids new) id ≡ true → ((d : X) × Hit d × (is_among (ids d) id ≡ true)) ⊎ (is_among its id ≡ true)
  id_from id is = by (found_more (is_same id) ids (filter has_its old) its (sym (ap (λ xs. is_among xs id) made.ids_are) ∙ is))
    where
      by : ((d : X) × Contains (filter has_its old) d × (is_among (ids d) id ≡ true)) ⊎ (is_among its id ≡ true)
          → ((d : X) × Hit d × (is_among (ids d) id ≡ true)) ⊎ (is_among its id ≡ true)
      by (inl (d, has, so)) = inl (d, in_hit d has, so)
      by (inr one) = inr one

  -- ---- dialogues with one number, or one ID

  -- A dialogue that stays is not joined.
  apart : (d e : X) → has_its d ≡ false → Hit e → d ≡ e → ⊥
  apart d e misses is same = true≢false (sym is.hit ∙ sym (ap has_its same) ∙ misses)

  -- If no two old dialogues pass a test, and the new one does not pass it together with one that stays, no two pass it after
  -- the entry.
  one_more : (test : X → Bool) → ((d e : X) → Contains old d → Contains old e → test d ≡ true → test e ≡ true → d ≡ e)
      → ((d : X) → Contains old d → has_its d ≡ false → test d ≡ true → test new ≡ true → ⊥) → (d e : X) → Contains with_new d
      → Contains with_new e → test d ≡ true → test e ≡ true → d ≡ e
  one_more test one beside d e has hers is so = by (which d has) (which e hers)
    where
      by : (Contains old d × (has_its d ≡ false)) ⊎ (new ≡ d) → (Contains old e × (has_its e ≡ false)) ⊎ (new ≡ e) → d ≡ e
      by (inl (there, misses)) (inl (too, missing)) = one d e there too is so
      by (inl (there, misses)) (inr same) = absurd (beside d there misses is (ap test same ∙ so))
      by (inr same) (inl (too, missing)) = absurd (beside e too missing so (ap test same ∙ is))
      by (inr same) (inr equal) = sym same ∙ equal

  -- Two dialogues with one ID are equal.
  pub one_id_more : ((d e : X) (id : IdOf) → Contains old d → Contains old e → is_among (ids d) id ≡ true
      → is_among (ids e) id ≡ true → d ≡ e) → (d e : X) (id : IdOf) → Contains with_new d → Contains with_new e
      → is_among (ids d) id ≡ true → is_among (ids e) id ≡ true → d ≡ e
  one_id_more one d e id has hers is so = one_more (λ x. is_among (ids x) id) (λ x y. one x y id) beside d e has hers is so
    where
      beside : (x : X) → Contains old x → has_its x ≡ false → is_among (ids x) id ≡ true → is_among (ids new) id ≡ true → ⊥
      beside x there misses carries new_carries = by (id_from id new_carries)
        where
          by : ((y : X) × Hit y × (is_among (ids y) id ≡ true)) ⊎ (is_among its id ≡ true) → ⊥
          by (inl (y, joined, too)) = apart x y misses joined (one x y id there joined.listed carries too)
          by (inr entry) = true≢false (sym (one_from its (ids x) id entry carries) ∙ misses)

  module _ (below : (d : X) (i : ℕ) → Contains old d → has_number d i ≡ true → i < n) where
    -- All numbers are below the next.
    pub below_more : (d : X) (i : ℕ) → Contains with_new d → has_number d i ≡ true → i < n + 1
    below_more d i has is = by (which d has)
      where
        new_below : ((e : X) × Hit e × (has_number e i ≡ true)) ⊎ (n ≡ i) → i < n + 1
        new_below (inl (e, joined, so)) = let less = below e i joined.listed so in omega (arith, less)
        new_below (inr at) = omega arith

        by : (Contains old d × (has_its d ≡ false)) ⊎ (new ≡ d) → i < n + 1
        by (inl (there, misses)) = let less = below d i there is in omega (arith, less)
        by (inr same) = new_below (number_of i (ap (λ e. has_number e i) same ∙ is))

    -- Two dialogues with one number are equal.
    pub one_number_more : ((d e : X) (i : ℕ) → Contains old d → Contains old e → has_number d i ≡ true → has_number e i ≡ true → d ≡ e)
        → (d e : X) (i : ℕ) → Contains with_new d → Contains with_new e → has_number d i ≡ true → has_number e i ≡ true → d ≡ e
    one_number_more one d e i has hers is so = one_more (λ x. has_number x i) (λ x y. one x y i) beside d e has hers is so
      where
        beside : (x : X) → Contains old x → has_its x ≡ false → has_number x i ≡ true → has_number new i ≡ true → ⊥
        beside x there misses carries new_carries = by (number_of i new_carries)
          where
            by : ((y : X) × Hit y × (has_number y i ≡ true)) ⊎ (n ≡ i) → ⊥
            by (inl (y, joined, too)) = apart x y misses joined (one x y i there joined.listed carries too)
            by (inr at) = let less = below x i there carries in absurd (omega (arith, less))
