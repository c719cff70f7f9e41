-- One more entry, with reused IDs: the dialogue that it joins.
use Rattle.std.proofs.Common.{◌≡◌, ◌⊎◌, inl, inr, ℕ, true, false, List, sym, ◌∙◌}
use Rattle.std.specs.Prelude.{◌||◌, not, Contains, filter}
use Rattle.std.specs.List.{list_any}
use Rattle.std.proofs.lemmas.Bool.{cases_Bool, false_from_ne_true, not_from_false, or_left, or_parts, true≢false}
use Rattle.tcap_dialogues.specs.Course.{Course, Heading, share_id, ids_in}
use Rattle.tcap_dialogues.specs.DialoguesOfList.{IdOf, is_among}
use Rattle.tcap_dialogues.proofs.CutIds.{among_in}
use Rattle.tcap_dialogues.proofs.CutLists.{finds, found, left_in}
use Rattle.tcap_dialogues.proofs.Joins.{Hit, IsJoin, hit_in, in_hit}

-- the dialogues that have one of the entry's IDs
abbrev pub hit_by : Heading → List Course → List Course
hit_by h left = filter (λ d. share_id (ids_in h) d.ids) left

-- the entry's IDs that none of them has
abbrev pub ids_more : Heading → List Course → List IdOf
ids_more h left = filter (λ id. not (list_any (λ d. is_among d.ids id) (hit_by h left))) (ids_in h)

-- The parts of the new dialogue; `earlier` are the IDs of dialogues that are done.
pub record IsNew (earlier : List IdOf) (n : ℕ) (h : Heading) (left : List Course) (new : Course) : Type 0 where
  pub joins : IsJoin (λ (d : Course). d.numbers) (λ (d : Course). d.ids) n (ids_in h) left new
  pub again_is : new.again ≡ (list_any (λ d. d.again) (hit_by h left) || share_id (ids_more h left) earlier)

module _ (earlier : List IdOf) (n : ℕ) (h : Heading) (left : List Course) (new : Course) (made : IsNew earlier n h left new) where
  -- If the new dialogue has no reused ID, those joined have none.
  pub none_again : (d : Course) → new.again ≡ false → Hit made.joins d → d.again ≡ false
  none_again d anew is = false_from_ne_true d.again bad
    where
      bad : d.again ≡ true → ⊥
      bad so =
          true≢false
          (sym (or_left _ _ (finds (λ e. e.again) (hit_by h left) d (hit_in made.joins d is) so)) ∙ sym made.again_is ∙ anew)

  -- Then an earlier ID of the entry is an ID of one of those joined.
  pub had_by : (id : IdOf) → new.again ≡ false → is_among (ids_in h) id ≡ true → is_among earlier id ≡ true
      → (d : Course) × Hit made.joins d × (is_among d.ids id ≡ true)
  had_by id anew its was = by (cases_Bool (list_any (λ d. is_among d.ids id) (hit_by h left)))
    where
      by : (list_any (λ d. is_among d.ids id) (hit_by h left) ≡ true) ⊎ (list_any (λ d. is_among d.ids id) (hit_by h left) ≡ false)
          → (d : Course) × Hit made.joins d × (is_among d.ids id ≡ true)
      by (inl some) = let (d, there, so) = found (λ d. is_among d.ids id) (hit_by h left) some in (d, in_hit made.joins d there, so)
      by (inr none) =
          let more : Contains (ids_more h left) id =
          left_in (λ i. not (list_any (λ d. is_among d.ids i) (hit_by h left))) (ids_in h) id (among_in (ids_in h) id its)
          (not_from_false _ none) in
          let (old, internal) = or_parts _ _ (sym made.again_is ∙ anew) in
          absurd (true≢false (sym (finds (is_among earlier) (ids_more h left) id more was) ∙ internal))
