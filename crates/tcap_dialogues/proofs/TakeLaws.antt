-- The next entry: the dialogues that are handed over, and what a cut keeps after it.
use Rattle.std.proofs.Common.{◌≡◌, ◌⊎◌, inl, inr, ℕ, ◌+◌, ◌<◌, Bool, true, false, List, [], ◌∷◌, ◌++◌, length, Option, Some, None, refl, sym, ap, subst, ◌∙◌}
use Rattle.std.specs.Prelude.{◌&&◌, ◌||◌, cond, not, Contains, filter}
use Rattle.std.specs.List.{flat_map, list_any}
use Rattle.std.proofs.Math.Bool.{and-false, and-true}
use Rattle.std.proofs.lemmas.Bool.{true≢false}
use Rattle.std.proofs.lemmas.List.{append-nil, append_assoc}
use Rattle.std.proofs.lemmas.List.Elements.{Contains-append_cases, Contains-append_left, Contains-append_right}
use Rattle.std.proofs.lemmas.List.Folds.{list_any-append}
use Rattle.std.proofs.lemmas.Grind.{flat_map-append}
use Rattle.tcap_dialogues.specs.Course.{Course, Courses, Heading, begins_new, courses_so_far, firm_in, has_entry, share_id, ids_in, is_alone, is_free, joined_by, own_ids}
use Rattle.tcap_dialogues.specs.DialoguesOfList.{IdOf, is_among, is_same}
use Rattle.tcap_dialogues.specs.CutDialogues.{HandsOver}
use Rattle.tcap_dialogues.specs.CutState.{AreApart, IsCut, IsCutOf, IsCutState, Lingers, after_done, is_given_up, is_named, is_past_by, known_at, without_name, with_name}
use Rattle.tcap_dialogues.specs.declared.cut.Cut.{Cut}
use Rattle.tcap_dialogues.specs.declared.complete_dialogue.CompleteDialogue.{CompleteDialogue}
use Rattle.tcap_dialogues.specs.declared.reuse.Reuse.{Reuse}
use Rattle.tcap_dialogues.proofs.CourseStretch.{apart_so_far, free_is, left_apart, so_far_more, well_so_far}
use Rattle.tcap_dialogues.proofs.CutLists.{kept_in}
use Rattle.tcap_dialogues.proofs.GatheredLaws.{more_gathered, same_gathered}
use Rattle.tcap_dialogues.proofs.HeldLists.{AreSame, any_flat, any_same}
use Rattle.tcap_dialogues.proofs.LiveLaws.{either}
use Rattle.tcap_dialogues.proofs.TwoNames.{first, named_ones, other_ones, second}

-- A cut keeps the same dialogues in another order, and by the same IDs.
pub held_same : (s t : Courses) (names : Course → ℕ) (sent sent_too : IdOf → Bool) (kept : Cut) → AreSame s.done t.done → AreSame s.live t.live
    → ((id : IdOf) → sent id ≡ sent_too id) → IsCutState s names sent kept → IsCutState t names sent_too kept
held_same s t names sent sent_too kept done same agree held = record {
  lives = record {
    there = λ d has. held.lives.there d (same.back d has);
    back = λ k l at. let (d, has, named) = held.lives.back k l at in (d, same.there d has, named);
    entry = λ d has. held.lives.entry d (same.back d has);
  };
  overs = record {
    there = λ d k has over. held.overs.there d k (same.back d has) over;
    back = λ k found at. let (d, has, over, named) = held.overs.back k found at in (d, same.there d has, over, named);
  };
  ids = λ id. record {
    owned = by id (known_at kept.ids id).dialogue _ _ (held.ids id).owned;
    came = (held.ids id).came ∙ part (λ d. d.ids) id;
    firm_is = (held.ids id).firm_is ∙ part firm_in id;
    sent_is = (held.ids id).sent_is ∙ agree id;
  };
}
  where
    part : (ids : Course → List IdOf) (id : IdOf) → is_among (flat_map ids s.done) id ≡ is_among (flat_map ids t.done) id
    part ids id =
        any_flat (is_same id) ids s.done ∙ any_same (λ d. is_among (ids d) id) s.done t.done done ∙ sym (any_flat (is_same id) ids t.done)

    by : (id : IdOf) (o : Option ℕ) (used begun : Bool) → Rattle.tcap_dialogues.specs.CutState.IsOwned s.live names id o used begun
        → Rattle.tcap_dialogues.specs.CutState.IsOwned t.live names id o used begun
    by id None used begun (nobody, unused, unbegun) = (λ d has. nobody d (same.back d has), unused, unbegun)
    by id (Some m) used begun (d, has, its, named, used_is, begun_is) = (d, same.there d has, its, named, used_is, begun_is)

-- The same elements after one list.
same_behind : {X : Type 0} (before xs ys : List X) → AreSame xs ys → AreSame (before ++ xs) (before ++ ys)
same_behind {X} before xs ys same = record {
  there = λ x has. by xs ys same.there x (Contains-append_cases before xs x has);
  back = λ x has. by ys xs same.back x (Contains-append_cases before ys x has);
}
  where
    by : (us vs : List X) → ((x : X) → Contains us x → Contains vs x) → (x : X) → Contains before x ⊎ Contains us x → Contains (before ++ vs) x
    by us vs there x (inl has) = Contains-append_left before vs x has
    by us vs there x (inr has) = Contains-append_right before vs x (there x has)

module _ (live : List Course) (names : Course → ℕ) (past given : Option ℕ) (free : Course → Bool)
    (is : (d : Course) → Contains live d → free d ≡ (is_named names past d || is_named names given d)) (apart : AreApart live) where
  pub others_of_apart : AreApart (without_name names past live)
  others_of_apart = left_apart live (without_name names past live) (λ d has. (kept_in (λ e. not (is_named names past e)) live d has).0) apart

  -- the dialogues handed over: first those past, and then the one given up
  abbrev past_ones : List Course
  past_ones = first live names past given free is

  abbrev given_ones : List Course
  given_ones = second live names past given free is

  -- Both are handed over, and share no entry.
  pub both_hand_over : (before mid after : List CompleteDialogue) → HandsOver past_ones before mid → HandsOver given_ones mid after
      → HandsOver (filter free live) before after
  both_hand_over before mid after (gs, mid_is, are) (hs, after_is, more) = (
    gs ++ hs,
    after_is ∙ ap (λ xs. xs ++ hs) mid_is ∙ append_assoc before gs hs,
    same_gathered (past_ones ++ given_ones) (filter free live) (gs ++ hs) (named_ones live names past given free is)
        (more_gathered past_ones given_ones gs hs disjoint are more),
  )
    where
      disjoint : (d e : Course) (n : ℕ) → Contains past_ones d → Contains given_ones e → has_entry d n ≡ true → has_entry e n ≡ true → ⊥
      disjoint d e n has hers its too =
          let (listed, named) = kept_in (is_named names past) live d has in
          let (in_others, given_too) = kept_in (is_named names given) (without_name names past live) e hers in
          let (there, not_past) = kept_in (λ x. not (is_named names past x)) live e in_others in
          let same : d ≡ e = apart.one_number d e n listed there its too in
          true≢false (sym not_past ∙ ap (λ x. not (is_named names past x)) (sym same) ∙ ap not named)

  -- all dialogues that are done after
  pub done_ones : (done : List Course) → AreSame ((done ++ past_ones) ++ given_ones) (done ++ filter free live)
  done_ones done =
      subst (λ ds. AreSame ds (done ++ filter free live)) (sym (append_assoc done past_ones given_ones))
      (same_behind done (past_ones ++ given_ones) (filter free live) (named_ones live names past given free is))

-- ---- with the entry

-- a test of the elements left
pub any_left : {X : Type 0} (p q : X → Bool) (xs : List X)
    → list_any p (filter (λ x. not (q x)) xs) ≡ list_any (λ x. p x && not (q x)) xs
any_left p q [] = refl
any_left {X} p q (x ∷ xs) = by (q x) ∙ ap (λ b. (p x && not (q x)) || b) (any_left p q xs)
  where
    by : (b : Bool) → list_any p (cond (not b) (x ∷ filter (λ y. not (q y)) xs) (filter (λ y. not (q y)) xs))
        ≡ ((p x && not b) || list_any p (filter (λ y. not (q y)) xs))
    by true = ap (λ b. b || list_any p (filter (λ y. not (q y)) xs)) (sym (and-false (p x)))
    by false = ap (λ b. b || list_any p (filter (λ y. not (q y)) xs)) (sym (and-true (p x)))

module _ (reuse : Reuse) (headings : List Heading) (h : Heading) where
  abbrev s : Courses
  s = courses_so_far reuse headings

  abbrev n : ℕ
  n = length headings

  -- the dialogues done and left after, and the IDs from which an entry was sent
  abbrev pub freed_now : Courses
  freed_now = record { done = s.done ++ filter (is_free reuse n s h) s.live; live = filter (λ d. not (is_free reuse n s h d)) s.live }

  abbrev pub sent : IdOf → Bool
  sent = is_among (flat_map own_ids headings)

  pub then_apart : AreApart freed_now.live
  then_apart =
      left_apart s.live freed_now.live (λ d has. (kept_in (λ e. not (is_free reuse n s h e)) s.live d has).0) (apart_so_far reuse headings)

  later_apart : AreApart (joined_by n h freed_now.done freed_now.live).live
  later_apart = subst (λ c. AreApart c.live) (so_far_more reuse headings h) (apart_so_far reuse (headings ++ h ∷ []))

  then_below : (d : Course) (i : ℕ) → Contains freed_now.live d → has_entry d i ≡ true → i < n
  then_below d i has is =
      (well_so_far reuse headings).courses.below d i
      (inr (kept_in (λ e. not (is_free reuse n s h e)) s.live d has).0) is

  sent_then : (id : IdOf) → (sent id || is_among (own_ids h) id) ≡ is_among (flat_map own_ids (headings ++ h ∷ [])) id
  sent_then id =
      sym (ap (λ ids. is_among ids id) (flat_map-append own_ids headings (h ∷ []))
      ∙ list_any-append (is_same id) (flat_map own_ids headings) (flat_map own_ids (h ∷ []))
      ∙ ap (λ ids. sent id || is_among ids id) (append-nil (own_ids h)))

  -- The cut keeps the segment with the entry.
  cut_then : (kept : Cut) → IsCutOf reuse (n + 1) (joined_by n h freed_now.done freed_now.live) (λ id. sent id || is_among (own_ids h) id) kept
      → IsCut reuse (headings ++ h ∷ []) kept
  cut_then kept is =
      subst (λ c. IsCutOf reuse (length (headings ++ h ∷ [])) c (is_among (flat_map own_ids (headings ++ h ∷ []))) kept)
      (sym (so_far_more reuse headings h))
      (subst (λ m. IsCutOf reuse m (joined_by n h freed_now.done freed_now.live) (is_among (flat_map own_ids (headings ++ h ∷ []))) kept)
      (sym (Rattle.std.proofs.lemmas.List.length-append headings (h ∷ [])))
      (record {
        reuse_is = is.reuse_is;
        count_is = is.count_is;
        name = is.name;
        held = held_same _ _ is.name _ _ kept
            (record { there = λ d has. has; back = λ d has. has }) (record { there = λ d has. has; back = λ d has. has }) sent_then is.held;
      }))

  -- whether the entry begins a new dialogue
  pub begins_then : (not (is_alone h) && not (list_any (λ d. share_id (ids_in h) d.ids) freed_now.live)) ≡ begins_new reuse n s h
  begins_then = ap (λ b. not (is_alone h) && not b) (any_left (λ d. share_id (ids_in h) d.ids) (is_free reuse n s h) s.live)

  -- ---- names in the code

  -- The live dialogues linger by what the cut keeps.
  pub lingers_old : (old : Cut) → IsCut reuse headings old → (d : Course) → Contains s.live d → Lingers old.reuse old.count d.over
  lingers_old old cut d has =
      subst (λ r. Lingers r old.count d.over) (sym cut.reuse_is)
      (subst (λ m. Lingers reuse m d.over) (sym cut.count_is) (((well_so_far reuse headings).sound d has).lingers))

  pub free_names : (old : Cut) (cut : IsCut reuse headings old) (past given : Option ℕ)
      → ((d : Course) → Contains s.live d → is_past_by old.reuse old.count d ≡ is_named cut.name past d)
      → ((d : Course) → Contains s.live d → is_given_up old.reuse s h d ≡ is_named cut.name given d)
      → (d : Course) → Contains s.live d → is_free reuse n s h d ≡ (is_named cut.name past d || is_named cut.name given d)
  free_names old cut past given past_is given_is d has =
      free_is reuse n s h d
      ∙ either _ _ _ _
      (ap (λ m. is_past_by reuse m d) (sym cut.count_is) ∙ ap (λ r. is_past_by r old.count d) (sym cut.reuse_is) ∙ past_is d has)
      (ap (λ r. is_given_up r s h d) (sym cut.reuse_is) ∙ given_is d has)

  pub then_held : (names : Course → ℕ) (past given : Option ℕ)
      → ((d : Course) → Contains s.live d → is_free reuse n s h d ≡ (is_named names past d || is_named names given d))
      → (kept : Cut) → IsCutState (after_done names given (after_done names past s)) names sent kept → IsCutState freed_now names sent kept
  then_held names past given is kept held =
      held_same (after_done names given (after_done names past s)) freed_now names sent sent kept
      (done_ones s.live names past given (is_free reuse n s h) is (apart_so_far reuse headings) s.done)
      (other_ones s.live names past given (is_free reuse n s h) is) (λ id. refl) held

  pub later_at : (m : ℕ) → m ≡ n → AreApart (joined_by m h freed_now.done freed_now.live).live
  later_at m same = subst (λ k. AreApart (joined_by k h freed_now.done freed_now.live).live) (sym same) later_apart

  pub below_at : (m : ℕ) → m ≡ n → (d : Course) (i : ℕ) → Contains freed_now.live d → has_entry d i ≡ true → i < m
  below_at m same d i has so = subst (λ k. i < k) (sym same) (then_below d i has so)

  pub cut_at : (kept : Cut) (r : Reuse) (m : ℕ) → r ≡ reuse → m ≡ n
      → IsCutOf r (m + 1) (joined_by m h freed_now.done freed_now.live) (λ id. sent id || is_among (own_ids h) id) kept
      → IsCut reuse (headings ++ h ∷ []) kept
  cut_at kept r m same_reuse same_count is =
      cut_then kept
      (subst (λ k. IsCutOf reuse (k + 1) (joined_by k h freed_now.done freed_now.live) (λ id. sent id || is_among (own_ids h) id) kept) same_count
      (subst (λ q. IsCutOf q (m + 1) (joined_by m h freed_now.done freed_now.live) (λ id. sent id || is_among (own_ids h) id) kept) same_reuse is))
