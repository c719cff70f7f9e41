-- A live dialogue is done: its IDs are freed, and it is handed over.
use Rattle.std.proofs.Common.{◌≡◌, ◌⊎◌, inl, inr, ℕ, Bool, true, false, cond, List, [], ◌∷◌, ◌++◌, Option, Some, None, refl, sym, ap, subst, ◌∙◌}
use Rattle.std.proofs.Math.Bool.{or-true, or_assoc}
use Rattle.std.specs.Prelude.{◌||◌, not, Contains}
use Rattle.std.specs.List.{flat_map, list_any}
use Rattle.std.proofs.lemmas.Bool.{false_from_ne_true, or_right, true≢false}
use Rattle.std.proofs.lemmas.List.{append-nil}
use Rattle.std.proofs.lemmas.List.Folds.{list_any-append}
use Rattle.tcap_dialogues.specs.Course.{Course, Courses, firm_in, has_entry}
use Rattle.tcap_dialogues.specs.DialoguesOfList.{IdOf, is_among, is_same}
use Rattle.tcap_dialogues.specs.CutDialogues.{HandsOver, IsCompleteDialogue, has_id}
use Rattle.tcap_dialogues.specs.CutState.{AreApart, HasValuesOf, HoldsLive, AreTakenOut, IsCutState, IsIdState, IsTakenOut, IsOwned, free_since, after_done, is_named, known_at, without_name, with_name}
use Rattle.tcap_dialogues.specs.declared.cut.Cut.{Cut}
use Rattle.tcap_dialogues.specs.declared.complete_dialogue.CompleteDialogue.{CompleteDialogue}
use Rattle.tcap_dialogues.specs.declared.known_ids.IdState.{IdState}
use Rattle.tcap_dialogues.specs.declared.live.LiveDialogue.{LiveDialogue}
use Rattle.tcap_dialogues.proofs.CutLists.{finds, first_in, found, in_cases, kept_in, left_in, none_in}
use Rattle.tcap_dialogues.proofs.GatheredLaws.{none_gathered, one_gathered}
use Rattle.tcap_dialogues.proofs.HeldLaws.{one_name, same_kept}
use Rattle.tcap_dialogues.proofs.HeldLists.{any_flat, any_none, any_only, or_none}
use Rattle.tcap_dialogues.proofs.LiveLaws.{either}

module _ (s : Courses) (names : Course → ℕ) (sent : IdOf → Bool) (number : Option ℕ) (apart : AreApart s.live) where
  -- the dialogues with this name, the others, and all after
  abbrev gone : List Course
  gone = with_name names number s.live

  abbrev left : List Course
  left = without_name names number s.live

  abbrev now : Courses
  now = after_done names number s

  abbrev Known_now : IdOf → IdState → Type 0
  Known_now = IsIdState now names sent

  -- a dialogue with this name is live
  listed_gone : (d : Course) → Contains gone d → Contains s.live d
  listed_gone d has = (kept_in (is_named names number) s.live d has).0

  -- a list of IDs of all dialogues that are done after
  then_is : (part : Course → List IdOf) (id : IdOf)
      → is_among (flat_map part now.done) id ≡ (is_among (flat_map part s.done) id || list_any (λ d. is_among (part d) id) gone)
  then_is part id =
      any_flat (is_same id) part (s.done ++ gone) ∙ list_any-append (λ d. is_among (part d) id) s.done gone
      ∙ ap (λ b. b || list_any (λ d. is_among (part d) id) gone) (sym (any_flat (is_same id) part s.done))

  -- The others share no ID with it.
  other_has_none : (id : IdOf) → list_any (λ d. is_among d.ids id) gone ≡ true → (e : Course) → Contains left e → is_among e.ids id ≡ false
  other_has_none id some e has = false_from_ne_true _ bad
    where
      bad : is_among e.ids id ≡ true → ⊥
      bad its =
          let (d, there, so) = found (λ x. is_among x.ids id) gone some in
          let (listed, named) = kept_in (is_named names number) s.live d there in
          let (hers, not_named) = kept_in (λ x. not (is_named names number x)) s.live e has in
          let same : d ≡ e = apart.one_id d e id listed hers so its in
          true≢false (sym not_named ∙ ap (λ x. not (is_named names number x)) (sym same) ∙ ap not named)

  -- A firm ID of a live dialogue is one of its IDs.
  firm_has : (d : Course) (id : IdOf) → Contains s.live d → is_among (firm_in d) id ≡ true → is_among d.ids id ≡ true
  firm_has d id listed is = by d.early is
    where
      by : (b : Bool) → is_among (cond b d.used d.ids) id ≡ true → is_among d.ids id ≡ true
      by true so = apart.used_in d id listed so
      by false so = so

  -- An ID is firm if it was used, or if the dialogue began after the under-way directive.
  firm_of : (d : Course) (id : IdOf) (early used : Bool) → is_among d.ids id ≡ true → early ≡ d.early → used ≡ is_among d.used id
      → is_among (firm_in d) id ≡ (used || not early)
  firm_of d id early used its same is = by d.early ∙ sym (ap (λ b. b || not early) is ∙ ap (λ b. is_among d.used id || not b) same)
    where
      by : (b : Bool) → is_among (cond b d.used d.ids) id ≡ (is_among d.used id || not b)
      by true = sym (or_none (is_among d.used id))
      by false = its ∙ sym (or-true (is_among d.used id))

  -- what is known of an ID after
  module _ (first : ℕ) (early : Bool) (early_is : (d : Course) → Contains gone d → early ≡ d.early) (old : IdState) (id : IdOf)
      (known : IsIdState s names sent id old) where
    -- What is known is whether its dialogue used it.
    used_is : (d : Course) → Contains s.live d → is_among d.ids id ≡ true → old.used ≡ is_among d.used id
    used_is d listed its = by old.dialogue known.owned
      where
        by : (o : Option ℕ) → IsOwned s.live names id o old.used old.begun → old.used ≡ is_among d.used id
        by None (nobody, unused, unbegun) = absurd (true≢false (sym its ∙ nobody d listed))
        by (Some m) (e, there, hers, name, used, begun) =
            used ∙ ap (λ x. is_among x.used id) (apart.one_id e d id there listed hers its)

    firm_some : list_any (λ d. is_among d.ids id) gone ≡ true → list_any (λ d. is_among (firm_in d) id) gone ≡ (old.used || not early)
    firm_some some =
        let (d, has, its) = found (λ x. is_among x.ids id) gone some in
        let listed = listed_gone d has in
        any_only (λ x. is_among (firm_in x) id) gone d has
        (λ e there so. apart.one_id e d id (listed_gone e there) listed (firm_has e id (listed_gone e there) so) its)
        ∙ firm_of d id early old.used its (early_is d has) (used_is d listed its)

    firm_none : list_any (λ d. is_among d.ids id) gone ≡ false → list_any (λ d. is_among (firm_in d) id) gone ≡ false
    firm_none none =
        any_none (λ x. is_among (firm_in x) id) gone
        (λ e there. false_from_ne_true _
        (λ so. true≢false (sym (finds (λ x. is_among x.ids id) gone e there (firm_has e id (listed_gone e there) so)) ∙ none)))

    stays : (o : Option ℕ) (used begun : Bool) → list_any (λ d. is_among d.ids id) gone ≡ false → IsOwned s.live names id o used begun
        → IsOwned left names id o used begun
    stays None used begun none (nobody, unused, unbegun) =
        (λ e has. nobody e (kept_in (λ x. not (is_named names number x)) s.live e has).0, unused, unbegun)
    stays (Some m) used begun none (d, listed, its, name, used_so, begun_so) = (
      d,
      left_in (λ x. not (is_named names number x)) s.live d listed
          (ap not (false_from_ne_true (is_named names number d)
          (λ named. true≢false (sym (finds (λ x. is_among x.ids id) gone d (left_in (is_named names number) s.live d listed named) its) ∙ none)))),
      its,
      name,
      used_so,
      begun_so,
    )

    pub known_then : (new : IdState) → new ≡ cond (list_any (λ d. is_among d.ids id) gone) (free_since first early old) old → Known_now id new
    known_then new is = subst (Known_now id) (sym is) (by (list_any (λ d. is_among d.ids id) gone) refl)
      where
        by : (b : Bool) → list_any (λ d. is_among d.ids id) gone ≡ b → Known_now id (cond b (free_since first early old) old)
        by true some = record {
          owned = (other_has_none id some, refl, refl);
          came = sym (then_is (λ d. d.ids) id ∙ or_right _ _ some);
          firm_is = or_assoc old.firm old.used (not early) ∙ either _ _ _ _ known.firm_is (sym (firm_some some)) ∙ sym (then_is firm_in id);
          sent_is = known.sent_is;
        }
        by false none = record {
          owned = stays old.dialogue old.used old.begun none known.owned;
          came = known.came ∙ sym (then_is (λ d. d.ids) id ∙ ap (λ b. is_among (flat_map (λ d. d.ids) s.done) id || b) none ∙ or_none _);
          firm_is = known.firm_is
              ∙ sym (then_is firm_in id ∙ ap (λ b. is_among (flat_map firm_in s.done) id || b) (firm_none none) ∙ or_none _);
          sent_is = known.sent_is;
        }

  -- ---- the dialogue taken out

  -- It is the only one with this name.
  taken_one : (lives : Rattle.std.specs.BTreeMap.BTreeMap ℕ LiveDialogue) (l : LiveDialogue) → HoldsLive s.live names lives → AreTakenOut gone names (Some l)
      → (d : Course) × Contains gone d × ((e : Course) → Contains gone e → e ≡ d) × HasValuesOf (d ∷ []) l
  taken_one lives l are (kept, named, some) =
      let (d, has, so) = found (λ x. has_entry x l.name) gone some in
      let listed = listed_gone d has in
      let only : (e : Course) → Contains gone e → e ≡ d = λ e there.
      one_name s.live names lives are apart e d (listed_gone e there) listed (named e there ∙ sym (named d has)) in (
        d,
        has,
        only,
        same_kept gone (d ∷ []) l
            (record { there = λ e there. subst (Contains (d ∷ [])) (sym (only e there)) (first_in d []); back = λ e there. alone d e has (in_cases d e [] there) })
            kept,
      )
    where
      alone : (d e : Course) → Contains gone d → (d ≡ e) ⊎ Contains [] e → Contains gone e
      alone d e has (inl same) = subst (Contains gone) same has
      alone d e has (inr bad) = absurd (none_in e bad)

  module _ (old : Cut) (held : IsCutState s names sent old) where
    -- It is handed over.
    pub one_released : (first : ℕ) (out new : Cut) (l : LiveDialogue) (g : CompleteDialogue) (before : List CompleteDialogue) → IsTakenOut number s.live names old out (Some l)
        → new.live ≡ out.live → new.overs ≡ out.overs
        → ((id : IdOf) → known_at new.ids id ≡ cond (has_id l.a l.b id) (free_since first l.early (known_at out.ids id)) (known_at out.ids id))
        → ((d : Course) → HasValuesOf (d ∷ []) l → IsCompleteDialogue d g)
        → IsCutState now names sent new × HandsOver gone before (before ++ g ∷ [])
    one_released first out new l g before is same_live same_overs ids stands =
        let (d, has, only, kept) = taken_one old.live l held.lives is.out in
        let early_is : (e : Course) → Contains gone e → l.early ≡ e.early =
        λ e there. kept.early ∙ or_none d.early ∙ ap (λ x. x.early) (sym (only e there)) in (
          record {
            lives = subst (HoldsLive left names) (sym same_live) is.lives;
            overs = subst (Rattle.tcap_dialogues.specs.CutState.HoldsOver left names) (sym same_overs) is.overs;
            ids = λ id. known_then first l.early early_is (known_at old.ids id) id (held.ids id) (known_at new.ids id)
                (ids id
                ∙ ap (λ known. cond (has_id l.a l.b id) (free_since first l.early known) known) (ap (λ k. known_at k.ids id) is.rest)
                ∙ ap (λ b. cond b (free_since first l.early (known_at old.ids id)) (known_at old.ids id)) (is.out.0.ids id));
          },
          (g ∷ [], refl, one_gathered gone d g has only (stands d kept)),
        )

    -- There is none.
    pub none_released : (out : Cut) (before : List CompleteDialogue) → IsTakenOut number s.live names old out None
        → IsCutState now names sent out × HandsOver gone before before
    none_released out before is = (
      record {
        lives = is.lives;
        overs = is.overs;
        ids = λ id. known_then 0 false (λ d has. absurd (is.out d has)) (known_at old.ids id) id (held.ids id) (known_at out.ids id)
            (ap (λ k. known_at k.ids id) is.rest
            ∙ ap (λ b. cond b (free_since 0 false (known_at old.ids id)) (known_at old.ids id)) (sym (nobody id)));
      },
      ([], sym (append-nil before), none_gathered gone is.out),
    )
      where
        nobody : (id : IdOf) → list_any (λ d. is_among d.ids id) gone ≡ false
        nobody id =
            false_from_ne_true _ (λ some. let (d, has, so) = found (λ x. is_among x.ids id) gone some in is.out d has)
