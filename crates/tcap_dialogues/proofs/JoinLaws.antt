-- What a cut keeps after an entry joins the live dialogues.
use Rattle.std.proofs.Common.{◌≡◌, ◌⊎◌, inl, inr, ℕ, ◌+◌, ◌<◌, Bool, true, false, List, [], ◌∷◌, ◌++◌, Option, Some, None, is_some, refl, sym, ap, subst, ◌∙◌}
use Rattle.std.specs.Prelude.{◌&&◌, ◌||◌, is_none, not, Contains}
use Rattle.std.specs.List.{list_any}
use Rattle.std.proofs.lemmas.Bool.{or_left, or_right}
use Rattle.std.proofs.lemmas.List.Elements.{Contains-append_cases}
use Rattle.std.proofs.lemmas.List.Folds.{list_any-append}
use Rattle.tcap_record.specs.Ends.{other}
use Rattle.tcap_dialogues.specs.Course.{Course, Courses, Earlier, Heading, earlier_in, has_entry, share_id, ids_in, is_alone, joined_by, own_ids, peer_ids}
use Rattle.tcap_dialogues.specs.DialoguesOfList.{IdOf, is_among}
use Rattle.tcap_dialogues.specs.CutState.{AreApart, IsCutOf, IsCutState, IsJoinedLive, earlier_of, higher, is_named, is_unsettled, known_at, known_of, without_name, with_name}
use Rattle.tcap_dialogues.specs.CutUpdate.{AreNoted, HasEntry, IsJoined, IsAdded, TakesOne}
use Rattle.tcap_dialogues.specs.declared.cut.Cut.{Cut}
use Rattle.tcap_dialogues.specs.declared.known_ids.Ids.{Ids}
use Rattle.tcap_dialogues.specs.declared.known_ids.IdState.{IdState}
use Rattle.tcap_dialogues.specs.declared.live.LiveDialogue.{LiveDialogue}
use Rattle.tcap_dialogues.proofs.CourseJoins.{hit_by, ids_more}
use Rattle.tcap_dialogues.proofs.CourseStretch.{left_apart}
use Rattle.tcap_dialogues.proofs.CutLists.{finds, kept_in, left_in}
use Rattle.tcap_dialogues.proofs.EntryLaws.{again_both, again_is, entry_kept, owned_is, unsettled_at, unsettled_by}
use Rattle.tcap_dialogues.proofs.HeldLists.{any_none}
use Rattle.tcap_dialogues.proofs.JoinedLaws.{joined_same}
use Rattle.tcap_dialogues.proofs.JoiningIds.{ids_then}
use Rattle.tcap_dialogues.proofs.JoiningLaws.{lives_then, name_known, names_then, overs_then}
use Rattle.tcap_dialogues.proofs.LiveLaws.{either, some_earlier, some_higher, some_unsettled}
use Rattle.tcap_dialogues.proofs.OwnerLaws.{IsOf, Owns, known_is}
use Rattle.tcap_dialogues.proofs.TwoNames.{named_ones, other_ones}

module _ (s : Courses) (names : Course → ℕ) (sent : IdOf → Bool) (h : Heading) (apart : AreApart s.live) (old : Cut)
    (held : IsCutState s names sent old) (own peer : IdState) (own_known : own ≡ known_of old.ids h.sender h.otid)
    (peer_known : peer ≡ known_of old.ids (other h.sender) h.dtid) where
  abbrev live : List Course
  live = s.live

  abbrev earlier : Earlier
  earlier = earlier_in s.done

  own_of : IsOf s names (own_ids h) own
  own_of = known_is s names sent apart old.ids held.ids h.sender h.otid own own_known

  peer_of : IsOf s names (peer_ids h) peer
  peer_of = known_is s names sent apart old.ids held.ids (other h.sender) h.dtid peer peer_known

  own_is : (d : Course) → Contains live d → share_id (own_ids h) d.ids ≡ is_named names own.dialogue d
  own_is = owned_is live names old.live apart held.lives (own_ids h) own own_of.owns

  peer_is : (d : Course) → Contains live d → share_id (peer_ids h) d.ids ≡ is_named names peer.dialogue d
  peer_is = owned_is live names old.live apart held.lives (peer_ids h) peer peer_of.owns

  hit_is : (d : Course) → Contains live d → share_id (ids_in h) d.ids ≡ (is_named names own.dialogue d || is_named names peer.dialogue d)
  hit_is d has = list_any-append (is_among d.ids) (own_ids h) (peer_ids h) ∙ either _ _ _ _ (own_is d has) (peer_is d has)

  -- The entry begins a new dialogue if it has an ID and no live dialogue has one of its IDs.
  pub begins_is : (has_ids own_none peer_none : Bool) → has_ids ≡ not (is_alone h) → is_some own.dialogue ≡ not own_none
      → is_some peer.dialogue ≡ not peer_none
      → ((has_ids && own_none) && peer_none) ≡ (not (is_alone h) && not (list_any (λ d. share_id (ids_in h) d.ids) live))
  begins_is has_ids own_none peer_none ids_so own_so peer_so =
      ap (λ b. (b && own_none) && peer_none) ids_so
      ∙ ap (λ b. (not (is_alone h) && b) && peer_none) (flipped _ _ own_so ∙ ap not (some_has (own_ids h) own own_of.owns))
      ∙ ap (λ b. (not (is_alone h) && not (list_any (λ d. share_id (own_ids h) d.ids) live)) && b)
      (flipped _ _ peer_so ∙ ap not (some_has (peer_ids h) peer peer_of.owns))
      ∙ neither (not (is_alone h)) (list_any (λ d. share_id (own_ids h) d.ids) live) (list_any (λ d. share_id (peer_ids h) d.ids) live)
      ∙ ap (λ b. not (is_alone h) && not b) (sym (hit_either live))
    where
      flipped : (a b : Bool) → a ≡ not b → b ≡ not a
      flipped a true is = sym (ap not is)
      flipped a false is = sym (ap not is)

      some_has : (ids : List IdOf) (known : IdState) → Owns live names ids known known.dialogue
          → is_some known.dialogue ≡ list_any (λ d. share_id ids d.ids) live
      some_has ids known owns = by known.dialogue owns
        where
          by : (o : Option ℕ) → Owns live names ids known o → is_some o ≡ list_any (λ d. share_id ids d.ids) live
          by None nobody = sym (any_none (λ d. share_id ids d.ids) live nobody.0)
          by (Some name) (d, owner) = sym (finds (λ x. share_id ids x.ids) live d owner.listed owner.has)

      neither : (x a b : Bool) → ((x && not a) && not b) ≡ (x && not (a || b))
      neither true true b = refl
      neither true false b = refl
      neither false a b = refl

      hit_either : (ds : List Course)
          → list_any (λ d. share_id (ids_in h) d.ids) ds
          ≡ (list_any (λ d. share_id (own_ids h) d.ids) ds || list_any (λ d. share_id (peer_ids h) d.ids) ds)
      hit_either [] = refl
      hit_either (d ∷ ds) =
          ap (λ b. b || list_any (λ x. share_id (ids_in h) x.ids) ds) (list_any-append (is_among d.ids) (own_ids h) (peer_ids h))
          ∙ ap (λ b. (share_id (own_ids h) d.ids || share_id (peer_ids h) d.ids) || b) (hit_either ds)
          ∙ order (share_id (own_ids h) d.ids) (share_id (peer_ids h) d.ids) _ _
        where
          order : (a b c e : Bool) → ((a || b) || (c || e)) ≡ ((a || c) || (b || e))
          order true b c e = refl
          order false true true e = refl
          order false true false e = refl
          order false false true e = refl
          order false false false e = refl

  -- the dialogues with the own ID's name, and those of the rest with the peer ID's name
  abbrev pub ones : List Course
  ones = with_name names own.dialogue live

  abbrev pub more : List Course
  more = with_name names peer.dialogue (without_name names own.dialogue live)

  pub others_apart : AreApart (without_name names own.dialogue live)
  others_apart =
      left_apart live (without_name names own.dialogue live) (λ d has. (kept_in (λ e. not (is_named names own.dialogue e)) live d has).0) apart

  module _ (first second : Cut) (x y : LiveDialogue) (takes : TakesOne own.dialogue live names old first x)
      (takes_more : TakesOne peer.dialogue (without_name names own.dialogue live) names first second y) where
    same_ids : second.ids ≡ old.ids
    same_ids = ap (λ c. c.ids) takes_more.rest ∙ ap (λ c. c.ids) takes.rest

    pub same_count : second.count ≡ old.count
    same_count = ap (λ c. c.count) takes_more.rest ∙ ap (λ c. c.count) takes.rest

    pub one_first : IsJoinedLive second.count ones names x
    one_first = subst (λ n. IsJoinedLive n ones names x) (sym same_count) takes.one

    pub one_more : IsJoinedLive second.count more names y
    one_more = subst (λ n. IsJoinedLive n more names y) (sym (ap (λ c. c.count) takes_more.rest)) takes_more.one

    pub owned : (d : Course) (id : IdOf) → Contains (ones ++ more) d → is_among d.ids id ≡ true
        → (known_at second.ids id).dialogue ≡ Some (names d)
    owned d id has its =
        ap (λ ids. (known_at ids id).dialogue) same_ids
        ∙ name_known s names sent old.ids apart held.ids d id (in_live (Contains-append_cases ones more d has)) its
      where
        in_live : Contains ones d ⊎ Contains more d → Contains live d
        in_live (inl there) = (kept_in (is_named names own.dialogue) live d there).0
        in_live (inr there) =
            (kept_in (λ e. not (is_named names own.dialogue e)) live d
            (kept_in (is_named names peer.dialogue) (without_name names own.dialogue live) d there).0).0

    module _ (later : AreApart (joined_by old.count h s.done s.live).live)
        (below : (d : Course) (i : ℕ) → Contains live d → has_entry d i ≡ true → i < old.count) (third put : Cut) (l new : LiveDialogue)
        (ids : Ids) (joined : IsJoined second.count (ones ++ more) second third l)
        (entry : HasEntry old.count h own peer l new)
        (noted : AreNoted h new.name own peer third.ids ids) (puts : IsAdded new (record third { ids = ids }) put) where
      all : IsJoined second.count (hit_by h live) second third l
      all =
          joined_same second.count (ones ++ more) (hit_by h live) second third l
          (named_ones live names own.dialogue peer.dialogue (λ d. share_id (ids_in h) d.ids) hit_is) joined

      hit_live : (d : Course) → Contains (hit_by h live) d → Contains live d
      hit_live d has = (kept_in (λ e. share_id (ids_in h) e.ids) live d has).0

      hit_of : (ids : List IdOf) → ((d : Course) → share_id ids d.ids ≡ true → share_id (ids_in h) d.ids ≡ true) → (d : Course)
          → Contains live d → share_id ids d.ids ≡ true → Contains (hit_by h live) d
      hit_of some wider d has is = left_in (λ e. share_id (ids_in h) e.ids) live d has (wider d is)

      in_own : (d : Course) → Contains live d → share_id (own_ids h) d.ids ≡ true → Contains (hit_by h live) d
      in_own = hit_of (own_ids h) (λ d is. list_any-append (is_among d.ids) (own_ids h) (peer_ids h) ∙ or_left _ _ is)

      in_peer : (d : Course) → Contains live d → share_id (peer_ids h) d.ids ≡ true → Contains (hit_by h live) d
      in_peer = hit_of (peer_ids h) (λ d is. list_any-append (is_among d.ids) (own_ids h) (peer_ids h) ∙ or_right _ _ is)

      -- What is known of both IDs decides the test of those that none of these dialogues has.
      test_both : (test : IdOf → Bool) (a b : Bool) → a ≡ list_any test (own_ids h) → b ≡ list_any test (peer_ids h)
          → list_any test (ids_more h live) ≡ ((is_none own.dialogue && a) || (is_none peer.dialogue && b))
      test_both test a b own_so peer_so =
          again_both h (hit_by h live) test _ _
          (again_is live (hit_by h live) names h.sender h.otid own own_of.owns hit_live in_own test a own_so)
          (again_is live (hit_by h live) names (other h.sender) h.dtid peer peer_of.owns hit_live in_peer test b peer_so)

      comes_again : share_id (ids_more h live) earlier.ids ≡ is_some (higher (earlier_of own) (earlier_of peer))
      comes_again =
          test_both (is_among earlier.ids) (is_some own.last) (is_some peer.last) own_of.came peer_of.came
          ∙ sym (some_higher (earlier_of own) (earlier_of peer) ∙ either _ _ _ _ (some_earlier own) (some_earlier peer))

      unsettled_too : list_any (unsettled_by earlier) (ids_more h live) ≡ (is_unsettled own || is_unsettled peer)
      unsettled_too =
          test_both (unsettled_by earlier) (is_some own.last && not own.firm) (is_some peer.last && not peer.firm)
          (unsettled_at s names h.sender h.otid own own_of) (unsettled_at s names (other h.sender) h.dtid peer peer_of)
          ∙ sym (either _ _ _ _ (some_unsettled own) (some_unsettled peer))

      entry_named : (new.name ≡ old.count) ⊎ (list_any (λ d. has_entry d new.name) (hit_by h live) ≡ true)
      entry_named = by all.entry
        where
          by : (l.name ≡ second.count) ⊎ (list_any (λ d. has_entry d l.name) (hit_by h live) ≡ true)
              → (new.name ≡ old.count) ⊎ (list_any (λ d. has_entry d new.name) (hit_by h live) ≡ true)
          by (inl is) = inl (entry.name ∙ is ∙ same_count)
          by (inr is) = inr (ap (λ k. list_any (λ d. has_entry d k) (hit_by h live)) entry.name ∙ is)

      third_is : third ≡ record second { ids = third.ids }
      third_is = joined.rest

      miss : Rattle.tcap_dialogues.proofs.HeldLists.AreSame
          (without_name names peer.dialogue (without_name names own.dialogue live)) (Rattle.std.specs.Prelude.filter (λ d. not (share_id (ids_in h) d.ids)) live)
      miss = other_ones live names own.dialogue peer.dialogue (λ d. share_id (ids_in h) d.ids) hit_is

      pub entry_comes : IsCutOf old.reuse (old.count + 1) (joined_by old.count h s.done s.live) (λ id. sent id || is_among (own_ids h) id)
          (record put { count = old.count + 1 })
      entry_comes = record {
        reuse_is = ap (λ c. c.reuse) puts.rest ∙ ap (λ c. c.reuse) third_is ∙ ap (λ c. c.reuse) takes_more.rest ∙ ap (λ c. c.reuse) takes.rest;
        count_is = refl;
        name = names_then live names earlier old.count h apart later below new.name;
        held = record {
          lives = lives_then live names earlier old.count h apart later below new.name entry_named second.live second.overs
              (without_name names peer.dialogue (without_name names own.dialogue live)) miss takes_more.lives takes_more.overs
              (record third { ids = ids }) put (ap (λ c. c.live) third_is) (ap (λ c. c.overs) third_is) new refl
              (entry_kept earlier old.count h live own peer l new all.kept entry comes_again unsettled_too) puts;
          overs = overs_then live names earlier old.count h apart later below new.name entry_named second.live second.overs
              (without_name names peer.dialogue (without_name names own.dialogue live)) miss takes_more.lives takes_more.overs
              (record third { ids = ids }) put (ap (λ c. c.live) third_is) (ap (λ c. c.overs) third_is) new refl
              (entry_kept earlier old.count h live own peer l new all.kept entry comes_again unsettled_too) puts;
          ids = λ id. subst
              (λ x. Rattle.tcap_dialogues.specs.CutState.IsIdState (joined_by old.count h s.done s.live)
              (names_then live names earlier old.count h apart later below new.name) (λ y. sent y || is_among (own_ids h) y) id (known_at x id))
              (sym (ap (λ c. c.ids) puts.rest))
              (ids_then s names sent old.count h apart later below new.name old.ids third.ids ids held.ids own peer own_known peer_known
              joined_then noted id);
        };
      }
        where
          joined_then : (id : IdOf) → known_at third.ids id
              ≡ Rattle.std.proofs.Common.cond (list_any (λ d. is_among d.ids id) (hit_by h live))
              (Rattle.tcap_dialogues.specs.CutState.changed (Rattle.tcap_dialogues.specs.declared.known_ids.Change.TheVariants.JoinTo new.name) (known_at old.ids id)) (known_at old.ids id)
          joined_then id =
              all.ids id
              ∙ ap (λ s. Rattle.std.proofs.Common.cond (list_any (λ d. is_among d.ids id) (hit_by h live))
              (Rattle.tcap_dialogues.specs.CutState.changed (Rattle.tcap_dialogues.specs.declared.known_ids.Change.TheVariants.JoinTo l.name) (known_at s id)) (known_at s id)) same_ids
              ∙ ap (λ k. Rattle.std.proofs.Common.cond (list_any (λ d. is_among d.ids id) (hit_by h live))
              (Rattle.tcap_dialogues.specs.CutState.changed (Rattle.tcap_dialogues.specs.declared.known_ids.Change.TheVariants.JoinTo k) (known_at old.ids id)) (known_at old.ids id)) (sym entry.name)
