-- What is known of transaction IDs after an entry joins the live dialogues that have one of its IDs.
use Rattle.std.proofs.Common.{◌≡◌, ◌⊎◌, inl, inr, ℕ, ◌<◌, Bool, true, false, cond, List, [], Option, Some, None, refl, sym, ap, subst, ◌∙◌}
use Rattle.std.proofs.Math.Bool.{and-false, and-true}
use Rattle.std.specs.Prelude.{◌&&◌, ◌||◌, Contains}
use Rattle.std.specs.List.{list_any}
use Rattle.std.proofs.lemmas.Bool.{cases_Bool, false_from_ne_true, or_left, or_right, true≢false}
use Rattle.std.proofs.lemmas.List.Folds.{list_any-append}
use Rattle.tcap_record.specs.Ends.{other}
use Rattle.tcap_dialogues.specs.Course.{Course, Courses, Earlier, Heading, begun_by, earlier_in, has_entry, share_id, ids_in, is_begin, joined_by, own_ids, peer_ids}
use Rattle.tcap_dialogues.specs.DialoguesOfList.{IdOf, is_among, is_same}
use Rattle.tcap_dialogues.specs.CutState.{AreApart, IsIdState, IsOwned, changed, known_at, known_of, with_joined_entry}
use Rattle.tcap_dialogues.specs.CutUpdate.{AreNoted, own_known}
use Rattle.tcap_dialogues.specs.declared.known_ids.Change.TheVariants as changes
use Rattle.tcap_dialogues.specs.declared.known_ids.Ids.{Ids}
use Rattle.tcap_dialogues.specs.declared.known_ids.IdState.{IdState}
use Rattle.tcap_dialogues.proofs.CourseJoins.{hit_by}
use Rattle.tcap_dialogues.proofs.Joins.{Hit, hit_in, id_comes, id_from, id_stays, in_hit}
use Rattle.tcap_dialogues.proofs.CutIds.{one_from}
use Rattle.tcap_dialogues.proofs.CutLists.{finds, found, left_in}
use Rattle.tcap_dialogues.proofs.EntryLaws.{any_part}
use Rattle.tcap_dialogues.proofs.HeldLists.{any_none, any_only, or_none}
use Rattle.tcap_dialogues.proofs.JoiningLaws.{Old, cases, ends_apart, known_here, made, name_new, name_old, names_then, new, new_later, old_later}

module _ (s : Courses) (names : Course → ℕ) (sent : IdOf → Bool) (n : ℕ) (h : Heading) (apart : AreApart s.live)
    (later : AreApart (joined_by n h s.done s.live).live)
    (below : (d : Course) (i : ℕ) → Contains s.live d → has_entry d i ≡ true → i < n)
    (k : ℕ) (old mid now : Ids) (are : (id : IdOf) → IsIdState s names sent id (known_at old id)) where
  abbrev live : List Course
  live = s.live

  abbrev earlier : Earlier
  earlier = earlier_in s.done

  -- the dialogues joined, and the new one
  abbrev hits : List Course
  hits = hit_by h live

  abbrev it : Course
  it = new live names earlier n h apart later below

  abbrev is_made : Rattle.tcap_dialogues.proofs.CourseJoins.IsNew earlier.ids n h live it
  is_made = made live names earlier n h apart later below

  abbrev names_now : Course → ℕ
  names_now = names_then live names earlier n h apart later below k

  -- The dialogue that has an ID of the new one is one of those joined.
  owner_hit : (d : Course) (id : IdOf) → Contains live d → is_among d.ids id ≡ true → is_among it.ids id ≡ true → Contains hits d
  owner_hit d id listed its has = by (id_from is_made.joins id has)
    where
      by : ((e : Course) × Hit is_made.joins e × (is_among e.ids id ≡ true)) ⊎ (is_among (ids_in h) id ≡ true) → Contains hits d
      by (inl (e, hit, so)) =
          subst (Contains hits) (apart.one_id e d id hit.listed listed so its) (hit_in is_made.joins e hit)
      by (inr here) = left_in (λ e. share_id (ids_in h) e.ids) live d listed (one_from (ids_in h) d.ids id here its)

  in_live : (d : Course) → Contains hits d → Contains live d
  in_live d has = (in_hit is_made.joins d has).listed

  -- What is known is whether one of them used or began the ID.
  flag : (part : Course → List IdOf) (known : Bool) (id : IdOf) → is_among it.ids id ≡ true
      → ((d : Course) → Contains live d → is_among (part d) id ≡ true → is_among d.ids id ≡ true)
      → ((d : Course) → Contains live d → is_among d.ids id ≡ true → known ≡ is_among (part d) id)
      → (((d : Course) → Contains live d → is_among d.ids id ≡ false) → known ≡ false)
      → list_any (λ d. is_among (part d) id) hits ≡ known
  flag part known id has part_in owned nobody = by (cases_Bool (list_any (λ d. is_among d.ids id) live))
    where
      by : (list_any (λ d. is_among d.ids id) live ≡ true) ⊎ (list_any (λ d. is_among d.ids id) live ≡ false)
          → list_any (λ d. is_among (part d) id) hits ≡ known
      by (inl some) =
          let (d, listed, its) = found (λ x. is_among x.ids id) live some in
          any_only (λ x. is_among (part x) id) hits d (owner_hit d id listed its has)
          (λ e there so. apart.one_id e d id (in_live e there) listed (part_in e (in_live e there) so) its)
          ∙ sym (owned d listed its)
      by (inr none) =
          let no : (d : Course) → Contains live d → is_among d.ids id ≡ false =
          λ d listed. false_from_ne_true _ (λ its. true≢false (sym (finds (λ x. is_among x.ids id) live d listed its) ∙ none)) in
          any_none (λ x. is_among (part x) id) hits
          (λ e there. false_from_ne_true _ (λ so. true≢false (sym (part_in e (in_live e there) so) ∙ no e (in_live e there))))
          ∙ sym (nobody no)

  -- what is known of an ID that a dialogue has, or none
  owned_used : (id : IdOf) (d : Course) → Contains live d → is_among d.ids id ≡ true
      → ((known_at old id).used ≡ is_among d.used id) × ((known_at old id).begun ≡ is_among d.begun id)
  owned_used id d listed its = by (known_at old id).dialogue (are id).owned
    where
      by : (o : Option ℕ) → IsOwned live names id o (known_at old id).used (known_at old id).begun
          → ((known_at old id).used ≡ is_among d.used id) × ((known_at old id).begun ≡ is_among d.begun id)
      by None (nobody, unused, unbegun) = absurd (true≢false (sym its ∙ nobody d listed))
      by (Some m) (e, there, hers, named, used, begun) =
          let same : e ≡ d = apart.one_id e d id there listed hers its in
          (used ∙ ap (λ x. is_among x.used id) same, begun ∙ ap (λ x. is_among x.begun id) same)

  nobody_used : (id : IdOf) → ((d : Course) → Contains live d → is_among d.ids id ≡ false)
      → ((known_at old id).used ≡ false) × ((known_at old id).begun ≡ false)
  nobody_used id none = by (known_at old id).dialogue (are id).owned
    where
      by : (o : Option ℕ) → IsOwned live names id o (known_at old id).used (known_at old id).begun
          → ((known_at old id).used ≡ false) × ((known_at old id).begun ≡ false)
      by None (nobody, unused, unbegun) = (unused, unbegun)
      by (Some m) (e, there, hers, named, used, begun) = absurd (true≢false (sym hers ∙ none e there))

  used_is : (id : IdOf) → is_among it.ids id ≡ true
      → is_among it.used id ≡ ((known_at old id).used || is_among (own_ids h) id)
  used_is id has =
      any_part (is_same id) (λ d. d.used) hits (own_ids h)
      ∙ ap (λ b. b || is_among (own_ids h) id)
      (flag (λ d. d.used) (known_at old id).used id has (λ d listed so. apart.used_in d id listed so)
      (λ d listed its. (owned_used id d listed its).0) (λ none. (nobody_used id none).0))

  begun_is : (id : IdOf) → is_among it.ids id ≡ true
      → is_among it.begun id ≡ ((known_at old id).begun || (is_begin h.kind && is_among (own_ids h) id))
  begun_is id has =
      any_part (is_same id) (λ d. d.begun) hits (begun_by h)
      ∙ ap (λ b. b || is_among (begun_by h) id)
      (flag (λ d. d.begun) (known_at old id).begun id has (λ d listed so. apart.begun_in d id listed so)
      (λ d listed its. (owned_used id d listed its).1) (λ none. (nobody_used id none).1))
      ∙ ap (λ b. (known_at old id).begun || b) (by (is_begin h.kind))
    where
      by : (b : Bool) → is_among (cond b (own_ids h) []) id ≡ (b && is_among (own_ids h) id)
      by true = refl
      by false = refl

  abbrev Then : IdOf → IdState → Type 0
  Then id known = IsIdState (joined_by n h s.done s.live) names_now (λ x. sent x || is_among (own_ids h) x) id known

  -- An ID of the new dialogue is known as such.
  of_new : (id : IdOf) (used begun came : Bool) → is_among it.ids id ≡ true
      → used ≡ ((known_at old id).used || is_among (own_ids h) id)
      → begun ≡ ((known_at old id).begun || (is_begin h.kind && is_among (own_ids h) id))
      → came ≡ (sent id || is_among (own_ids h) id)
      → Then id (record {
        dialogue = Some k;
        used = used;
        begun = begun;
        last = (known_at old id).last;
        firm = (known_at old id).firm;
        sent = came;
      })
  of_new id used begun came has is_used is_begun is_sent = record {
    owned = (
      it,
      new_later live names earlier n h apart later below,
      has,
      name_new live names earlier n h apart later below k,
      is_used ∙ sym (used_is id has),
      is_begun ∙ sym (begun_is id has),
    );
    came = (are id).came;
    firm_is = (are id).firm_is;
    sent_is = is_sent;
  }

  -- The sender of the entry sent nothing from another ID.
  not_sent : (id : IdOf) → is_among (own_ids h) id ≡ false → (known_at old id).sent ≡ (sent id || is_among (own_ids h) id)
  not_sent id not_own = (are id).sent_is ∙ sym (ap (λ b. sent id || b) not_own ∙ or_none (sent id))

  -- What is known of other IDs stays.
  of_old : (id : IdOf) → is_among it.ids id ≡ false → is_among (own_ids h) id ≡ false → Then id (known_at old id)
  of_old id none not_own = record {
    owned = by (known_at old id).dialogue _ _ (are id).owned;
    came = (are id).came;
    firm_is = (are id).firm_is;
    sent_is = not_sent id not_own;
  }
    where
      by : (o : Option ℕ) (used begun : Bool) → IsOwned live names id o used begun
          → IsOwned (with_joined_entry earlier n h live) names_now id o used begun
      by None used begun (nobody, unused, unbegun) = (
        λ d has. nobody_then d (cases live names earlier n h apart later below d has),
        unused,
        unbegun,
      )
        where
          nobody_then : (d : Course) → Old live names earlier n h apart later below d ⊎ (it ≡ d) → is_among d.ids id ≡ false
          nobody_then d (inl o) = nobody d o.0
          nobody_then d (inr same) = ap (λ x. is_among x.ids id) (sym same) ∙ none
      by (Some m) used begun (d, listed, its, named, used_so, begun_so) =
          let o : Old live names earlier n h apart later below d = (
            listed,
            false_from_ne_true _
                (λ hit. true≢false (sym (id_stays is_made.joins d id (record { listed = listed; hit = hit }) its) ∙ none)),
          ) in (
            d,
            old_later live names earlier n h apart later below d o,
            its,
            name_old live names earlier n h apart later below k d o ∙ named,
            used_so,
            begun_so,
          )

  module _ (own peer : IdState) (own_is : own ≡ known_of old h.sender h.otid) (peer_is : peer ≡ known_of old (other h.sender) h.dtid)
      (joined : (id : IdOf) → known_at mid id
      ≡ cond (list_any (λ d. is_among d.ids id) hits) (changed (changes.JoinTo k) (known_at old id)) (known_at old id))
      (noted : AreNoted h k own peer mid now) where
    here : (id : IdOf) → is_among (ids_in h) id ≡ (is_among (own_ids h) id || is_among (peer_ids h) id)
    here id = list_any-append (is_same id) (own_ids h) (peer_ids h)

    pub ids_then : (id : IdOf) → Then id (known_at now id)
    ids_then id =
        subst (Then id) (sym (noted id)) (by (is_among (peer_ids h) id) (is_among (own_ids h) id) refl refl)
      where
        old_flags : (a b : Bool) → b ≡ false → a ≡ (a || (is_begin h.kind && b))
        old_flags a b none = sym (ap (λ x. a || (is_begin h.kind && x)) none ∙ ap (λ x. a || x) (and-false (is_begin h.kind)) ∙ or_none a)

        stays : is_among it.ids id ≡ true → is_among (own_ids h) id ≡ false → Then id (changed (changes.JoinTo k) (known_at old id))
        stays has not_own =
            of_new id (known_at old id).used (known_at old id).begun (known_at old id).sent has
            (sym (ap (λ x. (known_at old id).used || x) not_own ∙ or_none (known_at old id).used))
            (old_flags (known_at old id).begun (is_among (own_ids h) id) not_own) (not_sent id not_own)

        left : (c : Bool) → list_any (λ d. is_among d.ids id) hits ≡ c → is_among (peer_ids h) id ≡ false → is_among (own_ids h) id ≡ false
            → Then id (cond c (changed (changes.JoinTo k) (known_at old id)) (known_at old id))
        left true is not_peer not_own =
            let (d, has, its) = found (λ x. is_among x.ids id) hits is in
            stays (id_stays is_made.joins d id (in_hit is_made.joins d has) its) not_own
        left false is not_peer not_own =
            of_old id (any_part (is_same id) (λ d. d.ids) hits (ids_in h) ∙ ap (λ b. b || is_among (ids_in h) id) is
            ∙ here id ∙ ap (λ b. b || is_among (peer_ids h) id) not_own ∙ not_peer) not_own

        by : (a b : Bool) → is_among (peer_ids h) id ≡ a → is_among (own_ids h) id ≡ b
            → Then id (cond a (changed (changes.JoinTo k) peer) (cond b (own_known h k own) (known_at mid id)))
        by true b is so =
            subst (λ known. Then id (changed (changes.JoinTo k) known)) (sym (peer_is ∙ known_here old (other h.sender) h.dtid id is))
            (stays (id_comes is_made.joins id (here id ∙ or_right _ _ is))
            (false_from_ne_true _ (λ own_too. ends_apart h id own_too is)))
        by false true is so =
            subst (λ known. Then id (own_known h k known)) (sym (own_is ∙ known_here old h.sender h.otid id so))
            (of_new id true ((known_at old id).begun || is_begin h.kind) true
            (id_comes is_made.joins id (here id ∙ or_left _ _ so))
            (sym (or_right (known_at old id).used _ so))
            (ap (λ b. (known_at old id).begun || b) (sym (ap (λ x. is_begin h.kind && x) so ∙ and-true (is_begin h.kind))))
            (sym (or_right (sent id) _ so)))
        by false false is so = subst (Then id) (sym (joined id)) (left (list_any (λ d. is_among d.ids id) hits) refl is so)
