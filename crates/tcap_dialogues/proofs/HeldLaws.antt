-- Live dialogues by name, and those that are over by number: looked up, and taken out.
use Rattle.std.proofs.Common.{arith, ◌≡◌, ◌⊎◌, inl, inr, ℕ, ◌+◌, ◌<◌, true, false, cond, List, [], ◌∷◌, Option, Some, None, refl, sym, ap, subst, ◌∙◌}
use Rattle.std.specs.Prelude.{◌==◌, not, Contains}
use Rattle.std.specs.BTreeMap as tree
use Rattle.std.specs.BTreeMap.{BTreeMap, is_at}
use Rattle.std.specs.Cmp.{unsigned_tied}
use Rattle.std.specs.List.{list_any}
use Rattle.std.specs.Map.{lookup}
use Rattle.std.specs.Ordering.{nat_cmp}
use Rattle.std.proofs.lemmas.Bool.{cases_Bool, eq-eqb, eqb-true, false_from_ne_true, lt-ltb, ltb-true, true≢false}
use Rattle.tcap_record.specs.declared.entry.End.{End as Side}
use Rattle.tcap_model.specs.World.{is_side}
use Rattle.tcap_dialogues.specs.Course.{Course, has_begin, has_entry, is_past}
use Rattle.tcap_dialogues.specs.DialoguesOfList.{IdOf}
use Rattle.tcap_dialogues.specs.CutState.{AreApart, HasValuesOf, HoldsLive, HoldsOver, AreTakenOut, IsCutState, IsIdState, IsJoinedLive, IsTakenOut, Lingers, has_sent, is_named, known_at, nothing, without_name, with_name}
use Rattle.tcap_dialogues.specs.CutUpdate.{is_over_at}
use Rattle.tcap_dialogues.specs.declared.cut.Cut.{Cut}
use Rattle.tcap_dialogues.specs.declared.live.LiveDialogue.{LiveDialogue}
use Rattle.tcap_dialogues.specs.declared.reuse.Reuse.TheVariants as reuses
use Rattle.tcap_dialogues.proofs.CutLists.{finds, first_in, in_cases, kept_in, left_in, none_in}
use Rattle.tcap_dialogues.proofs.HeldLists.{AreSame, any_same, both_so, or_none}
use Rattle.tcap_dialogues.proofs.HeldOvers.{lower_none, over_same}

-- ---- numbers as keys

pub at_number : (a b : ℕ) → is_at (nat_cmp a) b ≡ (a == b)
at_number a b = unsigned_tied a b

-- ---- the same dialogues in another order

pub same_kept : (ds es : List Course) (l : LiveDialogue) → AreSame ds es → HasValuesOf ds l → HasValuesOf es l
same_kept ds es l same kept = record {
  numbers = λ n. kept.numbers n ∙ any_same (λ d. has_entry d n) ds es same;
  ids = λ id. kept.ids id ∙ any_same (λ d. Rattle.tcap_dialogues.specs.DialoguesOfList.is_among d.ids id) ds es same;
  senders = λ side. kept.senders side ∙ any_same (λ d. list_any (is_side side) d.senders) ds es same;
  begun = kept.begun ∙ any_same has_begin ds es same;
  over = kept.over ∙ over_same ds es same;
  early = kept.early ∙ any_same (λ d. d.early) ds es same;
  again = kept.again ∙ any_same (λ d. d.again) ds es same;
  unsettled = kept.unsettled ∙ any_same (λ d. d.unsettled) ds es same;
}

-- ---- a dialogue by its name

module _ (live : List Course) (names : Course → ℕ) (lives : BTreeMap ℕ LiveDialogue) (are : HoldsLive live names lives) where
  -- The values found under a name are those of the dialogue.
  pub found_live : (d : Course) (number : ℕ) (l : LiveDialogue) → Contains live d → names d ≡ number → Some l ≡ tree.get nat_cmp lives number
      → (l.name ≡ number) × HasValuesOf (d ∷ []) l
  found_live d number l has named there =
      let (kept, at, name, is) = are.there d has in
      let one : Some l ≡ Some kept = there ∙ ap (tree.get nat_cmp lives) (sym named) ∙ at in
      let same : kept ≡ l = cc in
      (ap (λ x. x.name) (sym same) ∙ name ∙ named, subst (HasValuesOf (d ∷ [])) same is)

  -- There are such values.
  pub found_some : (d : Course) (number : ℕ) → Contains live d → names d ≡ number → None ≡ tree.get nat_cmp lives number → ⊥
  found_some d number has named there =
      let (kept, at, name, is) = are.there d has in
      let bad : None ≡ Some kept = there ∙ ap (tree.get nat_cmp lives) (sym named) ∙ at in cc

  -- Two dialogues with one name are equal.
  pub one_name : AreApart live → (d e : Course) → Contains live d → Contains live e → names d ≡ names e → d ≡ e
  one_name apart d e has hers same =
      apart.one_number d e (names d) has hers (are.entry d has) (ap (has_entry e) same ∙ are.entry e hers)

pub over_one : (d : Course) (l : LiveDialogue) → HasValuesOf (d ∷ []) l → l.over ≡ d.over
over_one d l kept = kept.over ∙ lower_none d.over

pub begun_one : (d : Course) (l : LiveDialogue) → HasValuesOf (d ∷ []) l → l.begun ≡ has_begin d
begun_one d l kept = kept.begun ∙ or_none (has_begin d)

pub senders_one : (d : Course) (l : LiveDialogue) (side : Side) → HasValuesOf (d ∷ []) l → has_sent l side ≡ list_any (is_side side) d.senders
senders_one d l side kept = kept.senders side ∙ or_none (list_any (is_side side) d.senders)

-- ---- a dialogue that has been over for so long

module _ (live : List Course) (names : Course → ℕ) (lives : BTreeMap ℕ LiveDialogue) (overs : BTreeMap ℕ ℕ) (apart : AreApart live)
    (are : HoldsLive live names lives) (ends : HoldsOver live names overs) (linger n number : ℕ) (at : (number + linger) + 1 ≡ n)
    (lasts : (d : Course) → Contains live d → Lingers (reuses.Again linger) n d.over) where
  -- It is over with this number.
  past_at : (d : Course) → Contains live d → is_past linger n d.over ≡ true → d.over ≡ Some number
  past_at d has past = by d.over (lasts d has) past
    where
      by : (over : Option ℕ) → Lingers (reuses.Again linger) n over → is_past linger n over ≡ true → over ≡ Some number
      by None less is = cc
      by (Some k) less is =
          let more = ltb-true (k + linger) n is in
          let same : k ≡ number = omega (arith, at, less, more) in ap (λ x. Some x) same

  -- If no dialogue is over with this number, none is past.
  pub none_past : None ≡ tree.get nat_cmp overs number → (d : Course) → Contains live d → is_past linger n d.over ≡ false
  none_past none d has =
      false_from_ne_true _
      (λ past. let bad : None ≡ Some (names d) = none ∙ ends.there d number has (past_at d has past) in cc)

  -- If one is, it is past.
  pub one_past : (found : ℕ) → Some found ≡ tree.get nat_cmp overs number → (d : Course) → Contains live d
      → is_past linger n d.over ≡ (names d == found)
  one_past found is d has = both_so _ _ there back
    where
      there : is_past linger n d.over ≡ true → (names d == found) ≡ true
      there past =
          let one : Some found ≡ Some (names d) = is ∙ ends.there d number has (past_at d has past) in
          let same : names d ≡ found = cc in eq-eqb (names d) found same

      back : (names d == found) ≡ true → is_past linger n d.over ≡ true
      back named =
          let (e, hers, over, name) = ends.back number found (sym is) in
          let same : d ≡ e = one_name live names lives are apart d e has hers (eqb-true (names d) found named ∙ sym name) in
          let less : number + linger < n = omega (arith, at) in
          ap (λ x. is_past linger n x.over) same ∙ ap (is_past linger n) over ∙ lt-ltb (number + linger) n less

-- ---- a dialogue is taken out

module _ (live : List Course) (names : Course → ℕ) (lives : BTreeMap ℕ LiveDialogue) (overs : BTreeMap ℕ ℕ) (apart : AreApart live)
    (are : HoldsLive live names lives) (ends : HoldsOver live names overs) where
  -- If none has this name, the others are all.
  module _ (number : Option ℕ) (none : (d : Course) → Contains live d → is_named names number d ≡ false) where
    other_all : (d : Course) → Contains live d → Contains (without_name names number live) d
    other_all d has = left_in (λ e. not (is_named names number e)) live d has (ap not (none d has))

    other_of : (d : Course) → Contains (without_name names number live) d → Contains live d
    other_of d has = (kept_in (λ e. not (is_named names number e)) live d has).0

    pub all_lives : HoldsLive (without_name names number live) names lives
    all_lives = record {
      there = λ d has. are.there d (other_of d has);
      back = λ k l at. let (d, has, name) = are.back k l at in (d, other_all d has, name);
      entry = λ d has. are.entry d (other_of d has);
    }

    pub all_overs : HoldsOver (without_name names number live) names overs
    all_overs = record {
      there = λ d k has over. ends.there d k (other_of d has) over;
      back = λ k found at. let (d, has, over, name) = ends.back k found at in (d, other_all d has, over, name);
    }

    pub none_those : (d : Course) → Contains (with_name names number live) d → ⊥
    none_those d has = let (there, so) = kept_in (is_named names number) live d has in true≢false (sym so ∙ none d there)

  -- Nothing is found then.
  pub no_name : (number : ℕ) → None ≡ tree.get nat_cmp lives number → (d : Course) → Contains live d → is_named names (Some number) d ≡ false
  no_name number none d has =
      false_from_ne_true _ (λ is. found_some live names lives are d number has (eqb-true (names d) number is) none)

  -- Otherwise this dialogue is taken out.
  module _ (number : ℕ) (d : Course) (has : Contains live d) (named : names d ≡ number) where
    is_other : (e : Course) → Contains (without_name names (Some number) live) e → Contains live e × (names e ≡ number → ⊥)
    is_other e there =
        let (listed, so) = kept_in (λ x. not (is_named names (Some number) x)) live e there in
        (listed, λ same. true≢false (sym so ∙ ap not (eq-eqb (names e) number same)))

    other : (e : Course) → Contains live e → (names e ≡ number → ⊥) → Contains (without_name names (Some number) live) e
    other e listed differs =
        left_in (λ x. not (is_named names (Some number) x)) live e listed
        (ap not (false_from_ne_true _ (λ is. differs (eqb-true (names e) number is))))

    -- another number
    differs_at : (k : ℕ) → (k ≡ number → ⊥) → is_at (nat_cmp number) k ≡ false
    differs_at k differs = false_from_ne_true _ (λ is. differs (sym (eqb-true number k (sym (at_number number k) ∙ is))))

    pub others_lives : (new : BTreeMap ℕ LiveDialogue)
        → ((k : ℕ) → tree.get nat_cmp new k ≡ cond (is_at (nat_cmp number) k) None (tree.get nat_cmp lives k))
        → HoldsLive (without_name names (Some number) live) names new
    others_lives new removed = record {
      there = λ e there.
          let (listed, differs) = is_other e there in
          let (l, at, name, kept) = are.there e listed in (
            l,
            removed (names e) ∙ ap (λ b. cond b None (tree.get nat_cmp lives (names e))) (differs_at (names e) differs) ∙ at,
            name,
            kept,
          );
      back = λ k l at. by k l (cases_Bool (is_at (nat_cmp number) k)) at;
      entry = λ e there. are.entry e (is_other e there).0;
    }
      where
        by : (k : ℕ) (l : LiveDialogue) → (is_at (nat_cmp number) k ≡ true) ⊎ (is_at (nat_cmp number) k ≡ false) → tree.get nat_cmp new k ≡ Some l
            → (e : Course) × Contains (without_name names (Some number) live) e × (names e ≡ k)
        by k l (inl is) at =
            let bad : None ≡ Some l = sym (removed k ∙ ap (λ b. cond b None (tree.get nat_cmp lives k)) is) ∙ at in cc
        by k l (inr is) at =
            let old : tree.get nat_cmp lives k ≡ Some l = sym (removed k ∙ ap (λ b. cond b None (tree.get nat_cmp lives k)) is) ∙ at in
            let (e, listed, name) = are.back k l old in (
              e,
              other e listed (λ same. true≢false (sym (at_number number k ∙ eq-eqb number k (sym same ∙ name)) ∙ is)),
              name,
            )

    -- No other dialogue is over with its number.
    one_over : (e : Course) (k : ℕ) → Contains live e → d.over ≡ Some k → e.over ≡ Some k → names e ≡ number
    one_over e k listed over hers =
        let same = apart.one_number d e k has listed (apart.over_in d k has over) (apart.over_in e k listed hers) in
        ap names (sym same) ∙ named

    pub others_overs : (new : BTreeMap ℕ ℕ)
        → ((k : ℕ) → tree.get nat_cmp new k ≡ cond (is_over_at d.over k) None (tree.get nat_cmp overs k))
        → HoldsOver (without_name names (Some number) live) names new
    others_overs new removed = record {
      there = λ e k there over.
          let (listed, differs) = is_other e there in
          removed k
          ∙ ap (λ b. cond b None (tree.get nat_cmp overs k))
          (false_from_ne_true _ (λ is. differs (one_over e k listed (over_at d.over k is) over)))
          ∙ ends.there e k listed over;
      back = λ k found at. by k found (cases_Bool (is_over_at d.over k)) at;
    }
      where
        over_at : (over : Option ℕ) (k : ℕ) → is_over_at over k ≡ true → over ≡ Some k
        over_at None k is = cc
        over_at (Some x) k is = ap (λ y. Some y) (eqb-true x k is)

        is_it : (over : Option ℕ) (k : ℕ) → over ≡ Some k → is_over_at over k ≡ true
        is_it None k is = cc
        is_it (Some x) k is = let same : x ≡ k = cc in eq-eqb x k same

        by : (k found : ℕ) → (is_over_at d.over k ≡ true) ⊎ (is_over_at d.over k ≡ false) → tree.get nat_cmp new k ≡ Some found
            → (e : Course) × Contains (without_name names (Some number) live) e × (e.over ≡ Some k) × (names e ≡ found)
        by k found (inl is) at =
            let bad : None ≡ Some found = sym (removed k ∙ ap (λ b. cond b None (tree.get nat_cmp overs k)) is) ∙ at in cc
        by k found (inr is) at =
            let old : tree.get nat_cmp overs k ≡ Some found = sym (removed k ∙ ap (λ b. cond b None (tree.get nat_cmp overs k)) is) ∙ at in
            let (e, listed, over, name) = ends.back k found old in (
              e,
              other e listed
                  (λ same. true≢false (sym (is_it d.over k
                  (ap (λ x. x.over) (one_name live names lives are apart d e has listed (named ∙ sym same)) ∙ over)) ∙ is)),
              over,
              name,
            )

    -- It is the only one with this name.
    pub those_one : AreSame (d ∷ []) (with_name names (Some number) live)
    those_one = record {
      there = λ e there. by e (in_cases d e [] there);
      back = λ e there.
          let (listed, so) = kept_in (is_named names (Some number)) live e there in
          subst (Contains (d ∷ []))
          (one_name live names lives are apart d e has listed (named ∙ sym (eqb-true (names e) number so))) (first_in d []);
    }
      where
        by : (e : Course) → (d ≡ e) ⊎ Contains [] e → Contains (with_name names (Some number) live) e
        by e (inl same) =
            subst (Contains (with_name names (Some number) live)) same
            (left_in (is_named names (Some number)) live d has (eq-eqb (names d) number named))
        by e (inr bad) = absurd (none_in e bad)

    pub those_taken : (l : LiveDialogue) → (l.name ≡ number) × HasValuesOf (d ∷ []) l → AreTakenOut (with_name names (Some number) live) names (Some l)
    those_taken l (name, kept) = (
      same_kept (d ∷ []) (with_name names (Some number) live) l those_one kept,
      λ e there.
          let (listed, so) = kept_in (is_named names (Some number)) live e there in eqb-true (names e) number so ∙ sym name,
      finds (λ e. has_entry e l.name) (with_name names (Some number) live) d (those_one.there d (first_in d []))
          (ap (has_entry d) (name ∙ sym named) ∙ are.entry d has),
    )

-- ---- the code

-- The number is removed if the dialogue is over.
pub number_out : (l : LiveDialogue) (number : ℕ) (old new : BTreeMap ℕ ℕ) → l.over ≡ Some number
    → ((k : ℕ) → tree.get nat_cmp new k ≡ cond (is_at (nat_cmp number) k) None (tree.get nat_cmp old k)) → (k : ℕ)
    → tree.get nat_cmp new k ≡ cond (is_over_at l.over k) None (tree.get nat_cmp old k)
number_out l number old new over removed k =
    removed k ∙ ap (λ b. cond b None (tree.get nat_cmp old k)) (at_number number k ∙ ap (λ o. is_over_at o k) (sym over))

pub no_number_out : (l : LiveDialogue) (old : BTreeMap ℕ ℕ) → l.over ≡ None → (k : ℕ)
    → tree.get nat_cmp old k ≡ cond (is_over_at l.over k) None (tree.get nat_cmp old k)
no_number_out l old over k = ap (λ o. cond (is_over_at o k) None (tree.get nat_cmp old k)) (sym over)

-- Equal maps keep the same dialogues.
lives_same : (ds : List Course) (names : Course → ℕ) (old new : BTreeMap ℕ LiveDialogue) → new.entries ≡ old.entries → HoldsLive ds names old
    → HoldsLive ds names new
lives_same ds names old new same are = record {
  there = λ d has.
      let (l, at, name, kept) = are.there d has in
      (l, ap (lookup (is_at (nat_cmp (names d)))) same ∙ at, name, kept);
  back = λ k l at. are.back k l (ap (lookup (is_at (nat_cmp k))) (sym same) ∙ at);
  entry = are.entry;
}

overs_same : (ds : List Course) (names : Course → ℕ) (old new : BTreeMap ℕ ℕ) → new.entries ≡ old.entries → HoldsOver ds names old
    → HoldsOver ds names new
overs_same ds names old new same are = record {
  there = λ d k has over. ap (lookup (is_at (nat_cmp k))) same ∙ are.there d k has over;
  back = λ k found at. are.back k found (ap (lookup (is_at (nat_cmp k))) (sym same) ∙ at);
}

-- The empty cut keeps no dialogues.
pub nothing_held : (names : Course → ℕ) (kept : Cut) → kept.live.entries ≡ [] → kept.overs.entries ≡ []
    → ((id : IdOf) → known_at kept.ids id ≡ nothing) → IsCutState (record { done = []; live = [] }) names (λ id. false) kept
nothing_held names kept no_live no_overs no_ids = record {
  lives = record {
    there = λ d has. absurd (none_in d has);
    back = λ k l at. let bad : None ≡ Some l = sym (ap (lookup (is_at (nat_cmp k))) no_live) ∙ at in cc;
    entry = λ d has. absurd (none_in d has);
  };
  overs = record {
    there = λ d k has over. absurd (none_in d has);
    back = λ k found at. let bad : None ≡ Some found = sym (ap (lookup (is_at (nat_cmp k))) no_overs) ∙ at in cc;
  };
  ids = λ id. subst (IsIdState (record { done = []; live = [] }) names (λ x. false) id) (sym (no_ids id))
      (record { owned = (λ d has. absurd (none_in d has), refl, refl); came = refl; firm_is = refl; sent_is = refl });
}

-- An empty dialogue keeps none.
pub none_in_one : (n : ℕ) (ds : List Course) (names : Course → ℕ) (l : LiveDialogue) → ((d : Course) → Contains ds d → ⊥) → HasValuesOf [] l
    → l.name ≡ n → IsJoinedLive n ds names l
none_in_one n ds names l none kept name = record {
  kept = same_kept [] ds l (record { there = λ d has. absurd (none_in d has); back = λ d has. absurd (none d has) }) kept;
  named = λ d has. absurd (none d has);
  entry = inl name;
}

module _ (live : List Course) (names : Course → ℕ) (old new : Cut) (apart : AreApart live) (are : HoldsLive live names old.live)
    (ends : HoldsOver live names old.overs) (rest : new ≡ record old { live = new.live; overs = new.overs }) where
  -- A dialogue was found.
  pub out_one : (number : ℕ) (l : LiveDialogue) → Some l ≡ tree.get nat_cmp old.live number
      → ((k : ℕ) → tree.get nat_cmp new.live k ≡ cond (is_at (nat_cmp number) k) None (tree.get nat_cmp old.live k))
      → ((k : ℕ) → tree.get nat_cmp new.overs k ≡ cond (is_over_at l.over k) None (tree.get nat_cmp old.overs k))
      → IsTakenOut (Some number) live names old new (Some l)
  out_one number l there removed over =
      let (d, has, named) = are.back number l (sym there) in
      let found = found_live live names old.live are d number l has named there in record {
        lives = others_lives live names old.live old.overs apart are ends number d has named new.live removed;
        overs = others_overs live names old.live old.overs apart are ends number d has named new.overs
            (λ k. over k ∙ ap (λ o. cond (is_over_at o k) None (tree.get nat_cmp old.overs k)) (over_one d l found.1));
        out = those_taken live names old.live old.overs apart are ends number d has named l found;
        rest = rest;
      }

  -- None was found.
  pub out_none : (number : Option ℕ) → ((d : Course) → Contains live d → is_named names number d ≡ false)
      → new.live.entries ≡ old.live.entries → new.overs.entries ≡ old.overs.entries → IsTakenOut number live names old new None
  out_none number none same_live same_overs = record {
    lives = lives_same (without_name names number live) names old.live new.live same_live
        (all_lives live names old.live old.overs apart are ends number none);
    overs = overs_same (without_name names number live) names old.overs new.overs same_overs
        (all_overs live names old.live old.overs apart are ends number none);
    out = none_those live names old.live old.overs apart are ends number none;
    rest = rest;
  }
