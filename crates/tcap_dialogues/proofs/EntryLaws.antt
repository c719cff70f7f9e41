-- An entry joins the live dialogues that have one of its IDs: which these are, and the values kept with it.
use Rattle.std.proofs.Common.{arith, ◌≡◌, ℕ, suc, Bool, true, false, cond, List, [], ◌∷◌, ◌++◌, Option, Some, None, is_none, is_some, refl, sym, ap, ◌∙◌}
use Rattle.std.specs.Prelude.{◌==◌, ◌&&◌, ◌||◌, nat_lt, not, Contains, filter, length}
use Rattle.std.specs.List.{flat_map, list_any}
use Rattle.std.proofs.Math.Bool.{and-false}
use Rattle.std.proofs.lemmas.Bool.{eq-eqb, eqb-true, lt-ltb}
use Rattle.std.proofs.lemmas.List.Elements.{filter-append}
use Rattle.std.proofs.lemmas.List.Folds.{list_any-append}
use Rattle.tcap_record.specs.declared.entry.End.{End as Side}
use Rattle.tcap_model.specs.World.{is_side}
use Rattle.tcap_dialogues.specs.Course.{Course, Courses, Earlier, Heading, begun_by, earlier_in, has_begin, has_entry, share_id, ids_in, over_by, own_ids, peer_ids, with_entry}
use Rattle.tcap_dialogues.specs.DialoguesOfList.{IdOf, is_among, is_same}
use Rattle.tcap_dialogues.specs.CutState.{AreApart, HasValuesOf, HoldsLive, earlier_of, higher, is_named, is_unsettled}
use Rattle.tcap_dialogues.specs.CutUpdate.{HasEntry, ids_at}
use Rattle.tcap_dialogues.specs.declared.known_ids.IdState.{IdState}
use Rattle.tcap_dialogues.specs.declared.live.LiveDialogue.{LiveDialogue}
use Rattle.tcap_dialogues.proofs.CourseJoins.{hit_by, ids_more}
use Rattle.tcap_dialogues.proofs.CutLists.{finds}
use Rattle.tcap_dialogues.proofs.HeldLaws.{one_name}
use Rattle.tcap_dialogues.proofs.HeldLists.{any_flat, any_none, both_so, or_none}
use Rattle.tcap_dialogues.proofs.HeldOvers.{lower_none}
use Rattle.tcap_dialogues.proofs.LiveLaws.{either, some_higher}
use Rattle.tcap_dialogues.proofs.OwnerLaws.{IsOf, Owns, done_ids, firm_ids}

-- a test of joined lists and one more
pub any_part : {A : Type 0} (p : A → Bool) (f : Course → List A) (ds : List Course) (more : List A)
    → list_any p (flat_map f ds ++ more) ≡ (list_any (λ d. list_any p (f d)) ds || list_any p more)
any_part p f ds more = list_any-append p (flat_map f ds) more ∙ ap (λ b. b || list_any p more) (any_flat p f ds)

module _ (live : List Course) (names : Course → ℕ) (lives : Rattle.std.specs.BTreeMap.BTreeMap ℕ LiveDialogue) (apart : AreApart live)
    (are : HoldsLive live names lives) where
  -- A dialogue has one of these IDs if it has the name that is known.
  pub owned_is : (ids : List IdOf) (known : IdState) → Owns live names ids known known.dialogue → (d : Course)
      → Contains live d → share_id ids d.ids ≡ is_named names known.dialogue d
  owned_is ids known owns d has = by known.dialogue owns
    where
      by : (o : Option ℕ) → Owns live names ids known o → share_id ids d.ids ≡ is_named names o d
      by None nobody = nobody.0 d has
      by (Some name) (e, owner) =
          both_so _ _
          (λ is. eq-eqb (names d) name (ap names (owner.only d has is) ∙ owner.named))
          (λ is.
          ap (λ x. share_id ids x.ids)
          (one_name live names lives are apart d e has owner.listed (eqb-true (names d) name is ∙ sym owner.named)) ∙ owner.has)

-- ---- reused IDs of the entry

-- a reused ID is unsettled if it is not firm
abbrev pub unsettled_by : Earlier → IdOf → Bool
unsettled_by earlier id = is_among earlier.ids id && not (is_among earlier.firm id)

module _ (live hits : List Course) (names : Course → ℕ) (end : Side) (octets : Option (List ℕ)) (known : IdState)
    (owns : Owns live names (ids_at end octets) known known.dialogue)
    (in_live : (d : Course) → Contains hits d → Contains live d)
    (in_hits : (d : Course) → Contains live d → share_id (ids_at end octets) d.ids ≡ true → Contains hits d) where
  abbrev news : IdOf → Bool
  news id = not (list_any (λ d. is_among d.ids id) hits)

  -- The test passes for an ID that no live dialogue has.
  pub again_is : (test : IdOf → Bool) (so : Bool) → so ≡ list_any test (ids_at end octets)
      → list_any test (filter news (ids_at end octets)) ≡ (is_none known.dialogue && so)
  again_is test so is = by octets is owns in_hits
    where
      at : (id : IdOf) (o : Option ℕ) → Owns live names (id ∷ []) known o
          → ((d : Course) → Contains live d → share_id (id ∷ []) d.ids ≡ true → Contains hits d) → news id ≡ is_none o
      at id None nobody inside =
          ap not (any_none (λ d. is_among d.ids id) hits (λ d has. sym (or_none (is_among d.ids id)) ∙ nobody.0 d (in_live d has)))
      at id (Some name) (d, owner) inside =
          ap not (finds (λ x. is_among x.ids id) hits d (inside d owner.listed owner.has) (sym (or_none (is_among d.ids id)) ∙ owner.has))

      one : (id : IdOf) (b : Bool) → list_any test (cond b (id ∷ []) []) ≡ (b && (test id || false))
      one id true = refl
      one id false = refl

      by : (o : Option (List ℕ)) → so ≡ list_any test (ids_at end o) → Owns live names (ids_at end o) known known.dialogue
          → ((d : Course) → Contains live d → share_id (ids_at end o) d.ids ≡ true → Contains hits d)
          → list_any test (filter news (ids_at end o)) ≡ (is_none known.dialogue && so)
      by None agrees owned inside = sym (and-false (is_none known.dialogue)) ∙ ap (λ b. is_none known.dialogue && b) (sym agrees)
      by (Some x) agrees owned inside =
          let id : IdOf = record { end = end; octets = x } in
          one id (news id) ∙ ap (λ b. b && (test id || false)) (at id known.dialogue owned inside)
          ∙ ap (λ b. is_none known.dialogue && b) (sym agrees)

-- What is known of an ID decides whether it is unsettled.
pub unsettled_at : (s : Courses) (names : Course → ℕ) (end : Side) (octets : Option (List ℕ)) (known : IdState)
    → IsOf s names (ids_at end octets) known
    → (is_some known.last && not known.firm) ≡ list_any (unsettled_by (earlier_in s.done)) (ids_at end octets)
unsettled_at s names end None known of = ap (λ b. b && not known.firm) of.came
unsettled_at s names end (Some x) known of =
    let id : IdOf = record { end = end; octets = x } in
    ap (λ b. b && not known.firm) (of.came ∙ or_none (is_among (done_ids s) id))
    ∙ ap (λ b. is_among (done_ids s) id && not b) (of.firm_is ∙ or_none (is_among (firm_ids s) id)) ∙ sym (or_none _)

pub again_both : (h : Heading) (hits : List Course) (test : IdOf → Bool) (a b : Bool)
    → list_any test (filter (λ id. not (list_any (λ d. is_among d.ids id) hits)) (own_ids h)) ≡ a
    → list_any test (filter (λ id. not (list_any (λ d. is_among d.ids id) hits)) (peer_ids h)) ≡ b
    → list_any test (filter (λ id. not (list_any (λ d. is_among d.ids id) hits)) (ids_in h)) ≡ (a || b)
again_both h hits test a b first second =
    ap (λ ids. list_any test ids) (filter-append _ (own_ids h) (peer_ids h))
    ∙ list_any-append test (filter _ (own_ids h)) (filter _ (peer_ids h)) ∙ either _ _ a b first second

-- ---- the values kept with the entry

-- A joined list is non-empty if one of both is.
some_more : {X : Type 0} (xs ys : List X) → nat_lt 0 (length (xs ++ ys)) ≡ (nat_lt 0 (length xs) || nat_lt 0 (length ys))
some_more [] ys = refl
some_more (x ∷ xs) ys = is_more (length (xs ++ ys)) ∙ sym (ap (λ b. b || nat_lt 0 (length ys)) (is_more (length xs)))
  where
    is_more : (n : ℕ) → nat_lt 0 (suc n) ≡ true
    is_more n = lt-ltb 0 (suc n) (omega arith)

some_begun : (ds : List Course) (more : List IdOf)
    → nat_lt 0 (length (flat_map (λ d. d.begun) ds ++ more)) ≡ (list_any has_begin ds || nat_lt 0 (length more))
some_begun ds more = some_more (flat_map (λ d. d.begun) ds) more ∙ ap (λ b. b || nat_lt 0 (length more)) (by ds)
  where
    by : (es : List Course) → nat_lt 0 (length (flat_map (λ d. d.begun) es)) ≡ list_any has_begin es
    by [] = refl
    by (e ∷ es) = some_more e.begun (flat_map (λ d. d.begun) es) ∙ ap (λ b. has_begin e || b) (by es)

pub entry_kept : (earlier : Earlier) (n : ℕ) (h : Heading) (live : List Course) (own peer : IdState) (old new : LiveDialogue)
    → HasValuesOf (hit_by h live) old → HasEntry n h own peer old new
    → share_id (ids_more h live) earlier.ids ≡ is_some (higher (earlier_of own) (earlier_of peer))
    → list_any (unsettled_by earlier) (ids_more h live) ≡ (is_unsettled own || is_unsettled peer)
    → HasValuesOf (with_entry earlier n h (hit_by h live) ∷ []) new
entry_kept earlier n h live own peer old new kept more comes unsettled_is = record {
  numbers = λ i.
      more.numbers i ∙ ap (λ b. b || (n == i)) (kept.numbers i)
      ∙ ap (λ b. list_any (λ d. has_entry d i) hits || b) (sym (or_none (n == i)))
      ∙ sym (any_part (λ k. k == i) (λ d. d.numbers) hits (n ∷ [])) ∙ sym (or_none _);
  ids = λ id.
      more.ids id ∙ ap (λ b. b || is_among (ids_in h) id) (kept.ids id)
      ∙ sym (any_part (is_same id) (λ d. d.ids) hits (ids_in h)) ∙ sym (or_none _);
  senders = λ side.
      more.senders side ∙ ap (λ b. b || is_side side h.sender) (kept.senders side)
      ∙ ap (λ b. list_any (λ d. list_any (is_side side) d.senders) hits || b) (sym (or_none (is_side side h.sender)))
      ∙ sym (any_part (is_side side) (λ d. d.senders) hits (h.sender ∷ [])) ∙ sym (or_none _);
  begun = more.begun ∙ ap (λ b. b || nat_lt 0 (length (begun_by h))) kept.begun ∙ sym (some_begun hits (begun_by h)) ∙ sym (or_none _);
  over = more.over ∙ ap (λ o. Rattle.tcap_dialogues.specs.Course.lower o (over_by n h)) kept.over ∙ sym (lower_none _);
  early = more.early ∙ ap (λ b. b || not h.under_way) kept.early ∙ sym (or_none _);
  again =
      ap is_some more.earlier_is ∙ some_higher old.earlier (higher (earlier_of own) (earlier_of peer))
      ∙ ap (λ b. b || is_some (higher (earlier_of own) (earlier_of peer))) kept.again
      ∙ ap (λ b. list_any (λ d. d.again) hits || b) (sym comes) ∙ sym (or_none _);
  unsettled =
      more.unsettled ∙ ap (λ b. b || (is_unsettled own || is_unsettled peer)) kept.unsettled
      ∙ ap (λ b. list_any (λ d. d.unsettled) hits || b) (sym unsettled_is) ∙ sym (or_none _);
}
  where
    hits : List Course
    hits = hit_by h live
