-- Which live dialogue has an ID that its sender reuses.
use Rattle.std.proofs.Common.{◌≡◌, ◌⊎◌, inl, inr, ℕ, Bool, true, false, List, Option, Some, None, is_some, refl, sym, ap, ◌∙◌}
use Rattle.std.proofs.Math.Bool.{and-false}
use Rattle.std.specs.Prelude.{◌==◌, ◌&&◌, ◌||◌, not, Contains}
use Rattle.std.specs.List.{flat_map, list_any}
use Rattle.std.proofs.lemmas.Bool.{cases_Bool, eq-eqb, eqb-true, false_from_ne_true, or_left, or_right, true≢false}
use Rattle.std.proofs.lemmas.List.Folds.{list_any-append}
use Rattle.tcap_record.specs.declared.entry.End.{End as Side}
use Rattle.tcap_model.specs.World.{is_side}
use Rattle.tcap_dialogues.specs.Course.{Course, Courses, Heading, accepts, begins_from, gives_to_another, goes_on_with_another, has_begin, share_id, is_begin, is_continue, names_peer, own_ids, peer_ids}
use Rattle.tcap_dialogues.specs.DialoguesOfList.{IdOf, is_among, is_same}
use Rattle.tcap_dialogues.specs.CutState.{AreApart, HoldsLive, is_used_anew}
use Rattle.tcap_dialogues.specs.CutUpdate.{ids_at}
use Rattle.tcap_dialogues.specs.declared.known_ids.IdState.{IdState}
use Rattle.tcap_dialogues.specs.declared.live.LiveDialogue.{LiveDialogue}
use Rattle.tcap_dialogues.proofs.CutLists.{finds, found}
use Rattle.tcap_dialogues.proofs.HeldLaws.{one_name}
use Rattle.tcap_dialogues.proofs.HeldLists.{any_flat, any_none, any_only, both_so, or_none}
use Rattle.tcap_dialogues.proofs.OwnerLaws.{IsNobodys, IsOf, IsOwner, begun_only, have_more, nobody_begun}

-- ---- four tests

begun_so : (a b c d : Bool) → ((a && b && c) && d) ≡ true → b ≡ true
begun_so true true c d is = refl
begun_so true false c d is = cc
begun_so false b c d is = cc

not_begun : (a c d : Bool) → ((a && false && c) && d) ≡ false
not_begun true c d = refl
not_begun false c d = refl

-- Two dialogues that have an ID of an end are equal.
one_of_ids : (live : List Course) → AreApart live → (end : Side) (octets : Option (List ℕ)) (d e : Course) → Contains live d → Contains live e
    → share_id (ids_at end octets) d.ids ≡ true → share_id (ids_at end octets) e.ids ≡ true → d ≡ e
one_of_ids live apart end None d e has hers is so = cc
one_of_ids live apart end (Some octets) d e has hers is so =
    let id : IdOf = record { end = end; octets = octets } in
    apart.one_id d e id has hers (sym (or_none (is_among d.ids id)) ∙ is) (sym (or_none (is_among e.ids id)) ∙ so)

-- whether the heading accepts a dialogue that has not its own ID
abbrev pub accepts_one : Heading → Course → Bool
accepts_one h other = accepts h other && not (share_id (own_ids h) other.ids)

-- Only a Continue accepts.
pub accepts_none : (live : List Course) (h : Heading) → is_continue h.kind ≡ false → list_any (accepts_one h) live ≡ false
accepts_none live h not_one =
    any_none (accepts_one h) live
    (λ x has. ap (λ b. (b && share_id (peer_ids h) x.begun && not (list_any (is_side h.sender) x.senders)) && not (share_id (own_ids h) x.ids)) not_one)

module _ (live : List Course) (names : Course → ℕ) (lives : Rattle.std.specs.BTreeMap.BTreeMap ℕ LiveDialogue) (apart : AreApart live)
    (are : HoldsLive live names lives) (h : Heading) where
  module _ (peer : IdState) where
    pub accepts_nobody : IsNobodys live (peer_ids h) peer → list_any (accepts_one h) live ≡ false
    accepts_nobody nobody =
        any_none (accepts_one h) live
        (λ e has. ap (λ b. (is_continue h.kind && b && not (list_any (is_side h.sender) e.senders)) && not (share_id (own_ids h) e.ids))
        (nobody_begun live names (peer_ids h) peer apart nobody e has)
        ∙ not_begun (is_continue h.kind) (not (list_any (is_side h.sender) e.senders)) (not (share_id (own_ids h) e.ids)))

    module _ (name other : ℕ) (d e : Course) (has : Contains live d) (named : names d ≡ name) (hits : share_id (own_ids h) d.ids ≡ true)
        (owner : IsOwner live names (peer_ids h) other peer e) where
      -- Another dialogue has another name.
      is_another : share_id (own_ids h) e.ids ≡ (other == name)
      is_another = both_so _ _ there back
        where
          there : share_id (own_ids h) e.ids ≡ true → (other == name) ≡ true
          there is =
              let same = one_of_ids live apart h.sender h.otid d e has owner.listed hits is in
              eq-eqb other name (sym owner.named ∙ ap names (sym same) ∙ named)

          back : (other == name) ≡ true → share_id (own_ids h) e.ids ≡ true
          back is =
              let same = one_name live names lives are apart d e has owner.listed (named ∙ sym (eqb-true other name is) ∙ sym owner.named) in
              ap (λ x. share_id (own_ids h) x.ids) (sym same) ∙ hits

      pub accepts_is : is_continue h.kind ≡ true
          → list_any (accepts_one h) live ≡ ((not (other == name) && peer.begun) && not (list_any (is_side h.sender) e.senders))
      accepts_is continues =
          any_only (accepts_one h) live e owner.listed
          (λ x listed so. begun_only live names (peer_ids h) peer apart other e owner x listed
          (begun_so (is_continue h.kind) (share_id (peer_ids h) x.begun) (not (list_any (is_side h.sender) x.senders)) (not (share_id (own_ids h) x.ids)) so))
          ∙ ap (λ b. (b && share_id (peer_ids h) e.begun && not (list_any (is_side h.sender) e.senders)) && not (share_id (own_ids h) e.ids)) continues
          ∙ ap (λ b. (true && share_id (peer_ids h) e.begun && not (list_any (is_side h.sender) e.senders)) && not b) is_another
          ∙ ap (λ b. (true && b && not (list_any (is_side h.sender) e.senders)) && not (other == name)) (sym owner.begun)
          ∙ order peer.begun (list_any (is_side h.sender) e.senders) (other == name)
        where
          order : (begun sent same : Bool) → ((true && begun && not sent) && not same) ≡ ((not same && begun) && not sent)
          order true true true = refl
          order true true false = refl
          order true false true = refl
          order true false false = refl
          order false true true = refl
          order false true false = refl
          order false false true = refl
          order false false false = refl

-- ---- the dialogue that is given up

-- Some dialogue has one of these IDs if they share one with all IDs.
pub any_has : (ids : List IdOf) (ds : List Course) → list_any (λ d. share_id ids d.ids) ds ≡ share_id ids (flat_map (λ d. d.ids) ds)
any_has ids ds = both_so _ _ there back
  where
    there : list_any (λ d. share_id ids d.ids) ds ≡ true → share_id ids (flat_map (λ d. d.ids) ds) ≡ true
    there is =
        let (d, has, so) = found (λ x. share_id ids x.ids) ds is in
        have_more ids d.ids (flat_map (λ x. x.ids) ds) (λ id its. any_flat (is_same id) (λ x. x.ids) ds ∙ finds (λ x. is_among x.ids id) ds d has its) so

    back : share_id ids (flat_map (λ d. d.ids) ds) ≡ true → list_any (λ d. share_id ids d.ids) ds ≡ true
    back is =
        let (id, has, so) = found (is_among (flat_map (λ x. x.ids) ds)) ids is in
        let (d, there, its) = found (λ x. is_among x.ids id) ds (sym (any_flat (is_same id) (λ x. x.ids) ds) ∙ so) in
        finds (λ x. share_id ids x.ids) ds d there (finds (is_among d.ids) ids id has its)

module _ (s : Courses) (names : Course → ℕ) (h : Heading) where
  -- If a live dialogue has the destination ID, an entry has it.
  pub named_live : (d : Course) → Contains s.live d → share_id (peer_ids h) d.ids ≡ true → names_peer s h ≡ true
  named_live d has is =
      list_any-append (λ x. share_id (peer_ids h) x.ids) s.done s.live
      ∙ or_right _ _ (finds (λ x. share_id (peer_ids h) x.ids) s.live d has is)

  -- If no live dialogue has it, an entry has it if a dialogue that is done did.
  pub named_done : (peer : IdState) → IsOf s names (peer_ids h) peer → IsNobodys s.live (peer_ids h) peer
      → names_peer s h ≡ is_some peer.last
  named_done peer of nobody =
      list_any-append (λ x. share_id (peer_ids h) x.ids) s.done s.live
      ∙ ap (λ b. list_any (λ x. share_id (peer_ids h) x.ids) s.done || b)
      (any_none (λ x. share_id (peer_ids h) x.ids) s.live nobody.0)
      ∙ or_none _ ∙ any_has (peer_ids h) s.done ∙ sym of.came

  module _ (d : Course) where
    -- A dialogue without the own ID is not reused.
    pub not_own : share_id (own_ids h) d.ids ≡ false → is_used_anew s h d ≡ false
    not_own is =
        ap (λ b. (is_begin h.kind && b) || (b && list_any (accepts_one h) s.live)
        || (b && is_continue h.kind && has_begin d && (h.under_way || h.known) && not (names_peer s h))) is
        ∙ ap (λ b. b || false || false) (and-false (is_begin h.kind))

    -- A Begin reuses it.
    pub own_begin : share_id (own_ids h) d.ids ≡ true → is_begin h.kind ≡ true → is_used_anew s h d ≡ true
    own_begin has begins =
        or_left (begins_from h d.ids || gives_to_another s.live h d) (goes_on_with_another s h d)
        (or_left (begins_from h d.ids) (gives_to_another s.live h d) (ap (λ b. b && share_id (own_ids h) d.ids) begins ∙ has))

    -- A Continue may reuse it.
    pub own_other : is_begin h.kind ≡ false
        → is_used_anew s h d ≡ (gives_to_another s.live h d || goes_on_with_another s h d)
    own_other none =
        ap (λ b. (b && share_id (own_ids h) d.ids) || gives_to_another s.live h d || goes_on_with_another s h d) none

    -- No other kind does.
    pub own_neither : is_begin h.kind ≡ false → is_continue h.kind ≡ false → is_used_anew s h d ≡ false
    own_neither none neither =
        own_other none
        ∙ ap (λ b. (share_id (own_ids h) d.ids && b) || goes_on_with_another s h d) (accepts_none s.live h neither)
        ∙ ap (λ b. (share_id (own_ids h) d.ids && false)
        || (share_id (own_ids h) d.ids && b && has_begin d && (h.under_way || h.known) && not (names_peer s h))) neither
        ∙ by (share_id (own_ids h) d.ids) (has_begin d) (h.under_way || h.known) (not (names_peer s h))
      where
        by : (b x y z : Bool) → ((b && false) || (b && false && x && y && z)) ≡ false
        by true x y z = refl
        by false x y z = refl

    -- If a live dialogue has the destination ID, a Continue belongs to this dialogue if its sender accepts the
    -- dialogue.
    pub continues_live : (accepts : Bool) → share_id (own_ids h) d.ids ≡ true → names_peer s h ≡ true
        → list_any (accepts_one h) s.live ≡ accepts → (gives_to_another s.live h d || goes_on_with_another s h d) ≡ accepts
    continues_live accepts has named is =
        ap (λ b. (b && list_any (accepts_one h) s.live)
        || (b && is_continue h.kind && has_begin d && (h.under_way || h.known) && not (names_peer s h))) has
        ∙ ap (λ b. list_any (accepts_one h) s.live || (is_continue h.kind && has_begin d && (h.under_way || h.known) && not b)) named
        ∙ ap (λ b. b || (is_continue h.kind && has_begin d && (h.under_way || h.known) && false)) is
        ∙ by accepts (is_continue h.kind) (has_begin d) (h.under_way || h.known)
      where
        by : (a b c e : Bool) → (a || (b && c && e && false)) ≡ a
        by true b c e = refl
        by false true true true = refl
        by false true true false = refl
        by false true false e = refl
        by false false c e = refl

    -- Otherwise it belongs to a dialogue whose Begin is not in the segment, if no entry has that ID.
    pub continues_done : (last begun : Bool) → share_id (own_ids h) d.ids ≡ true → is_continue h.kind ≡ true
        → list_any (accepts_one h) s.live ≡ false → names_peer s h ≡ last → has_begin d ≡ begun
        → (gives_to_another s.live h d || goes_on_with_another s h d) ≡ (begun && (h.under_way || h.known) && not last)
    continues_done last begun has continues none named begins =
        ap (λ b. (b && list_any (accepts_one h) s.live)
        || (b && is_continue h.kind && has_begin d && (h.under_way || h.known) && not (names_peer s h))) has
        ∙ ap (λ b. b || (is_continue h.kind && has_begin d && (h.under_way || h.known) && not (names_peer s h))) none
        ∙ ap (λ b. b && has_begin d && (h.under_way || h.known) && not (names_peer s h)) continues
        ∙ ap (λ b. has_begin d && (h.under_way || h.known) && not b) named
        ∙ ap (λ b. b && (h.under_way || h.known) && not last) begins

-- the test in the code
pub as_known : (last : Option ℕ) (begun word none : Bool) → is_some last ≡ not none
    → ((none && word) && begun) ≡ (begun && word && not (is_some last))
as_known last begun word none is = by none word begun ∙ ap (λ b. begun && word && not b) (sym is)
  where
    by : (a b c : Bool) → ((a && b) && c) ≡ (c && b && not (not a))
    by true true true = refl
    by true true false = refl
    by true false true = refl
    by true false false = refl
    by false true true = refl
    by false true false = refl
    by false false true = refl
    by false false false = refl

-- ---- the result of the code

module _ (s : Courses) (names : Course → ℕ) (lives : Rattle.std.specs.BTreeMap.BTreeMap ℕ LiveDialogue) (apart : AreApart s.live)
    (are : HoldsLive s.live names lives) (h : Heading) (own : IdState) where
  -- If no live dialogue has the own ID, none is given up.
  pub gives_up_nobody : IsNobodys s.live (own_ids h) own → (d : Course) → Contains s.live d → (is_some d.over && is_used_anew s h d) ≡ false
  gives_up_nobody nobody d has = ap (λ b. is_some d.over && b) (not_own s names h d (nobody.0 d has)) ∙ and-false (is_some d.over)

  -- Otherwise, the dialogue that has it is given up if it is over and reused.
  pub gives_up_is : (name : ℕ) (e : Course) → IsOwner s.live names (own_ids h) name own e → (gives : Bool)
      → (is_some e.over && is_used_anew s h e) ≡ gives → (d : Course) → Contains s.live d
      → (is_some d.over && is_used_anew s h d) ≡ (names d == name && gives)
  gives_up_is name e owner gives is d has = by (cases_Bool (names d == name))
    where
      by : ((names d == name) ≡ true) ⊎ ((names d == name) ≡ false)
          → (is_some d.over && is_used_anew s h d) ≡ (names d == name && gives)
      by (inl named) =
          let same = one_name s.live names lives are apart d e has owner.listed (eqb-true (names d) name named ∙ sym owner.named) in
          ap (λ x. is_some x.over && is_used_anew s h x) same ∙ is ∙ ap (λ b. b && gives) (sym named)
      by (inr differs) =
          ap (λ b. is_some d.over && b)
          (not_own s names h d (false_from_ne_true _
          (λ so. true≢false (sym (eq-eqb (names d) name (ap names (owner.only d has so) ∙ owner.named)) ∙ differs))))
          ∙ and-false (is_some d.over) ∙ ap (λ b. b && gives) (sym differs)

-- the name, if a dialogue is given up
pub all_given : (gives named : Bool) → gives ≡ (named && true) → gives ≡ named
all_given gives true is = is
all_given gives false is = is

-- no name, if none is
pub none_given : (gives named : Bool) → gives ≡ (named && false) → gives ≡ false
none_given gives true is = is
none_given gives false is = is
