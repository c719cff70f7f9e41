-- The lists of a half: its Begin, the Continues to it and from it, and whether it was closed.
use Rattle.tcap_evidence_laws.proofs.Common.{false_from_ne_true, ◌≡◌, ◌⊎◌, inl, inr, ℕ, ◌<◌, Bool, true, false, cond, ◌&&◌, ◌||◌, List, [], ◌∷◌, Option, Some, None, is_some, option_to_list, refl, sym, ap, subst, ◌∙◌, is_none, Contains, filter, find, list_any, and_from, and_parts, Contains-append_left, Contains-append_right, Message, Begin, Continue, cause_in, dtid_in, otid_in, Side, is_id, Item, id_is, peer_sent_from, has_a, is_a, sent_by, is_begin_with_request, option_or, any_has, filter_has, filter_map_has, has_not, Begun, was_closed, count, is_nothing, answered_from, begun_from, continued_to, from_first, incoming_continues, responds, goes_to_begun, is_own_tangled, owns_of, peers_of, began, begin_from, is_begin_from, is_continue_from, is_continue_to, is_request_of, outgoing, filter_is, find_has, none_passes, entries_where, Scene, is_same_id, own_id, to_half, ListsOne, contains_first, is_that_id, other}
use Rattle.tcap_model.specs.Run.{option_then}
use Rattle.tcap_faults.proofs.kind_laws.HalfFacts.{not_nothing}
use Rattle.tcap_faults.proofs.list_laws.FindLaws.{find_none}
use Rattle.tcap_faults.proofs.kind_laws.OwnHalfLaws.{begun_there, only_first}
use Rattle.tcap_faults.proofs.transaction_laws.TangledLaws.{began_used, joins}
use Rattle.tcap_faults.proofs.list_laws.TwoTests.{any_found}
use Rattle.tcap_evidence_laws.specs.HalfEvidence.{Begins}
use Rattle.tcap_evidence_laws.proofs.ClosedShows.{closed_by}
use Rattle.tcap_evidence_laws.proofs.ListsLaws.{none_pass, none_there, one_aborts, one_sent, one_there, one_outgoing}
use Rattle.tcap_evidence_laws.proofs.SceneLists.{IsTo, half_are}
use Rattle.tcap_msg.specs.declared.kind.Kind.TheVariants as forms
use Rattle.tcap_evidence.specs.declared.shown_facts.ShownFact.TheVariants as facts

-- ---- lists

-- If nothing remains from the first item on that passes, none passes.
none_first : (p : Message → Bool) (ms : List Message) → is_nothing (from_first p ms) ≡ true → list_any p ms ≡ false
none_first p [] nothing = refl
none_first p (m ∷ ms) nothing = by (p m) nothing (none_first p ms)
  where
    by : (b : Bool) → is_nothing (cond b (m ∷ ms) (from_first p ms)) ≡ true
        → (is_nothing (from_first p ms) ≡ true → list_any p ms ≡ false) → (b || list_any p ms) ≡ false
    by true nothing rest = cc
    by false nothing rest = rest nothing

-- A Begin with a request is a Begin.
pub request_begins : (m : Message) → is_begin_with_request m ≡ true → is_a forms.Begin m ≡ true
request_begins (Begin otid dialogue components) is = refl
request_begins m is = cc

-- ---- the scene of a message to this ID

module _ (side : Side) (items : List Item) (s : Scene) (id : List ℕ) (of : IsTo side items id s) where
  -- The own IDs joined with this ID are not ambiguous.
  abbrev pub ArePlain : Type 0
  ArePlain = (own : List ℕ) → Contains (owns_of side items id) own → is_own_tangled side items own ≡ false

  -- ---- Begins

  pub begun_one : (own : List ℕ) → own_id s ≡ Some own → began side own items ≡ true → ListsOne s facts.Begun
  begun_one own is begun =
      one_sent side items s id of (λ x. is_a forms.Begin x && is_same_id (own_id s) (otid_in x))
      (ap (λ (o : Option (List ℕ)). list_any (λ (x : Message). is_a forms.Begin x && is_same_id o (otid_in x)) (sent_by side items)) is
      ∙ any_found (is_begin_from own) (sent_by side items) ∙ begun)

  pub own_request : (own : List ℕ) → own_id s ≡ Some own → is_request_of (begin_from side own items) ≡ true
      → ListsOne s facts.OwnRequests
  own_request own is asks = by (begin_from side own items) refl asks
    where
      by : (o : Option Message) → begin_from side own items ≡ o → is_request_of o ≡ true → ListsOne s facts.OwnRequests
      by None found so = cc
      by (Some b) found so =
          let (has, from) = find_has (is_begin_from own) (sent_by side items) b found in
          let of_own : is_same_id (own_id s) (otid_in b) ≡ true = rw is (and_parts (is_a forms.Begin b) _ from).1 in
          one_sent side items s id of (λ x. is_begin_with_request x && is_same_id (own_id s) (otid_in x))
          (any_has (λ x. is_begin_with_request x && is_same_id (own_id s) (otid_in x)) (sent_by side items) b has
          (and_from (is_begin_with_request b) (is_same_id (own_id s) (otid_in b)) so of_own))

  -- If the peer sent at most one Begin, the first one has a request exactly if any has.
  pub requests_are : count (is_a forms.Begin) (peer_sent_from side id items) < 2 → (o : Option Message) → find (is_a forms.Begin) (peer_sent_from side id items) ≡ o
      → list_any is_begin_with_request (peer_sent_from side id items) ≡ is_request_of o
  requests_are few None found =
      none_passes is_begin_with_request (peer_sent_from side id items) none
    where
      none : (x : Message) → Contains (peer_sent_from side id items) x → is_begin_with_request x ≡ false
      none x has =
          false_from_ne_true (is_begin_with_request x)
          (λ so. find_none (is_a forms.Begin) (peer_sent_from side id items) x found has (request_begins x so))
  requests_are few (Some b) found = by (is_begin_with_request b) refl
    where
      the_one : (x : Message) → Contains (peer_sent_from side id items) x → is_begin_with_request x ≡ true → b ≡ x
      the_one x has asks =
          let kept = filter_has (is_a forms.Begin) (peer_sent_from side id items) x has (request_begins x asks) in
          let alone : filter (is_a forms.Begin) (peer_sent_from side id items) ≡ b ∷ [] =
          only_first (is_a forms.Begin) (peer_sent_from side id items) few ∙ ap option_to_list found in
          single (subst (λ (xs : List Message). Contains xs x) alone kept)
        where
          single : Contains (b ∷ []) x → b ≡ x
          single has = by (contains_first b [] x has)
            where
              by : (b ≡ x) ⊎ Contains [] x → b ≡ x
              by (inl same) = same
              by (inr none) = has_not x none

      by : (so : Bool) → is_begin_with_request b ≡ so → list_any is_begin_with_request (peer_sent_from side id items) ≡ so
      by true so =
          any_has is_begin_with_request (peer_sent_from side id items) b
          (find_has (is_a forms.Begin) (peer_sent_from side id items) b found).0 so
      by false not_so = none_passes is_begin_with_request (peer_sent_from side id items) none
        where
          none : (x : Message) → Contains (peer_sent_from side id items) x → is_begin_with_request x ≡ false
          none x has =
              false_from_ne_true (is_begin_with_request x)
              (λ so. let bad : true ≡ false = sym so ∙ ap is_begin_with_request (sym (the_one x has so)) ∙ not_so in cc)

  -- ---- a half whose Begin the end sent

  -- the Continue with which the peer answers it
  abbrev GoesOn : List ℕ → Type 0
  GoesOn own =
      (x : Message) × Contains (peer_sent_from side id items) x × (is_a forms.Continue x ≡ true) × (dtid_in x ≡ Some own)
      × (began side own items ≡ true)

  pub goes_on : (own : List ℕ) → begun_from side items id ≡ Some own → GoesOn own
  goes_on own from = by (find (goes_to_begun side items) (peer_sent_from side id items)) refl from
    where
      by : (o : Option Message) → find (goes_to_begun side items) (peer_sent_from side id items) ≡ o
          → option_then o dtid_in ≡ Some own → GoesOn own
      by None found is = cc
      by (Some x) found is =
          let (has, begins) = find_has (goes_to_begun side items) (peer_sent_from side id items) x found in
          let (other, goes, on, begun) = begun_there side items x begins in
          let same : other ≡ own = let both : Some other ≡ Some own = sym goes ∙ is in cc in
          (x, has, on, is, ap (λ (it : List ℕ). began side it items) (sym same) ∙ begun)

  -- Without such a Continue, no Continue goes to an ID that the end began.
  pub none_begun : begun_from side items id ≡ None → list_any (goes_to_begun side items) (peer_sent_from side id items) ≡ false
  none_begun none = by (find (goes_to_begun side items) (peer_sent_from side id items)) refl none
    where
      by : (o : Option Message) → find (goes_to_begun side items) (peer_sent_from side id items) ≡ o
          → option_then o dtid_in ≡ None → list_any (goes_to_begun side items) (peer_sent_from side id items) ≡ false
      by None found is = any_found (goes_to_begun side items) (peer_sent_from side id items) ∙ ap is_some found
      by (Some x) found is =
          let (has, begins) = find_has (goes_to_begun side items) (peer_sent_from side id items) x found in
          let (other, goes, on, begun) = begun_there side items x begins in
          let bad : Some other ≡ None = sym goes ∙ is in cc

  module _ (own : List ℕ) (begins_none : has_a forms.Begin (peer_sent_from side id items) ≡ false)
      (from : begun_from side items id ≡ Some own) (half : s.half ≡ Some own) where
    own_is : own_id s ≡ Some own
    own_is = ap (λ (o : Option (List ℕ)). option_or o s.from) half

    pub starts : Begins s
    starts =
        let (x, has, on, goes, begun) = goes_on own from in (
          none_there side items s id of (is_a forms.Begin) begins_none,
          begun_one own own_is begun,
          one_there side items s id of (is_a forms.Continue) (any_has (is_a forms.Continue) (peer_sent_from side id items) x has on),
        )

    -- If the half heard nothing, its Begin has a request, and no Continue answers it.
    pub unanswered : is_nothing (incoming_continues (begin_from side own items) (continued_to side items id (Some own))) ≡ true
        → ListsOne s facts.OwnRequests × (entries_where responds (to_half s) ≡ [])
    unanswered = by (is_request_of (begin_from side own items)) refl
      where
        later : List Message
        later = continued_to side items id (Some own)

        by : (asks : Bool) → is_request_of (begin_from side own items) ≡ asks
            → is_nothing (cond asks (from_first responds later) later) ≡ true
            → ListsOne s facts.OwnRequests × (entries_where responds (to_half s) ≡ [])
        by true asks nothing = (
          own_request own own_is asks,
          none_pass responds (to_half s)
              (ap (list_any responds) (half_are side items id s of (Some own) half) ∙ none_first responds later nothing),
        )
        by false asks nothing =
            let (x, has, on, goes, begun) = goes_on own from in
            not_nothing later x
            (filter_has (is_continue_to own) (peer_sent_from side id items) x has
            (and_from (is_a forms.Continue x) (is_id own (dtid_in x)) on (is_that_id own (dtid_in x) goes))) nothing

    -- The own ID is joined with the peer's ID.
    begun_joined : Contains (owns_of side items id) own
    begun_joined =
        let (x, has, on, goes, begun) = goes_on own from in
        joins side items id own x has on goes (began_used side items own begun)

    begun_peer : Contains (peers_of side items own) id
    begun_peer =
        let (x, has, on, goes, begun) = goes_on own from in
        let (sent, from_there) = filter_is (λ n. is_id id (otid_in n)) (sent_by (other side) items) x has in
        let kept = filter_has (is_continue_to own) (sent_by (other side) items) x sent
        (and_from (is_a forms.Continue x) (is_id own (dtid_in x)) on (is_that_id own (dtid_in x) goes)) in
        let named = filter_map_has otid_in (filter (is_continue_to own) (sent_by (other side) items)) x id kept
        (id_is id (otid_in x) from_there) in
        rw (began_used side items own begun) (Contains-append_right _ _ id named)

    pub begun_closed : ArePlain → was_closed side items (Some own) ≡ true → ListsOne s facts.Unknown
    begun_closed plain closed =
        one_aborts side items s id of 1 (closed_by side items own id begun_peer (plain own begun_joined) closed)

  -- ---- a half whose Begin the peer sent

  -- the Continue with which the end gave its own ID
  abbrev Told : List ℕ → Type 0
  Told own =
      (x : Message) × Contains (outgoing side id items) x × (is_a forms.Continue x ≡ true) × (otid_in x ≡ Some own)

  pub outgoing_from : (own : List ℕ) → answered_from side items id ≡ Some own → Told own
  outgoing_from own from = by (find (is_a forms.Continue) (outgoing side id items)) refl from
    where
      by : (o : Option Message) → find (is_a forms.Continue) (outgoing side id items) ≡ o → option_then o otid_in ≡ Some own
          → Told own
      by None found is = cc
      by (Some x) found is =
          let (has, on) = find_has (is_a forms.Continue) (outgoing side id items) x found in (x, has, on, is)

  module _ (own : List ℕ) (from : answered_from side items id ≡ Some own) where
    pub outgoing_one : ListsOne s facts.OutgoingContinues
    outgoing_one =
        let (x, has, on, is) = outgoing_from own from in
        one_outgoing side items s id of (is_a forms.Continue) (any_has (is_a forms.Continue) (outgoing side id items) x has on)

    -- The Continue joins the own ID with the peer's ID.
    outgoing_joins : Contains (owns_of side items id) own × Contains (peers_of side items own) id
    outgoing_joins =
        let (x, has, on, is) = outgoing_from own from in
        let (sent, tells) = filter_is (λ y. is_id id (dtid_in y) && is_none (cause_in y)) (sent_by side items) x has in
        let goes : is_id id (dtid_in x) ≡ true = (and_parts (is_id id (dtid_in x)) _ tells).0 in
        let to_there = filter_has (is_continue_to id) (sent_by side items) x sent
        (and_from (is_a forms.Continue x) (is_id id (dtid_in x)) on goes) in
        let from_own = filter_has (is_continue_from own) (sent_by side items) x sent
        (and_from (is_a forms.Continue x) (is_id own (otid_in x)) on (is_that_id own (otid_in x) is)) in (
          Contains-append_left _ _ own
              (filter_map_has otid_in (filter (is_continue_to id) (sent_by side items)) x own to_there is),
          Contains-append_left _ _ id
              (filter_map_has dtid_in (filter (is_continue_from own) (sent_by side items)) x id from_own (id_is id (dtid_in x) goes)),
        )

    pub accepted_closed : ArePlain → was_closed side items (Some own) ≡ true → ListsOne s facts.Unknown
    accepted_closed plain closed =
        let (joined, peer) = outgoing_joins in
        one_aborts side items s id of 1 (closed_by side items own id peer (plain own joined) closed)
