-- Each given list of entries is in ascending order.
use Rattle.tcap_evidence_laws.proofs.Common.{◌≡◌, ℕ, ℤ, ◌≤◌, arith, Bool, true, false, cond, ◌&&◌, List, [], ◌∷◌, ◌++◌, map, Option, Some, None, Result, Ok, Err, is_none, refl, sym, subst, Contains, filter, slice_get, find, Component, Message, cause_in, dialogue_in, dtid_in, otid_in, Side, Entry, other, is_response, Table, Reason, Item, Sent, ended_by, item_of, Refutation, is_a, is_begin_with_request, has_not, is_continue_to, is_cause, is_sort, HalfOrigin, Accepted, Begun, Nowhere, Refused, Unanswered, Sort, ShownFact, grounds_of, mark_scene, Numbered, in_order, sent_before, invocations_at, Scene, has_request, incoming_by, invoked_by, is_open_continue, is_same_id, own_begin, own_id, shown, since_first, peer_from_dtid, to_half, sent_to_dtid, went_elsewhere, with_sort, with_sort_in, IsAscending, invokes_listed, component_with, scene_at}
use Rattle.tcap_msg.specs.declared.kind.Kind.TheVariants as forms
use Rattle.tcap_evidence.specs.declared.shown_facts.ShownFact.TheVariants as facts
use Rattle.tcap_evidence_laws.proofs.GroundLaws.{of_mark, of_message}
use Rattle.tcap_evidence_laws.proofs.InvocationLaws.{are_listed, none_given}
use Rattle.tcap_evidence_laws.proofs.OrderLaws.{Ascend, append_ascends, first_ascend, kept_ascend, repeated_ascends, sent_ascend, since_ascend, where_ascends, with_ascends}
use Rattle.tcap_evidence_laws.proofs.SentBefore.{was_sent}
use Rattle.tcap_evidence_laws.proofs.SuchLaws.{itself_is, sorted_is, outgoing_is}

-- A scene with the messages of the ends before its entry.
module _ (entries : List Entry) (s : Scene) (own : s.own ≡ sent_before s.side entries s.number)
    (peer : s.peer ≡ sent_before (other s.side) entries s.number) where
  -- ---- messages

  own_ascend : Ascend s.own
  own_ascend = subst Ascend (sym own) (sent_ascend s.side entries s.number)

  there_ascend : Ascend (peer_from_dtid s)
  there_ascend =
      kept_ascend (λ (n : Numbered). is_same_id s.to (otid_in n.1)) s.peer
      (subst Ascend (sym peer) (sent_ascend (other s.side) entries s.number))

  outgoing_ascend : Ascend (sent_to_dtid s)
  outgoing_ascend = kept_ascend (λ (n : Numbered). is_same_id s.to (dtid_in n.1) && is_none (cause_in n.1)) s.own own_ascend

  half_ascend : Ascend (to_half s)
  half_ascend = by s.half refl
    where
      by : (o : Option (List ℕ)) → s.half ≡ o → Ascend (to_half s)
      by None is = rw is tt
      by (Some id) is = rw is (kept_ascend (λ (n : Numbered). is_continue_to id n.1) (peer_from_dtid s) there_ascend)

  incoming_ascend : (origin : HalfOrigin) → Ascend (in_order (incoming_by s origin))
  incoming_ascend Accepted = first_ascend (find (λ (n : Numbered). is_a forms.Begin n.1) (peer_from_dtid s)) (to_half s) half_ascend
  incoming_ascend Refused = first_ascend (find (λ (n : Numbered). is_a forms.Begin n.1) (peer_from_dtid s)) (to_half s) half_ascend
  incoming_ascend Begun = by (has_request (own_begin s))
    where
      by : (b : Bool)
          → Ascend (in_order (cond b (since_first (λ n. is_response (dialogue_in n.1)) (to_half s)) (to_half s)))
      by true =
          first_ascend None (since_first (λ (n : Numbered). is_response (dialogue_in n.1)) (to_half s))
          (since_ascend (λ (n : Numbered). is_response (dialogue_in n.1)) (to_half s) half_ascend)
      by false = first_ascend None (to_half s) half_ascend
  incoming_ascend Unanswered = tt
  incoming_ascend Nowhere = tt

  invoked_ascend : (origin : HalfOrigin) → Ascend (in_order (invoked_by s origin))
  invoked_ascend Begun = first_ascend (own_begin s) (sent_to_dtid s) outgoing_ascend
  invoked_ascend Unanswered = first_ascend (own_begin s) (sent_to_dtid s) outgoing_ascend
  invoked_ascend origin = first_ascend None (sent_to_dtid s) outgoing_ascend

  -- ---- components

  sort_ascends : (sort : Sort) (sent : List Numbered) → Ascend sent → IsAscending (with_sort s sort sent)
  sort_ascends sort sent so = by s.id refl
    where
      by : (o : Option ℤ) → s.id ≡ o → IsAscending (with_sort s sort sent)
      by None is = rw is tt
      by (Some id) is = rw is (with_ascends (is_sort s.table id sort) sent so)

  itself_ascends : (sort : Sort) (cs : List Component) → IsAscending (with_sort_in s sort cs)
  itself_ascends sort cs = by s.id refl
    where
      by : (o : Option ℤ) → s.id ≡ o → IsAscending (with_sort_in s sort cs)
      by None is = rw is tt
      by (Some id) is = rw is (repeated_ascends s.number (filter (is_sort s.table id sort) cs))

  outgoing_ascends : (sort : Sort) (cs : List Component) → IsAscending (with_sort s sort (sent_to_dtid s) ++ with_sort_in s sort cs)
  outgoing_ascends sort cs =
      append_ascends (with_sort s sort (sent_to_dtid s)) (with_sort_in s sort cs)
      (sort_ascends sort (sent_to_dtid s) outgoing_ascend) (itself_ascends sort cs) below
    where
      below : (x y : ℕ) → Contains (with_sort s sort (sent_to_dtid s)) x → Contains (with_sort_in s sort cs) y → x ≤ y
      below x y outgoing here =
          let (m, among, sorted) = sorted_is s sort (sent_to_dtid s) x outgoing in
          let (sent, to_there) = outgoing_is s x m among in
          let at = was_sent s.side entries s.number x m (subst (λ (ns : List Numbered). Contains ns (x, m)) own sent) in
          let (it, has) = itself_is s sort cs y here in
          let before = at.before in omega (arith, before, it)

  -- ---- all lists

  pub shown_ascends : (fact : ShownFact) → IsAscending (shown s fact)
  shown_ascends facts.PeerBegins = where_ascends (is_a forms.Begin) (peer_from_dtid s) there_ascend
  shown_ascends facts.PeerRequests = where_ascends is_begin_with_request (peer_from_dtid s) there_ascend
  shown_ascends facts.PeerContinues = where_ascends (is_a forms.Continue) (peer_from_dtid s) there_ascend
  shown_ascends facts.Used = where_ascends (λ m. is_same_id s.from (otid_in m)) s.own own_ascend
  shown_ascends facts.WentElsewhere = where_ascends (went_elsewhere s) s.own own_ascend
  shown_ascends facts.Begun = where_ascends (λ m. is_a forms.Begin m && is_same_id (own_id s) (otid_in m)) s.own own_ascend
  shown_ascends facts.OwnRequests =
      where_ascends (λ m. is_begin_with_request m && is_same_id (own_id s) (otid_in m)) s.own own_ascend
  shown_ascends facts.OutgoingComponents = where_ascends (λ m. true) (sent_to_dtid s) outgoing_ascend
  shown_ascends facts.OutgoingContinues = where_ascends (is_a forms.Continue) (sent_to_dtid s) outgoing_ascend
  shown_ascends facts.Ended = where_ascends (λ m. is_same_id s.to (ended_by m)) s.own own_ascend
  shown_ascends facts.Unknown =
      where_ascends (λ m. is_same_id s.to (dtid_in m) && is_cause 1 (cause_in m)) s.own own_ascend
  shown_ascends facts.Refused =
      where_ascends (λ m. is_same_id s.to (dtid_in m) && is_cause 4 (cause_in m)) s.own own_ascend
  shown_ascends (facts.PeerComponents sort) = sort_ascends sort (peer_from_dtid s) there_ascend
  shown_ascends (facts.IncomingComponents sort) = sort_ascends sort (in_order (incoming_by s s.origin)) (incoming_ascend s.origin)
  shown_ascends (facts.Before sort) = outgoing_ascends sort s.earlier
  shown_ascends (facts.Whole sort) = outgoing_ascends sort s.all
  shown_ascends (facts.Invoked sort) = sort_ascends sort (in_order (invoked_by s s.origin)) (invoked_ascend s.origin)
  shown_ascends facts.Open = where_ascends (is_open_continue s) s.own own_ascend

-- ---- the lists for an entry

module _ (of_one : Bool) (table : Table) (side : Side) (entries : List Entry) (r : Refutation) where
  pub grounds_ascend : (fact : ShownFact) (numbers : List ℕ) → Contains (grounds_of of_one table side entries r) (fact, numbers)
      → IsAscending numbers
  grounds_ascend fact numbers has = by (slice_get (map item_of entries) r.entry) refl
    where
      by : (o : Option (Result Item Reason)) → slice_get (map item_of entries) r.entry ≡ o → IsAscending numbers
      by None is = has_not (fact, numbers) (rw is at has)
      by (Some (Err reason)) is = has_not (fact, numbers) (rw is at has)
      by (Some (Ok Item.Quiet)) is =
          subst IsAscending (sym (of_mark of_one table side entries r fact numbers is has))
          (shown_ascends entries (mark_scene table side entries r.entry) refl refl fact)
      by (Some (Ok (Sent sender m))) is =
          subst IsAscending (sym (of_message of_one table side entries r fact numbers sender m is has))
          (shown_ascends entries (scene_at of_one table side entries r.entry m r.kind) refl refl fact)

  pub invocations_ascend : IsAscending (map (λ i. i.entry) (invocations_at of_one table side entries r))
  invocations_ascend = by (slice_get (map item_of entries) r.entry) refl
    where
      none : invocations_at of_one table side entries r ≡ []
          → IsAscending (map (λ i. i.entry) (invocations_at of_one table side entries r))
      none is = rw is tt

      given : (sender : Side) (m : Message) → slice_get (map item_of entries) r.entry ≡ Some (Ok (Sent sender m)) → (o : Option ShownFact)
          → invokes_listed r.kind (component_with of_one table side entries r.entry m r.kind) ≡ o
          → IsAscending (map (λ i. i.entry) (invocations_at of_one table side entries r))
      given sender m is None listed = none (none_given of_one table side entries r sender m is listed)
      given sender m is (Some fact) listed =
          subst IsAscending (sym (are_listed of_one table side entries r sender m is fact listed))
          (shown_ascends entries (scene_at of_one table side entries r.entry m r.kind) refl refl fact)

      by : (o : Option (Result Item Reason)) → slice_get (map item_of entries) r.entry ≡ o
          → IsAscending (map (λ i. i.entry) (invocations_at of_one table side entries r))
      by None is = rw is tt
      by (Some (Err reason)) is = rw is tt
      by (Some (Ok Item.Quiet)) is = rw is tt
      by (Some (Ok (Sent sender m))) is =
          given sender m is (invokes_listed r.kind (component_with of_one table side entries r.entry m r.kind)) refl
