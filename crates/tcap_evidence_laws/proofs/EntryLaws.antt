-- Each listed entry is in the record, before the message at fault, and matches its list.
use Rattle.tcap_evidence_laws.proofs.Common.{◌≡◌, ◌⊎◌, inl, inr, ℕ, Bool, true, ◌&&◌, List, ◌++◌, Option, Some, subst, Contains, and_parts, Contains-append_cases, Component, Message, cause_in, dtid_in, kind_in, otid_in, Entry, other, ended_by, is_a, is_begin_with_request, is_cause, Sort, ShownFact, Numbered, entries_where, in_order, sent_before, Scene, incoming_by, invoked_by, is_open_continue, is_same_id, own_id, shown, peer_from_dtid, sent_to_dtid, went_elsewhere, with_sort, with_sort_in, AreSame, IsEntryOf, IsEntryItself, IsSentBefore, IsShown}
use Rattle.tcap_msg.specs.declared.kind.Kind.TheVariants as forms
use Rattle.tcap_evidence.specs.declared.shown_facts.ShownFact.TheVariants as facts
use Rattle.tcap_evidence_laws.proofs.NumberedLists.{where_is}
use Rattle.tcap_evidence_laws.proofs.MessageTests.{cause_is, end_is, form_is, one_is}
use Rattle.tcap_evidence_laws.proofs.OrderLaws.{in_order_is}
use Rattle.tcap_evidence_laws.proofs.SentBefore.{was_sent}
use Rattle.tcap_evidence_laws.proofs.SuchLaws.{incoming_is, invoked_is, itself_is, open_is, sorted_is, there_is, outgoing_is, went_is}

-- A scene with the messages of the ends before its entry.
module _ (entries : List Entry) (s : Scene) (own : s.own ≡ sent_before s.side entries s.number)
    (peer : s.peer ≡ sent_before (other s.side) entries s.number) where
  own_at : (n : ℕ) (m : Message) → Contains s.own (n, m) → IsSentBefore entries s.number s.side n m
  own_at n m has =
      was_sent s.side entries s.number n m (subst (λ (ns : List Numbered). Contains ns (n, m)) own has)

  peer_at : (n : ℕ) (m : Message) → Contains s.peer (n, m) → IsSentBefore entries s.number (other s.side) n m
  peer_at n m has =
      was_sent (other s.side) entries s.number n m (subst (λ (ns : List Numbered). Contains ns (n, m)) peer has)

  -- ---- messages

  -- a message of the peer from the destination ID
  from_there : (p : Message → Bool) (n : ℕ) → Contains (entries_where p (peer_from_dtid s)) n
      → (m : Message) × IsSentBefore entries s.number (other s.side) n m × (p m ≡ true) × AreSame s.to (otid_in m)
  from_there p n has =
      let (m, among, passes) = where_is p (peer_from_dtid s) n has in
      let (sent, from) = there_is s n m among in (m, peer_at n m sent, passes, from)

  -- a message of the end
  of_own : (p : Message → Bool) (n : ℕ) → Contains (entries_where p s.own) n
      → (m : Message) × IsSentBefore entries s.number s.side n m × (p m ≡ true)
  of_own p n has = let (m, among, passes) = where_is p s.own n has in (m, own_at n m among, passes)

  -- a message of the end from this own ID
  of_own_id : (p : Message → Bool) (id : Option (List ℕ)) (n : ℕ)
      → Contains (entries_where (λ m. p m && is_same_id id (otid_in m)) s.own) n
      → (m : Message) × IsSentBefore entries s.number s.side n m × (p m ≡ true) × AreSame id (otid_in m)
  of_own_id p id n has =
      let (m, sent, both) = of_own (λ (m : Message). p m && is_same_id id (otid_in m)) n has in
      let (passes, that) = and_parts (p m) (is_same_id id (otid_in m)) both in
      (m, sent, passes, one_is id (otid_in m) that)

  -- an Abort of the end's provider with this cause
  aborted : (cause : ℕ) (n : ℕ)
      → Contains (entries_where (λ m. is_same_id s.to (dtid_in m) && is_cause cause (cause_in m)) s.own) n
      → (m : Message) × IsSentBefore entries s.number s.side n m × AreSame s.to (dtid_in m) × (cause_in m ≡ Some cause)
  aborted cause n has =
      let (m, sent, both) = of_own (λ (m : Message). is_same_id s.to (dtid_in m) && is_cause cause (cause_in m)) n has in
      let (that, caused) = and_parts (is_same_id s.to (dtid_in m)) (is_cause cause (cause_in m)) both in
      (m, sent, one_is s.to (dtid_in m) that, cause_is cause (cause_in m) caused)

  -- ---- components

  -- a component in the end's messages to the destination ID
  sorted_outgoing : (sort : Sort) (n : ℕ) → Contains (with_sort s sort (sent_to_dtid s)) n
      → IsEntryOf entries s (facts.Before sort) n
  sorted_outgoing sort n has =
      let (m, among, sorted) = sorted_is s sort (sent_to_dtid s) n has in
      let (sent, outgoing) = outgoing_is s n m among in (m, own_at n m sent, (outgoing, sorted))

  -- such a component, or one of these components of the message itself
  outgoing_or_itself : (sort : Sort) (cs : List Component) (n : ℕ)
      → Contains (with_sort s sort (sent_to_dtid s) ++ with_sort_in s sort cs) n
      → IsEntryOf entries s (facts.Before sort) n ⊎ IsEntryItself s sort cs n
  outgoing_or_itself sort cs n has =
      by (Contains-append_cases (with_sort s sort (sent_to_dtid s)) (with_sort_in s sort cs) n has)
    where
      by : Contains (with_sort s sort (sent_to_dtid s)) n ⊎ Contains (with_sort_in s sort cs) n
          → IsEntryOf entries s (facts.Before sort) n ⊎ IsEntryItself s sort cs n
      by (inl outgoing) = inl (sorted_outgoing sort n outgoing)
      by (inr here) = inr (itself_is s sort cs n here)

  -- ---- all lists

  pub is_shown : (fact : ShownFact) (n : ℕ) → Contains (shown s fact) n → IsShown entries s fact n
  is_shown facts.PeerBegins n has =
      let (m, sent, begins, from) = from_there (is_a forms.Begin) n has in
      (m, sent, (form_is forms.Begin (kind_in m) begins, from))
  is_shown facts.PeerRequests n has =
      let (m, sent, asks, from) = from_there is_begin_with_request n has in (m, sent, (asks, from))
  is_shown facts.PeerContinues n has =
      let (m, sent, goes, from) = from_there (is_a forms.Continue) n has in
      (m, sent, (form_is forms.Continue (kind_in m) goes, from))
  is_shown facts.Used n has =
      let (m, sent, that) = of_own (λ (m : Message). is_same_id s.from (otid_in m)) n has in
      (m, sent, one_is s.from (otid_in m) that)
  is_shown facts.WentElsewhere n has =
      let (m, sent, went) = of_own (went_elsewhere s) n has in (m, sent, went_is s m went)
  is_shown facts.Begun n has =
      let (m, sent, begins, from) = of_own_id (is_a forms.Begin) (own_id s) n has in
      (m, sent, (form_is forms.Begin (kind_in m) begins, from))
  is_shown facts.OwnRequests n has =
      let (m, sent, asks, from) = of_own_id is_begin_with_request (own_id s) n has in (m, sent, (asks, from))
  is_shown facts.OutgoingComponents n has =
      let (m, among, any) = where_is (λ (m : Message). true) (sent_to_dtid s) n has in
      let (sent, outgoing) = outgoing_is s n m among in (m, own_at n m sent, outgoing)
  is_shown facts.OutgoingContinues n has =
      let (m, among, goes) = where_is (is_a forms.Continue) (sent_to_dtid s) n has in
      let (sent, outgoing) = outgoing_is s n m among in
      (m, own_at n m sent, (form_is forms.Continue (kind_in m) goes, outgoing.0))
  is_shown facts.Ended n has =
      let (m, sent, ends) = of_own (λ (m : Message). is_same_id s.to (ended_by m)) n has in (m, sent, end_is s.to m ends)
  is_shown facts.Unknown n has = let (m, sent, that, caused) = aborted 1 n has in (m, sent, (that, caused))
  is_shown facts.Refused n has = let (m, sent, that, caused) = aborted 4 n has in (m, sent, (that, caused))
  is_shown (facts.PeerComponents sort) n has =
      let (m, among, sorted) = sorted_is s sort (peer_from_dtid s) n has in
      let (sent, from) = there_is s n m among in (m, peer_at n m sent, (from, sorted))
  is_shown (facts.IncomingComponents sort) n has =
      let (m, among, sorted) = sorted_is s sort (in_order (incoming_by s s.origin)) n has in
      let (inside, incoming) = incoming_is s s.origin n m (in_order_is (incoming_by s s.origin) (n, m) among) in
      let (sent, from) = there_is s n m inside in (m, peer_at n m sent, (from, incoming, sorted))
  is_shown (facts.Before sort) n has = outgoing_or_itself sort s.earlier n has
  is_shown (facts.Whole sort) n has = outgoing_or_itself sort s.all n has
  is_shown (facts.Invoked sort) n has =
      let (m, among, sorted) = sorted_is s sort (in_order (invoked_by s s.origin)) n has in
      let (sent, invoked) = invoked_is s s.origin n m (in_order_is (invoked_by s s.origin) (n, m) among) in
      (m, own_at n m sent, (invoked, sorted))
  is_shown facts.Open n has =
      let (m, sent, still) = of_own (is_open_continue s) n has in (m, sent, open_is s m still)
