-- Each entry before the message at fault that matches a list is listed.
use Rattle.tcap_evidence_laws.proofs.Common.{◌≡◌, ◌⊎◌, inl, inr, ℕ, Bool, true, false, ◌&&◌, List, ◌++◌, Option, Some, None, is_none, refl, sym, subst, Contains, filter, and_from, Contains-append_left, Contains-append_right, Component, Message, Begin, Continue, cause_in, components_in, dtid_in, kind_in, otid_in, Entry, other, ended_by, is_a, is_begin_with_request, is_cause, is_surely_open, filter_has, Sort, is_sort, ShownFact, Numbered, entries_where, sent_before, Scene, is_open_continue, is_same_id, own_id, shown, peer_from_dtid, sent_to_dtid, went_elsewhere, with_sort, with_sort_in, AreSame, AreDifferent, HasSort, IsEntryOf, IsEntryItself, IsOpen, IsSentBefore, IsShown, IsOutgoingTo}
use Rattle.tcap_msg.specs.declared.kind.Kind.TheVariants as forms
use Rattle.tcap_evidence.specs.declared.shown_facts.ShownFact.TheVariants as facts
use Rattle.tcap_evidence_laws.specs.ListedEntries.{is_incoming_or_invoked}
use Rattle.tcap_evidence_laws.proofs.NumberedLists.{map_has, where_has, with_has}
use Rattle.tcap_evidence_laws.proofs.MessageTests.{cause_so, elsewhere_so, end_so, form_so, one_so}
use Rattle.tcap_evidence_laws.proofs.SentBefore.{is_sent}

module _ (s : Scene) where
  there_has : (n : ℕ) (m : Message) → Contains s.peer (n, m) → AreSame s.to (otid_in m) → Contains (peer_from_dtid s) (n, m)
  there_has n m sent from =
      filter_has (λ (k : Numbered). is_same_id s.to (otid_in k.1)) s.peer (n, m) sent (one_so s.to (otid_in m) from)

  outgoing_has : (n : ℕ) (m : Message) → Contains s.own (n, m) → IsOutgoingTo s.to m → Contains (sent_to_dtid s) (n, m)
  outgoing_has n m sent (to, none) =
      filter_has (λ (k : Numbered). is_same_id s.to (dtid_in k.1) && is_none (cause_in k.1)) s.own (n, m) sent
      (and_from (is_same_id s.to (dtid_in m)) (is_none (cause_in m)) (one_so s.to (dtid_in m) to) (rw none refl))

  sorted_has : (sort : Sort) (sent : List Numbered) (n : ℕ) (m : Message) → Contains sent (n, m)
      → HasSort s sort (components_in m) → Contains (with_sort s sort sent) n
  sorted_has sort sent n m has (id, c, is, among, so) =
      rw is (with_has (is_sort s.table id sort) sent n m c has among so)

  pub itself_has : (sort : Sort) (cs : List Component) → HasSort s sort cs → Contains (with_sort_in s sort cs) s.number
  itself_has sort cs (id, c, is, among, so) =
      rw is
      (map_has (λ (c : Component). s.number) (filter (is_sort s.table id sort) cs) c
      (filter_has (is_sort s.table id sort) cs c among so))

  went_so : (m : Message) → kind_in m ≡ forms.Continue → AreSame s.from (otid_in m) → AreDifferent s.to (dtid_in m)
      → went_elsewhere s m ≡ true
  went_so m goes (otid, from, of) (dtid, other, to, peer_from_dtid, apart) =
      rw (from, to) (elsewhere_so otid dtid m goes of (dtid, other, refl, peer_from_dtid, apart))

  open_so : (m : Message) → kind_in m ≡ forms.Continue → IsOpen s m → is_open_continue s m ≡ true
  open_so m goes (own, of, still) =
      rw of (and_from (is_a forms.Continue m) (is_surely_open s.table s.side s.items own) (form_so forms.Continue m goes) still)

-- A Continue has no cause.
no_cause : (m : Message) → kind_in m ≡ forms.Continue → cause_in m ≡ None
no_cause (Continue otid dtid dialogue components) is = refl
no_cause m is = cc

module _ (entries : List Entry) (s : Scene) (own : s.own ≡ sent_before s.side entries s.number)
    (peer : s.peer ≡ sent_before (other s.side) entries s.number) where
  own_in : (n : ℕ) (m : Message) → IsSentBefore entries s.number s.side n m → Contains s.own (n, m)
  own_in n m sent =
      subst (λ (ns : List Numbered). Contains ns (n, m)) (sym own) (is_sent s.side entries s.number n m sent)

  peer_in : (n : ℕ) (m : Message) → IsSentBefore entries s.number (other s.side) n m → Contains s.peer (n, m)
  peer_in n m sent =
      subst (λ (ns : List Numbered). Contains ns (n, m)) (sym peer) (is_sent (other s.side) entries s.number n m sent)

  from_there : (p : Message → Bool) (n : ℕ) (m : Message) → IsSentBefore entries s.number (other s.side) n m
      → p m ≡ true → AreSame s.to (otid_in m) → Contains (entries_where p (peer_from_dtid s)) n
  from_there p n m sent passes from = where_has p (peer_from_dtid s) n m (there_has s n m (peer_in n m sent) from) passes

  to_there : (p : Message → Bool) (n : ℕ) (m : Message) → IsSentBefore entries s.number s.side n m
      → p m ≡ true → IsOutgoingTo s.to m → Contains (entries_where p (sent_to_dtid s)) n
  to_there p n m sent passes outgoing = where_has p (sent_to_dtid s) n m (outgoing_has s n m (own_in n m sent) outgoing) passes

  of_own : (p : Message → Bool) (n : ℕ) (m : Message) → IsSentBefore entries s.number s.side n m → p m ≡ true
      → Contains (entries_where p s.own) n
  of_own p n m sent passes = where_has p s.own n m (own_in n m sent) passes

  of_own_id : (p : Message → Bool) (id : Option (List ℕ)) (n : ℕ) (m : Message)
      → IsSentBefore entries s.number s.side n m → p m ≡ true → AreSame id (otid_in m)
      → Contains (entries_where (λ m. p m && is_same_id id (otid_in m)) s.own) n
  of_own_id p id n m sent passes from =
      of_own (λ (k : Message). p k && is_same_id id (otid_in k)) n m sent
      (and_from (p m) (is_same_id id (otid_in m)) passes (one_so id (otid_in m) from))

  aborted : (cause : ℕ) (n : ℕ) (m : Message) → IsSentBefore entries s.number s.side n m → AreSame s.to (dtid_in m)
      → cause_in m ≡ Some cause
      → Contains (entries_where (λ m. is_same_id s.to (dtid_in m) && is_cause cause (cause_in m)) s.own) n
  aborted cause n m sent to is =
      of_own (λ (k : Message). is_same_id s.to (dtid_in k) && is_cause cause (cause_in k)) n m sent
      (and_from (is_same_id s.to (dtid_in m)) (is_cause cause (cause_in m)) (one_so s.to (dtid_in m) to)
      (cause_so cause (cause_in m) is))

  -- a component in the end's messages to the destination ID, or one of these components of the message itself
  outgoing_or_itself : (sort : Sort) (cs : List Component) (n : ℕ)
      → IsEntryOf entries s (facts.Before sort) n ⊎ IsEntryItself s sort cs n
      → Contains (with_sort s sort (sent_to_dtid s) ++ with_sort_in s sort cs) n
  outgoing_or_itself sort cs n (inl (m, sent, (outgoing, sorted))) =
      Contains-append_left (with_sort s sort (sent_to_dtid s)) (with_sort_in s sort cs) n
      (sorted_has s sort (sent_to_dtid s) n m (outgoing_has s n m (own_in n m sent) outgoing) sorted)
  outgoing_or_itself sort cs n (inr (it, sorted)) =
      Contains-append_right (with_sort s sort (sent_to_dtid s)) (with_sort_in s sort cs) n
      (rw it (itself_has s sort cs sorted))

  pub is_listed : (fact : ShownFact) (n : ℕ) → is_incoming_or_invoked fact ≡ false → IsShown entries s fact n → Contains (shown s fact) n
  is_listed facts.PeerBegins n of (m, sent, (begins, from)) =
      from_there (is_a forms.Begin) n m sent (form_so forms.Begin m begins) from
  is_listed facts.PeerRequests n of (m, sent, (asks, from)) = from_there is_begin_with_request n m sent asks from
  is_listed facts.PeerContinues n of (m, sent, (goes, from)) =
      from_there (is_a forms.Continue) n m sent (form_so forms.Continue m goes) from
  is_listed facts.Used n of (m, sent, from) =
      of_own (λ (k : Message). is_same_id s.from (otid_in k)) n m sent (one_so s.from (otid_in m) from)
  is_listed facts.WentElsewhere n of (m, sent, (goes, from, two)) =
      of_own (went_elsewhere s) n m sent (went_so s m goes from two)
  is_listed facts.Begun n of (m, sent, (begins, from)) =
      of_own_id (is_a forms.Begin) (own_id s) n m sent (form_so forms.Begin m begins) from
  is_listed facts.OwnRequests n of (m, sent, (asks, from)) =
      of_own_id is_begin_with_request (own_id s) n m sent asks from
  is_listed facts.OutgoingComponents n of (m, sent, outgoing) = to_there (λ (k : Message). true) n m sent refl outgoing
  is_listed facts.OutgoingContinues n of (m, sent, (goes, to)) =
      to_there (is_a forms.Continue) n m sent (form_so forms.Continue m goes) (to, no_cause m goes)
  is_listed facts.Ended n of (m, sent, ends) =
      of_own (λ (k : Message). is_same_id s.to (ended_by k)) n m sent (end_so s.to m ends)
  is_listed facts.Unknown n of (m, sent, (to, caused)) = aborted 1 n m sent to caused
  is_listed facts.Refused n of (m, sent, (to, caused)) = aborted 4 n m sent to caused
  is_listed (facts.PeerComponents sort) n of (m, sent, (from, sorted)) =
      sorted_has s sort (peer_from_dtid s) n m (there_has s n m (peer_in n m sent) from) sorted
  is_listed (facts.IncomingComponents sort) n of is = cc
  is_listed (facts.Before sort) n of either = outgoing_or_itself sort s.earlier n either
  is_listed (facts.Whole sort) n of either = outgoing_or_itself sort s.all n either
  is_listed (facts.Invoked sort) n of is = cc
  is_listed facts.Open n of (m, sent, (goes, still)) = of_own (is_open_continue s) n m sent (open_so s m goes still)
