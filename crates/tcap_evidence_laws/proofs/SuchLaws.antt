-- The messages in a list of a scene match it.
use Rattle.tcap_evidence_laws.proofs.Common.{◌≡◌, ◌⊎◌, inl, inr, ℕ, ℤ, Bool, true, false, cond, ◌&&◌, List, [], ◌∷◌, ◌++◌, map, Option, Some, None, is_none, refl, sym, Contains, filter, find, option_to_list, and_parts, Contains-append_cases, Component, Message, cause_in, components_in, dialogue_in, dtid_in, kind_in, otid_in, is_response, none_is, contains_first, is_a, is_continue_to, is_surely_open, filter_is, find_has, has_later, has_not, HalfOrigin, Accepted, Begun, Nowhere, Refused, Unanswered, Sort, is_sort, Numbered, Scene, has_request, incoming_by, invoked_by, is_open_continue, is_same_id, own_begin, since_first, peer_from_dtid, to_half, sent_to_dtid, went_elsewhere, with_sort, with_sort_in, AreSame, AreDifferent, HasSort, IsEntryItself, IsOpen, IsOutgoingTo}
use Rattle.tcap_msg.specs.declared.kind.Kind.TheVariants as forms
use Rattle.tcap_evidence_laws.specs.ListedEntries.{IsIncomingFor, IsInvokedIn}
use Rattle.tcap_evidence_laws.proofs.NumberedLists.{map_is, with_is}
use Rattle.tcap_evidence_laws.proofs.MessageTests.{elsewhere_is, form_is, one_is}

-- ---- lists

optional_is : {A : Type 0} (o : Option A) (x : A) → Contains (option_to_list o) x → o ≡ Some x
optional_is None x has = has_not x has
optional_is (Some y) x has = by (contains_first y [] x has)
  where
    by : (y ≡ x) ⊎ Contains [] x → Some y ≡ Some x
    by (inl same) = cc
    by (inr none) = has_not x none

since_had : {A : Type 0} (p : A → Bool) (xs : List A) (x : A) → Contains (since_first p xs) x → Contains xs x
since_had p [] x has = has
since_had {A} p (y ∷ ys) x has = by (p y) has (since_had p ys x)
  where
    by : (b : Bool) → Contains (cond b (y ∷ ys) (since_first p ys)) x → (Contains (since_first p ys) x → Contains ys x)
        → Contains (y ∷ ys) x
    by true all rest = all
    by false some rest = has_later y ys x (rest some)

module _ (s : Scene) where
  -- ---- the messages of the scene's lists

  pub there_is : (n : ℕ) (m : Message) → Contains (peer_from_dtid s) (n, m) → Contains s.peer (n, m) × AreSame s.to (otid_in m)
  there_is n m has =
      let (sent, that) = filter_is (λ (k : Numbered). is_same_id s.to (otid_in k.1)) s.peer (n, m) has in
      (sent, one_is s.to (otid_in m) that)

  pub outgoing_is : (n : ℕ) (m : Message) → Contains (sent_to_dtid s) (n, m) → Contains s.own (n, m) × IsOutgoingTo s.to m
  outgoing_is n m has =
      let (sent, both) =
      filter_is (λ (k : Numbered). is_same_id s.to (dtid_in k.1) && is_none (cause_in k.1)) s.own (n, m) has in
      let (that, none) = and_parts (is_same_id s.to (dtid_in m)) (is_none (cause_in m)) both in
      (sent, (one_is s.to (dtid_in m) that, none_is (cause_in m) none))

  -- a Continue to the half
  half_is : (n : ℕ) (m : Message) → Contains (to_half s) (n, m) → Contains (peer_from_dtid s) (n, m) × IsIncomingFor s.half m
  half_is n m has = by s.half refl
    where
      by : (o : Option (List ℕ)) → s.half ≡ o → Contains (peer_from_dtid s) (n, m) × IsIncomingFor s.half m
      by None is = let none : Contains [] (n, m) = rw is at has in has_not (n, m) none
      by (Some own) is =
          let some : Contains (filter (λ k. is_continue_to own k.1) (peer_from_dtid s)) (n, m) = rw is at has in
          let (from, goes) = filter_is (λ (k : Numbered). is_continue_to own k.1) (peer_from_dtid s) (n, m) some in
          let (on, to) = and_parts (is_a forms.Continue m) (is_same_id (Some own) (dtid_in m)) goes in
          let one : AreSame s.half (dtid_in m) = rw is (one_is (Some own) (dtid_in m) to) in
          (from, inr (form_is forms.Continue (kind_in m) on, one))

  first_is : (n : ℕ) (m : Message) → Contains (option_to_list (find (λ k. is_a forms.Begin k.1) (peer_from_dtid s))) (n, m)
      → Contains (peer_from_dtid s) (n, m) × IsIncomingFor s.half m
  first_is n m has =
      let (from, begins) =
      find_has (λ (k : Numbered). is_a forms.Begin k.1) (peer_from_dtid s) (n, m)
      (optional_is (find (λ (k : Numbered). is_a forms.Begin k.1) (peer_from_dtid s)) (n, m) has) in
      (from, inl (form_is forms.Begin (kind_in m) begins))

  accepted_is : (n : ℕ) (m : Message)
      → Contains (option_to_list (find (λ k. is_a forms.Begin k.1) (peer_from_dtid s)) ++ to_half s) (n, m)
      → Contains (peer_from_dtid s) (n, m) × IsIncomingFor s.half m
  accepted_is n m has =
      by (Contains-append_cases (option_to_list (find (λ (k : Numbered). is_a forms.Begin k.1) (peer_from_dtid s))) (to_half s)
      (n, m) has)
    where
      by : Contains (option_to_list (find (λ k. is_a forms.Begin k.1) (peer_from_dtid s))) (n, m) ⊎ Contains (to_half s) (n, m)
          → Contains (peer_from_dtid s) (n, m) × IsIncomingFor s.half m
      by (inl first) = first_is n m first
      by (inr later) = half_is n m later

  -- a message that the half heard
  pub incoming_is : (origin : HalfOrigin) (n : ℕ) (m : Message) → Contains (incoming_by s origin) (n, m)
      → Contains (peer_from_dtid s) (n, m) × IsIncomingFor s.half m
  incoming_is Accepted n m has = accepted_is n m has
  incoming_is Refused n m has = accepted_is n m has
  incoming_is Begun n m has = half_is n m (by (has_request (own_begin s)) has)
    where
      by : (b : Bool)
          → Contains (cond b (since_first (λ k. is_response (dialogue_in k.1)) (to_half s)) (to_half s)) (n, m)
          → Contains (to_half s) (n, m)
      by true some = since_had (λ (k : Numbered). is_response (dialogue_in k.1)) (to_half s) (n, m) some
      by false all = all
  incoming_is Unanswered n m has = has_not (n, m) has
  incoming_is Nowhere n m has = has_not (n, m) has

  -- a message that carries the half's invocations
  begin_is : (n : ℕ) (m : Message) → Contains (option_to_list (own_begin s)) (n, m)
      → Contains s.own (n, m) × IsInvokedIn s.half s.to m
  begin_is n m has =
      let (sent, both) =
      find_has (λ (k : Numbered). is_a forms.Begin k.1 && is_same_id s.half (otid_in k.1)) s.own (n, m)
      (optional_is (own_begin s) (n, m) has) in
      let (begins, that) = and_parts (is_a forms.Begin m) (is_same_id s.half (otid_in m)) both in
      (sent, inr (form_is forms.Begin (kind_in m) begins, one_is s.half (otid_in m) that))

  invoked_outgoing : (n : ℕ) (m : Message) → Contains (sent_to_dtid s) (n, m)
      → Contains s.own (n, m) × IsInvokedIn s.half s.to m
  invoked_outgoing n m has = let (sent, outgoing) = outgoing_is n m has in (sent, inl outgoing)

  begun_is : (n : ℕ) (m : Message) → Contains (option_to_list (own_begin s) ++ sent_to_dtid s) (n, m)
      → Contains s.own (n, m) × IsInvokedIn s.half s.to m
  begun_is n m has = by (Contains-append_cases (option_to_list (own_begin s)) (sent_to_dtid s) (n, m) has)
    where
      by : Contains (option_to_list (own_begin s)) (n, m) ⊎ Contains (sent_to_dtid s) (n, m)
          → Contains s.own (n, m) × IsInvokedIn s.half s.to m
      by (inl first) = begin_is n m first
      by (inr later) = invoked_outgoing n m later

  pub invoked_is : (origin : HalfOrigin) (n : ℕ) (m : Message) → Contains (invoked_by s origin) (n, m)
      → Contains s.own (n, m) × IsInvokedIn s.half s.to m
  invoked_is Begun n m has = begun_is n m has
  invoked_is Unanswered n m has = begun_is n m has
  invoked_is origin n m has = invoked_outgoing n m has

  -- ---- components

  pub sorted_is : (sort : Sort) (sent : List Numbered) (n : ℕ) → Contains (with_sort s sort sent) n
      → (m : Message) × Contains sent (n, m) × HasSort s sort (components_in m)
  sorted_is sort sent n has = by s.id refl
    where
      by : (o : Option ℤ) → s.id ≡ o → (m : Message) × Contains sent (n, m) × HasSort s sort (components_in m)
      by None is = let none : Contains [] n = rw is at has in has_not n none
      by (Some id) is =
          let (m, c, peer_from_dtid, among, so) = with_is (is_sort s.table id sort) sent n (rw is at has) in
          (m, peer_from_dtid, (id, c, is, among, so))

  pub itself_is : (sort : Sort) (cs : List Component) (n : ℕ) → Contains (with_sort_in s sort cs) n → IsEntryItself s sort cs n
  itself_is sort cs n has = by s.id refl
    where
      by : (o : Option ℤ) → s.id ≡ o → IsEntryItself s sort cs n
      by None is = let none : Contains [] n = rw is at has in has_not n none
      by (Some id) is =
          let some : Contains (map (λ c. s.number) (filter (is_sort s.table id sort) cs)) n = rw is at has in
          let (c, kept, same) = map_is (λ (c : Component). s.number) (filter (is_sort s.table id sort) cs) n some in
          let (among, so) = filter_is (is_sort s.table id sort) cs c kept in (sym same, (id, c, is, among, so))

  -- ---- tests of a message

  pub went_is : (m : Message) → went_elsewhere s m ≡ true
      → (kind_in m ≡ forms.Continue) × AreSame s.from (otid_in m) × AreDifferent s.to (dtid_in m)
  went_is m is = by s.from s.to refl refl
    where
      by : (from to : Option (List ℕ)) → s.from ≡ from → s.to ≡ to
          → (kind_in m ≡ forms.Continue) × AreSame s.from (otid_in m) × AreDifferent s.to (dtid_in m)
      by None to of peer_from_dtid = let bad : false ≡ true = rw of at is in cc
      by (Some otid) None of peer_from_dtid = let bad : false ≡ true = rw (of, peer_from_dtid) at is in cc
      by (Some otid) (Some dtid) of peer_from_dtid =
          let (goes, from, two) = elsewhere_is otid dtid m (rw (of, peer_from_dtid) at is) in
          rw (of, peer_from_dtid) (goes, (otid, refl, from), two)

  pub open_is : (m : Message) → is_open_continue s m ≡ true → (kind_in m ≡ forms.Continue) × IsOpen s m
  open_is m is = by (otid_in m) refl
    where
      by : (o : Option (List ℕ)) → otid_in m ≡ o → (kind_in m ≡ forms.Continue) × IsOpen s m
      by None of =
          let both : (is_a forms.Continue m && false) ≡ true = rw of at is in
          let (goes, bad) = and_parts (is_a forms.Continue m) false both in cc
      by (Some own) of =
          let both : (is_a forms.Continue m && is_surely_open s.table s.side s.items own) ≡ true = rw of at is in
          let (goes, still) = and_parts (is_a forms.Continue m) (is_surely_open s.table s.side s.items own) both in
          (form_is forms.Continue (kind_in m) goes, (own, of, still))
