-- The given invocations are the Invokes of their entries, one for each entry of a list of Invokes.
use Rattle.tcap_evidence_laws.proofs.Common.{◌≡◌, ◌⊎◌, inl, inr, ℕ, ℤ, Bool, true, false, cond, ◌&&◌, List, [], ◌∷◌, ◌++◌, map, Option, Some, None, Result, Ok, refl, sym, ap, subst, ◌∙◌, Contains, filter, slice_get, map-append, Component, Invoke, ReturnResult, ReturnError, Reject, Message, components_in, Side, Entry, other, Table, Reason, Item, Sent, item_of, contains_first, is_invoke_id, Kind, Refutation, has_not, subject, subject_by, subject_of, is_sort, Any, Subject, flat_map_is, ShownFact, component_at, scene_of, invokes_listed, Numbered, entries_with, in_order, sent_before, invocations_at, Scene, incoming_by, invoked_by, shown, peer_from_dtid, with_sort, component_with, items_before, scene_at}
use Rattle.std.specs.List.{flat_map}
use Rattle.tcap_refute.specs.declared.kind.Kind.TheVariants as kinds
use Rattle.tcap_faults.specs.declared.component.component_sort.Sort.TheVariants as sorts
use Rattle.tcap_faults.proofs.story_laws.InvokeListLaws.{id_same}
use Rattle.tcap_evidence.specs.declared.operations.Invocation.{Invocation}
use Rattle.tcap_evidence.specs.declared.shown_facts.ShownFact.TheVariants as facts
use Rattle.tcap_evidence_laws.specs.GivenLists.{IsInvoke}
use Rattle.tcap_evidence.specs.Operations.{answers, compared, invocation_in, invocations_in, invocations_of, rejects_answer}
use Rattle.tcap_evidence.specs.EvidenceWords.{sender_of}
use Rattle.tcap_evidence_laws.proofs.OrderLaws.{in_order_is}
use Rattle.tcap_evidence_laws.proofs.SentBefore.{was_sent}
use Rattle.tcap_evidence_laws.proofs.SuchLaws.{incoming_is, invoked_is, there_is}

abbrev entries_of : List Invocation → List ℕ
entries_of is = map (λ (i : Invocation). i.entry) is

-- ---- the invocations in messages

module _ (table : Table) (id : ℤ) where
  -- one for each Invoke of the ID in a message
  in_components : (number : ℕ) (cs : List Component) → entries_of (flat_map (invocation_in id number) cs)
      ≡ map (λ (c : Component). number) (filter (is_sort table id (sorts.Invokes Any)) cs)
  in_components number [] = refl
  in_components number (Invoke other linked code parameter ∷ cs) = by (is_invoke_id id other) (in_components number cs)
    where
      it : Invocation
      it = record { entry = number; code = code; linked = linked }

      rest : List Invocation
      rest = flat_map (invocation_in id number) cs

      kept : List Component
      kept = filter (is_sort table id (sorts.Invokes Any)) cs

      by : (b : Bool) → entries_of rest ≡ map (λ (c : Component). number) kept
          → entries_of (cond b (it ∷ []) [] ++ rest)
          ≡ map (λ (c : Component). number) (cond (b && true) (Invoke other linked code parameter ∷ kept) kept)
      by true same = ap (λ (ns : List ℕ). number ∷ ns) same
      by false same = same
  in_components number (ReturnResult last other body ∷ cs) = in_components number cs
  in_components number (ReturnError other code parameter ∷ cs) = in_components number cs
  in_components number (Reject other problem ∷ cs) = in_components number cs

  -- one for each Invoke of the ID in all messages
  in_messages : (sent : List Numbered)
      → entries_of (flat_map (λ (n : Numbered). flat_map (invocation_in id n.0) (components_in n.1)) sent)
      ≡ entries_with (is_sort table id (sorts.Invokes Any)) sent
  in_messages [] = refl
  in_messages (n ∷ sent) =
      let first = flat_map (invocation_in id n.0) (components_in n.1) in
      let others = flat_map (λ (k : Numbered). flat_map (invocation_in id k.0) (components_in k.1)) sent in
      map-append (λ (i : Invocation). i.entry) first others
      ∙ ap (λ (ns : List ℕ). ns ++ entries_of others) (in_components n.0 (components_in n.1))
      ∙ ap (λ (ns : List ℕ). map (λ (c : Component). n.0) (filter (is_sort table id (sorts.Invokes Any)) (components_in n.1)) ++ ns)
      (in_messages sent)

-- A found invocation, with the message of its entry and its Invoke.
record IsFound (sent : List Numbered) (asked : Option ℤ) (i : Invocation) : Type 0 where
  message : Message
  id : ℤ
  parameter : Option (List ℕ)
  among : Contains sent (i.entry, message)
  of : asked ≡ Some id
  has : Contains (components_in message) (Invoke id i.linked i.code parameter)

one_found : (id : ℤ) (number : ℕ) (m : Message) (sent : List Numbered) (i : Invocation) → Contains sent (number, m)
    → (c : Component) → Contains (components_in m) c → Contains (invocation_in id number c) i → IsFound sent (Some id) i
one_found id number m sent i among (Invoke other linked code parameter) has inside = by (is_invoke_id id other) refl inside
  where
    it : Invocation
    it = record { entry = number; code = code; linked = linked }

    same : it ≡ i → id ≡ other → IsFound sent (Some id) i
    same is ids =
        let number_is : number ≡ i.entry = ap (λ (j : Invocation). j.entry) is in
        record {
          message = m;
          id = id;
          parameter = parameter;
          among = subst (λ (n : ℕ). Contains sent (n, m)) number_is among;
          of = refl;
          has = subst (λ (j : Invocation). Contains (components_in m) (Invoke id j.linked j.code parameter)) is
              (subst (λ (x : ℤ). Contains (components_in m) (Invoke x linked code parameter)) (sym ids) has);
        }

    by : (b : Bool) → is_invoke_id id other ≡ b → Contains (cond b (it ∷ []) []) i → IsFound sent (Some id) i
    by true of peer_from_dtid = here (contains_first it [] i peer_from_dtid)
      where
        here : (it ≡ i) ⊎ Contains [] i → IsFound sent (Some id) i
        here (inl is) = same is (id_same id other of)
        here (inr none) = has_not i none
    by false of peer_from_dtid = has_not i peer_from_dtid
one_found id number m sent i among (ReturnResult last other body) has inside = has_not i inside
one_found id number m sent i among (ReturnError other code parameter) has inside = has_not i inside
one_found id number m sent i among (Reject other problem) has inside = has_not i inside

found : (asked : Option ℤ) (sent : List Numbered) (i : Invocation) → Contains (invocations_in asked sent) i → IsFound sent asked i
found None sent i has = has_not i has
found (Some id) sent i has =
    let ((number, m), among, inside) =
    flat_map_is (λ (n : Numbered). flat_map (invocation_in id n.0) (components_in n.1)) sent i has in
    let (c, in_it, it) = flat_map_is (invocation_in id number) (components_in m) i inside in
    one_found id number m sent i among c in_it it

-- ---- the invocations for a kind

module _ (s : Scene) where
  listed_in : (sent : List Numbered) → entries_of (invocations_in s.id sent) ≡ with_sort s (sorts.Invokes Any) sent
  listed_in sent = by s.id refl
    where
      by : (o : Option ℤ) → s.id ≡ o → entries_of (invocations_in s.id sent) ≡ with_sort s (sorts.Invokes Any) sent
      by None is = rw is refl
      by (Some id) is = rw is (in_messages s.table id sent)

  none_in : (o : Option ℤ) → invocations_in o [] ≡ []
  none_in None = refl
  none_in (Some id) = refl

  -- The list is that of the messages whose invocations are given.
  abbrev IsOf : ShownFact → List Numbered → Type 0
  IsOf fact sent =
      (facts.PeerComponents (sorts.Invokes Any) ≡ fact) × (sent ≡ peer_from_dtid s)
      ⊎ (facts.IncomingComponents (sorts.Invokes Any) ≡ fact) × (sent ≡ in_order (incoming_by s s.origin))
      ⊎ (facts.Invoked (sorts.Invokes Any) ≡ fact) × (sent ≡ in_order (invoked_by s s.origin))

  is_of : (kind : Kind) (c : Option Component) (fact : ShownFact) → invokes_listed kind c ≡ Some fact
      → IsOf fact (compared s kind c)
  is_of kinds.WrongOperation c fact is = by (answers c) is
    where
      by : (b : Bool) → cond b (Some (facts.PeerComponents (sorts.Invokes Any))) None ≡ Some fact → IsOf fact (cond b (peer_from_dtid s) [])
      by true is = inl (let it : facts.PeerComponents (sorts.Invokes Any) ≡ fact = cc in it, refl)
      by false is = cc
  is_of kinds.InvokeIdBusy c fact is = inr (inr (let it : facts.Invoked (sorts.Invokes Any) ≡ fact = cc in it, refl))
  is_of kinds.BadLink c fact is = inr (inl (let it : facts.IncomingComponents (sorts.Invokes Any) ≡ fact = cc in it, refl))
  is_of kinds.AnsweredAlready c fact is = inr (inl (let it : facts.IncomingComponents (sorts.Invokes Any) ≡ fact = cc in it, refl))
  is_of kinds.RejectNotAllowed c fact is = by (rejects_answer c) is
    where
      by : (b : Bool) → Some (cond b (facts.Invoked (sorts.Invokes Any)) (facts.IncomingComponents (sorts.Invokes Any))) ≡ Some fact
          → IsOf fact (in_order (cond b (invoked_by s s.origin) (incoming_by s s.origin)))
      by true is = inr (inr (let it : facts.Invoked (sorts.Invokes Any) ≡ fact = cc in it, refl))
      by false is = inr (inl (let it : facts.IncomingComponents (sorts.Invokes Any) ≡ fact = cc in it, refl))
  is_of kind c fact is = cc

  given_are : (fact : ShownFact) (sent : List Numbered) → IsOf fact sent → entries_of (invocations_in s.id sent) ≡ shown s fact
  given_are fact sent (inl (is, of)) = rw (of, ← is) (listed_in (peer_from_dtid s))
  given_are fact sent (inr (inl (is, of))) = rw (of, ← is) (listed_in (in_order (incoming_by s s.origin)))
  given_are fact sent (inr (inr (is, of))) = rw (of, ← is) (listed_in (in_order (invoked_by s s.origin)))

  no_list : (kind : Kind) (c : Option Component) → invokes_listed kind c ≡ None → invocations_of s kind c ≡ []
  no_list kinds.WrongOperation c is = by (answers c) is
    where
      by : (b : Bool) → cond b (Some (facts.PeerComponents (sorts.Invokes Any))) None ≡ None
          → invocations_in s.id (cond b (peer_from_dtid s) []) ≡ []
      by true is = cc
      by false is = none_in s.id
  no_list kinds.InvokeIdBusy c is = cc
  no_list kinds.BadLink c is = cc
  no_list kinds.AnsweredAlready c is = cc
  no_list kinds.RejectNotAllowed c is = cc
  no_list kind c is = none_in s.id

  -- ---- the end that sent them

  module _ (entries : List Entry) (own : s.own ≡ sent_before s.side entries s.number)
      (peer : s.peer ≡ sent_before (other s.side) entries s.number) where
    invoke_of : (sender : Side) (sent : List Numbered) (i : Invocation) (f : IsFound sent s.id i)
        → Contains (sent_before sender entries s.number) (i.entry, f.message) → IsInvoke entries s.number sender s.id i
    invoke_of sender sent i f peer_from_dtid = record {
      message = f.message;
      id = f.id;
      parameter = f.parameter;
      sent = was_sent sender entries s.number i.entry f.message peer_from_dtid;
      of = f.of;
      has = f.has;
    }

    each_is : (fact : ShownFact) (sent : List Numbered) → IsOf fact sent → (i : Invocation) → Contains (invocations_in s.id sent) i
        → IsInvoke entries s.number (sender_of s.side fact) s.id i
    each_is fact sent (inl (is, of)) i has =
        let f : IsFound (peer_from_dtid s) s.id i = found s.id (peer_from_dtid s) i (rw of at has) in
        rw (← is) (invoke_of (other s.side) (peer_from_dtid s) i f
        (subst (λ (ns : List Numbered). Contains ns (i.entry, f.message)) peer (there_is s i.entry f.message f.among).0))
    each_is fact sent (inr (inl (is, of))) i has =
        let incoming = in_order (incoming_by s s.origin) in
        let f : IsFound incoming s.id i = found s.id incoming i (rw of at has) in
        let among = in_order_is (incoming_by s s.origin) (i.entry, f.message) f.among in
        let inside = (incoming_is s s.origin i.entry f.message among).0 in
        rw (← is) (invoke_of (other s.side) incoming i f
        (subst (λ (ns : List Numbered). Contains ns (i.entry, f.message)) peer (there_is s i.entry f.message inside).0))
    each_is fact sent (inr (inr (is, of))) i has =
        let invoked = in_order (invoked_by s s.origin) in
        let f : IsFound invoked s.id i = found s.id invoked i (rw of at has) in
        let among = in_order_is (invoked_by s s.origin) (i.entry, f.message) f.among in
        rw (← is) (invoke_of s.side invoked i f
        (subst (λ (ns : List Numbered). Contains ns (i.entry, f.message)) own (invoked_is s s.origin i.entry f.message among).0))

-- ---- the invocations for an entry

module _ (of_one : Bool) (table : Table) (side : Side) (entries : List Entry) (r : Refutation) (sender : Side) (m : Message)
    (is : slice_get (map item_of entries) r.entry ≡ Some (Ok (Sent sender m))) where
  abbrev about : Subject
  about = subject of_one table side (items_before entries r.entry) m r.kind

  abbrev scene : Scene
  scene = scene_at of_one table side entries r.entry m r.kind

  abbrev component : Option Component
  component = component_with of_one table side entries r.entry m r.kind

  -- the given invocations are those of the message
  given : invocations_at of_one table side entries r ≡ invocations_of scene r.kind component
  given =
      sym (from (invocations_at of_one table side entries r) refl)
      ∙ ap (λ (a : Subject). invocations_of (scene_of table side entries r.entry m r.kind a) r.kind
      (component_at a.component (components_in m))) about_is
    where
      from : (g : List Invocation) → invocations_at of_one table side entries r ≡ g
          → invocations_of (scene_of table side entries r.entry m r.kind (subject_of of_one table side entries r)) r.kind
          (component_at (subject_of of_one table side entries r).component (components_in m)) ≡ g
      from g of = rw is at of

      about_is : subject_of of_one table side entries r ≡ about
      about_is =
          ap (λ (o : Option (Result Item Reason)). subject_by of_one table side (items_before entries r.entry) o r.kind) is

  pub are_listed : (fact : ShownFact) → invokes_listed r.kind component ≡ Some fact
      → map (λ i. i.entry) (invocations_at of_one table side entries r) ≡ shown scene fact
  are_listed fact listed =
      ap entries_of given ∙ given_are scene fact (compared scene r.kind component) (is_of scene r.kind component fact listed)

  pub is_invoke : (fact : ShownFact) (i : Invocation) → invokes_listed r.kind component ≡ Some fact
      → Contains (invocations_at of_one table side entries r) i → IsInvoke entries r.entry (sender_of side fact) scene.id i
  is_invoke fact i listed has =
      each_is scene entries refl refl fact (compared scene r.kind component) (is_of scene r.kind component fact listed) i
      (subst (λ (l : List Invocation). Contains l i) given has)

  pub none_given : invokes_listed r.kind component ≡ None → invocations_at of_one table side entries r ≡ []
  none_given listed = given ∙ no_list scene r.kind component listed
