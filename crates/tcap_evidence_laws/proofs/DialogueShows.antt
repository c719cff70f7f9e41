-- The lists show F9: a dialogue portion that does not fit the dialogue.
use Rattle.tcap_evidence_laws.proofs.Common.{◌≡◌, ◌⊎◌, inl, inr, ℕ, ◌<◌, arith, Bool, true, false, cond, not, ◌&&◌, ◌||◌, List, [], ◌∷◌, Option, Some, None, is_some, refl, sym, ap, subst, ◌∙◌, ◌==◌, find, and_from, and_parts, not-true, or_cases, or_parts, eqb-true, Dialogue, Message, Begin, Continue, Abort, dialogue_in, otid_in, Side, Entry, is_response, Table, Item, peer_sent_from, has_a, is_a, sent_by, is_begin_with_request, option_or, HalfOrigin, Accepted, Refused, Begun, Unanswered, count, is_nothing, goes_from_other, is_wrong_half, may_not_send, HalfMessages, begun_from, continued_to, half_by, half_of, incoming_continues, began, begin_from, is_request_of, outgoing, was_refused, count_more, one, Scene, is_same_id, own_id, HasKind, ListsNone, ListsOne, items_before, count_shown, scene_at, subject}
use Rattle.std.proofs.lemmas.Bool.{not-false}
use Rattle.tcap_end.specs.Dialogue.{is_user_abort}
use Rattle.tcap_faults.specs.HalfKinds.{is_provider_abort, is_wrong_in_abort, is_wrong_dialogue, is_wrong_in_continue}
use Rattle.tcap_faults.proofs.list_laws.CountLaws.{count_weaker}
use Rattle.tcap_faults.proofs.transaction_laws.TangledLaws.{plain_to}
use Rattle.tcap_evidence_laws.specs.HalfEvidence.{MisfitsAccepted, MisfitsBegun, ShowsWrongDialogue}
use Rattle.tcap_evidence_laws.proofs.CountedLaws.{scene_over, scene_to}
use Rattle.tcap_evidence_laws.proofs.HasKindLaws.{either, further_so, goes_so, half_so}
use Rattle.tcap_evidence_laws.proofs.ListsLaws.{none_there, none_outgoing, one_there, one_outgoing}
use Rattle.tcap_evidence_laws.proofs.SceneLists.{IsOver, IsTo}
use Rattle.tcap_evidence_laws.proofs.NumberedLists.{where_counted}
use Rattle.tcap_evidence_laws.proofs.HalfScene.{begun_one, goes_on, requests_are, request_begins}
use Rattle.tcap_parts.specs.declared.dialogue.Dialogue.TheVariants as dialogues
use Rattle.tcap_msg.specs.declared.kind.Kind.TheVariants as forms
use Rattle.tcap_refute.specs.declared.kind.Kind.TheVariants as kinds
use Rattle.tcap_evidence.specs.declared.shown_facts.ShownFact.TheVariants as facts

-- A stricter test counts fewer messages, if the first one that passes the other test fails it.
count_fewer : (p q : Message → Bool) (ms : List Message) (m : Message) → ((x : Message) → q x ≡ true → p x ≡ true)
    → find p ms ≡ Some m → q m ≡ false → count q ms < count p ms
count_fewer p q [] m weaker is apart = cc
count_fewer p q (x ∷ ms) m weaker is apart = by (p x) refl (q x) refl is (λ rest. count_fewer p q ms m weaker rest apart)
  where
    by : (b : Bool) → p x ≡ b → (c : Bool) → q x ≡ c → cond b (Some x) (find p ms) ≡ Some m
        → (find p ms ≡ Some m → count q ms < count p ms) → count q (x ∷ ms) < count p (x ∷ ms)
    by true so false not_so first rest =
        let here : one (p x) ≡ 1 = ap one so in
        let none : one (q x) ≡ 0 = ap one not_so in
        omega (arith, count_more p x ms, count_more q x ms, here, none, count_weaker q p ms weaker)
    by true so true also first rest =
        let same : x ≡ m = cc in let bad : true ≡ false = sym also ∙ ap q same ∙ apart in cc
    by false not_so true also first rest = let bad : true ≡ false = sym (weaker x also) ∙ not_so in cc
    by false not_so false none first rest =
        let here : one (p x) ≡ 0 = ap one not_so in
        let none_here : one (q x) ≡ 0 = ap one none in
        omega (arith, count_more p x ms, count_more q x ms, here, none_here, rest first)

-- ---- the dialogue portion

module _ (side : Side) (items : List Item) (s : Scene) (id : List ℕ) (of : IsTo side items id s)
    (few : count (is_a forms.Begin) (peer_sent_from side id items) < 2) where
  abbrev first : Option Message
  first = find (is_a forms.Begin) (peer_sent_from side id items)

  abbrev has_continue : Bool
  has_continue = has_a forms.Continue (outgoing side id items)

  request_there : is_request_of first ≡ true → ListsOne s facts.PeerRequests
  request_there asks =
      one_there side items s id of is_begin_with_request (requests_are side items s id of few first refl ∙ asks)

  no_request_there : is_request_of first ≡ false → ListsNone s facts.PeerRequests
  no_request_there asks =
      none_there side items s id of is_begin_with_request (requests_are side items s id of few first refl ∙ asks)

  -- A Continue or an End of a half whose Begin the peer sent.
  accepted_going : (d : Option Dialogue) → is_wrong_in_continue (not has_continue) (is_request_of first) d ≡ true
      → ((is_some d ≡ true) × ListsOne s facts.OutgoingContinues)
      ⊎ ((is_response d ≡ false) × ListsNone s facts.OutgoingContinues × ListsOne s facts.PeerRequests)
  accepted_going d is =
      by has_continue refl (or_cases (not (not has_continue) && is_some d) (not has_continue && is_request_of first && not (is_response d)) is)
    where
      by : (outgoing_some : Bool) → has_continue ≡ outgoing_some
          → ((not (not outgoing_some) && is_some d) ≡ true)
          ⊎ ((not outgoing_some && is_request_of first && not (is_response d)) ≡ true)
          → ((is_some d ≡ true) × ListsOne s facts.OutgoingContinues)
          ⊎ ((is_response d ≡ false) × ListsNone s facts.OutgoingContinues × ListsOne s facts.PeerRequests)
      by true some (inl so) = inl (so, one_outgoing side items s id of (is_a forms.Continue) some)
      by true some (inr so) = cc
      by false none (inl so) = cc
      by false none (inr so) =
          let (asks, apart) = and_parts (is_request_of first) (not (is_response d)) so in
          inr (
            not-true (is_response d) apart,
            none_outgoing side items s id of (is_a forms.Continue) none,
            request_there asks,
          )

  -- An Abort of a half whose Begin the peer sent.
  accepted_aborting : (d : Option Dialogue) → is_wrong_in_abort (not has_continue) (is_request_of first) d ≡ true
      → ((is_response d ≡ true) × ListsOne s facts.OutgoingContinues)
      ⊎ ((is_user_abort d ≡ true) × ListsNone s facts.PeerRequests)
  accepted_aborting d is =
      by has_continue refl (or_cases (not (not has_continue) && is_response d) (is_user_abort d && not (is_request_of first)) is)
    where
      by : (outgoing_some : Bool) → has_continue ≡ outgoing_some
          → ((not (not outgoing_some) && is_response d) ≡ true) ⊎ ((is_user_abort d && not (is_request_of first)) ≡ true)
          → ((is_response d ≡ true) × ListsOne s facts.OutgoingContinues)
          ⊎ ((is_user_abort d ≡ true) × ListsNone s facts.PeerRequests)
      by true some (inl so) = inl (so, one_outgoing side items s id of (is_a forms.Continue) some)
      by false none (inl so) = cc
      by outgoing_some is_so (inr so) =
          let (aborts, asks_none) = and_parts (is_user_abort d) (not (is_request_of first)) so in
          inr (aborts, no_request_there (not-true (is_request_of first) asks_none))

  accepted_shows : (h : HalfMessages) → h.origin ≡ Accepted → h.begin ≡ first → (m : Message)
      → is_wrong_dialogue side items id m h ≡ true → MisfitsAccepted s m
  accepted_shows h origin begin (Abort dtid reason) is =
      accepted_aborting (dialogue_in (Abort dtid reason)) (rw (origin, begin) at is)
  accepted_shows h origin begin m is = accepted_going (dialogue_in m) (rw (origin, begin) at is)

  -- A half whose Begin the end sent.
  module _ (own : List ℕ) (own_is : own_id s ≡ Some own) (begun : began side own items ≡ true) where
    fewer_requests : is_request_of (begin_from side own items) ≡ false → count_shown s facts.OwnRequests < count_shown s facts.Begun
    fewer_requests none = by (begin_from side own items) refl begun none
      where
        begins : Message → Bool
        begins x = is_a forms.Begin x && is_same_id (own_id s) (otid_in x)

        asks : Message → Bool
        asks x = is_begin_with_request x && is_same_id (own_id s) (otid_in x)

        weaker : (x : Message) → asks x ≡ true → begins x ≡ true
        weaker x so =
            let (requests, from) = and_parts (is_begin_with_request x) (is_same_id (own_id s) (otid_in x)) so in
            and_from (is_a forms.Begin x) (is_same_id (own_id s) (otid_in x)) (request_begins x requests) from

        found_so : (b : Message) → begin_from side own items ≡ Some b → find begins (sent_by side items) ≡ Some b
        found_so b found =
            ap (λ (o : Option (List ℕ)). find (λ (x : Message). is_a forms.Begin x && is_same_id o (otid_in x)) (sent_by side items)) own_is
            ∙ found

        by : (o : Option Message) → begin_from side own items ≡ o → is_some o ≡ true → is_request_of o ≡ false
            → count_shown s facts.OwnRequests < count_shown s facts.Begun
        by None found some asks_none = cc
        by (Some b) found some asks_none =
            let apart : asks b ≡ false = rw asks_none refl in
            let less = count_fewer begins asks (sent_by side items) b weaker (found_so b found) apart in
            let own_asks : count_shown s facts.OwnRequests ≡ count asks (sent_by side items) =
            where_counted asks s.own ∙ ap (count asks) of.own in
            let own_begins : count_shown s facts.Begun ≡ count begins (sent_by side items) =
            where_counted begins s.own ∙ ap (count begins) of.own in omega (arith, less, own_asks, own_begins)

    begun_aborting : (d : Option Dialogue) → is_wrong_in_abort false (is_request_of (begin_from side own items)) d ≡ true
        → (is_response d ≡ true) ⊎ ((is_user_abort d ≡ true) × (count_shown s facts.OwnRequests < count_shown s facts.Begun))
    begun_aborting d is =
        either (is_response d) (is_user_abort d && not (is_request_of (begin_from side own items))) is (λ so. inl so)
        (λ so.
        let (aborts, none) = and_parts (is_user_abort d) _ so in
        inr (aborts, fewer_requests (not-true (is_request_of (begin_from side own items)) none)))

    begun_going : (has : Bool) (d : Option Dialogue) → is_wrong_in_continue false has d ≡ true → is_some d ≡ true
    begun_going has d is = either (is_some d) false is (λ so. so) (λ bad. cc)

    begun_shows : (h : HalfMessages) → h.origin ≡ Begun → h.begin ≡ begin_from side own items → (m : Message)
        → is_wrong_dialogue side items id m h ≡ true → MisfitsBegun s m
    begun_shows h origin begin (Abort dtid reason) is =
        begun_aborting (dialogue_in (Abort dtid reason)) (rw (origin, begin) at is)
    begun_shows h origin begin m is = begun_going (is_request_of h.begin) (dialogue_in m) (rw origin at is)

-- ---- F9

-- A message that an unanswered half may send does not have F9.
unanswered_fits : (side : Side) (items : List Item) (id : List ℕ) (m : Message) (h : HalfMessages) → h.origin ≡ Unanswered
    → may_not_send Unanswered m ≡ false → is_wrong_dialogue side items id m h ≡ false
unanswered_fits side items id (Abort dtid reason) h origin speaks =
    by (dialogue_in (Abort dtid reason)) refl speaks
  where
    by : (d : Option Dialogue) → dialogue_in (Abort dtid reason) ≡ d → not (is_provider_abort d) ≡ false
        → is_wrong_dialogue side items id (Abort dtid reason) h ≡ false
    by (Some (dialogues.Abort source info)) is so =
        let one : source ≡ 1 = eqb-true source 1 (not-false (source == 1) so) in rw (is, origin, one) refl
    by d is so = cc
unanswered_fits side items id m h origin speaks = cc

module _ (side : Side) (items : List Item) (s : Scene) (id : List ℕ) (of : IsTo side items id s) (over : IsOver side items id s)
    (m : Message) (few : count (is_a forms.Begin) (peer_sent_from side id items) < 2) where
  -- A half that may send.
  accepted_misfits : has_a forms.Begin (peer_sent_from side id items) ≡ true → (refused : Bool) → (h : HalfMessages)
      → h.origin ≡ cond refused Refused Accepted → h.begin ≡ find (is_a forms.Begin) (peer_sent_from side id items)
      → may_not_send h.origin m ≡ false → is_wrong_dialogue side items id m h ≡ true
      → ShowsWrongDialogue s (cond refused Refused Accepted) m
  accepted_misfits begun true h origin begin speaks is = let bad : true ≡ false = rw origin at speaks in cc
  accepted_misfits begun false h origin begin speaks is = (
    one_there side items s id of (is_a forms.Begin) begun,
    accepted_shows side items s id of few h origin begin m is,
  )

  begun_misfits : (own : List ℕ) → begun_from side items id ≡ Some own → s.half ≡ Some own → (nothing : Bool)
      → (h : HalfMessages) → h.origin ≡ cond nothing Unanswered Begun → h.begin ≡ begin_from side own items
      → may_not_send h.origin m ≡ false → is_wrong_dialogue side items id m h ≡ true
      → ShowsWrongDialogue s (cond nothing Unanswered Begun) m
  begun_misfits own from half true h origin begin speaks is =
      let so : may_not_send Unanswered m ≡ false = rw origin at speaks in
      let bad : true ≡ false = sym is ∙ unanswered_fits side items id m h origin so in cc
  begun_misfits own from half false h origin begin speaks is =
      let (x, has, on, goes, begun) = goes_on side items s id of own from in
      let own_is : own_id s ≡ Some own = ap (λ (o : Option (List ℕ)). option_or o s.from) half in
      (begun_one side items s id of own own_is begun, begun_shows side items s id of few own own_is begun h origin begin m is)

  wrong_dialogue : may_not_send (half_of side items id).origin m ≡ false
      → is_wrong_dialogue side items id m (half_of side items id) ≡ true → ShowsWrongDialogue s s.origin m
  wrong_dialogue = by (has_a forms.Begin (peer_sent_from side id items)) (begun_from side items id) refl refl over.origin over.half
    where
      by : (b : Bool) (o : Option (List ℕ)) → has_a forms.Begin (peer_sent_from side id items) ≡ b → begun_from side items id ≡ o
          → s.origin ≡ (half_by side items id b o).origin → s.half ≡ (half_by side items id b o).own
          → may_not_send (half_by side items id b o).origin m ≡ false
          → is_wrong_dialogue side items id m (half_by side items id b o) ≡ true → ShowsWrongDialogue s s.origin m
      by true o begun from origin half speaks is =
          subst (λ (h : HalfOrigin). ShowsWrongDialogue s h m) (sym origin)
          (accepted_misfits begun (was_refused side id items) (half_by side items id true o) refl refl speaks is)
      by false None none from origin half speaks is = let bad : true ≡ false = speaks in cc
      by false (Some own) none from origin half speaks is =
          subst (λ (h : HalfOrigin). ShowsWrongDialogue s h m) (sym origin)
          (begun_misfits own from half
          (is_nothing (incoming_continues (begin_from side own items) (continued_to side items id (Some own))))
          (half_by side items id false (Some own)) refl refl speaks is)

pub dialogue_shows : (of_one : Bool) (table : Table) (side : Side) (entries : List Entry) (number : ℕ) (m : Message)
    → HasKind table side (items_before entries number) m kinds.WrongDialogue
    → ShowsWrongDialogue (scene_at of_one table side entries number m kinds.WrongDialogue)
    (scene_at of_one table side entries number m kinds.WrongDialogue).origin m
dialogue_shows of_one table side entries number m has =
    let items : List Item = items_before entries number in
    let (id, to) = goes_so table side items m kinds.WrongDialogue refl has in
    let untangled = (further_so table side items m kinds.WrongDialogue refl has).0 in
    let so = half_so table side items m id to kinds.WrongDialogue refl has in
    let (right, wrong) = and_parts (not (is_wrong_half side items m (half_of side items id))) _ so in
    let (one_way, unclosed) =
    or_parts (may_not_send (half_of side items id).origin m
    || goes_from_other side items (half_of side items id).origin (half_of side items id).own m) _
    (not-true (is_wrong_half side items m (half_of side items id)) right) in
    let (speaks, own) = or_parts (may_not_send (half_of side items id).origin m) _ one_way in
    wrong_dialogue side items (scene_at of_one table side entries number m kinds.WrongDialogue) id
    (scene_to table side entries number m kinds.WrongDialogue (subject of_one table side items m kinds.WrongDialogue) id to)
    (scene_over of_one table side entries number m kinds.WrongDialogue id to) m
    (plain_to side items m id to untangled).few speaks wrong
