-- The story of a half begins, and goes on with a message that is received over it.
use Rattle.std.proofs.Common.{◌≡◌, ◌≤◌, ◌+◌, arith, ℕ, Bool, true, false, cond, List, [], ◌∷◌, ◌++◌, Option, Some, None, Ok, refl, sym, ap, subst, ◌∙◌}
use Rattle.std.specs.Prelude.{◌||◌}
use Rattle.std.specs.List.{list_any}
use Rattle.std.proofs.lemmas.List.Folds.{list_any-append}
use Rattle.tcap_parts.specs.declared.component.Component.{Component}
use Rattle.tcap_parts.specs.declared.dialogue.Dialogue.{Dialogue}
use Rattle.tcap_msg.specs.declared.message.Message.{Message}
use Rattle.tcap_msg.specs.declared.message.Message.TheVariants.{Begin, Continue}
use Rattle.tcap_msg.specs.Parts.{items_of}
use Rattle.tcap_record.specs.declared.entry.End.{End as Side}
use Rattle.tcap_end.specs.declared.half.Phase.TheVariants as phases
use Rattle.tcap_end.specs.declared.half.Slot.{Slot}
use Rattle.tcap_end.specs.declared.half.Slot.TheVariants.{Begun, Accepted}
use Rattle.tcap_end.specs.declared.half.DialogueState.{DialogueState}
use Rattle.tcap_end.specs.declared.half.DialogueState.TheVariants as dialogue_states
use Rattle.tcap_end.specs.Table.{Table}
use Rattle.tcap_end.specs.Half.{Half, fresh}
use Rattle.tcap_end.specs.Dialogue.{answers_request, first_dialogue_state, is_request, is_response}
use Rattle.tcap_end.specs.Message.{active_half, receive_components, send_components}
use Rattle.tcap_end.specs.ReachableEnd.{IsHalfKey}
use Rattle.tcap_end.proofs.ComponentLaws.{Receives, all_receives, all_sends}
use Rattle.tcap_end.proofs.HalfLaws.{Follows}
use Rattle.tcap_model.specs.World.{Item, Sent}
use Rattle.tcap_model.specs.SinceMark.{is_begin_with_request}
use Rattle.tcap_faults.specs.Counts.{count}
use Rattle.tcap_faults.specs.HalfByPeerId.{responds}
use Rattle.tcap_faults.specs.SentToId.{begin_from, outgoing}
use Rattle.tcap_faults.proofs.run_laws.MayHearLaws.{count_in, count_in_one}
use Rattle.tcap_faults.proofs.run_laws.HalfGoesOnLaws.{GotOn, HasBegun, IsAnswered, SentOn, Story, ToldOver, begun_kept, begun_still, gets_on, led_same, sends_on}
use Rattle.tcap_faults.proofs.run_laws.TakenMessageLaws.{HaveThatToo, before, incoming_back_too, incoming_begin_too, incoming_goes_too, itself, more_before}
use Rattle.tcap_faults.proofs.run_laws.ItemLaws.{begins_now}
use Rattle.tcap_faults.proofs.story_laws.Stories.{Happening, SameLists, got_in, may_have_incoming, sent_in, outgoing_to}

-- ---- a half begins

-- The end sends a Begin.
pub story_begins : (table : Table) (side : Side) (items : List Item) (gone : List Message) (otid : List ℕ)
    (dialogue : Option Dialogue) (components : Option (List Component)) (k : Half) → begin_from side otid items ≡ None
    → send_components table (fresh phases.Sent (Some otid) None (first_dialogue_state dialogue)) (items_of components) ≡ Ok k
    → Story table side (items ++ Sent side (Begin otid dialogue components) ∷ []) gone Begun otid k
story_begins table side items gone otid dialogue components k none sends = record {
  past = on.now;
  is_led = on.is_led;
  outgoing_over = m ∷ [];
  is_outgoing = (m, found, rw (follows.peer) refl);
  sent = sent;
  got = λ p. rw (on.got) (omega arith);
  begun = (m, found, λ asks. rw (follows.phase, follows.dialogue_state) (asked (is_request dialogue) asks));
}
  where
    m : Message
    m = Begin otid dialogue components

    start : Half
    start = fresh phases.Sent (Some otid) None (first_dialogue_state dialogue)

    found : begin_from side otid (items ++ Sent side (Begin otid dialogue components) ∷ [])
        ≡ Some (Begin otid dialogue components)
    found = begins_now side items (Begin otid dialogue components) otid none refl (itself otid)

    follows : Follows start k
    follows = (all_sends table (items_of components) start k sends).follows

    on : SentOn table [] (items_of components) k
    on = sends_on table (items_of components) [] start k (refl, refl, refl) sends

    sent : (p : Component → Bool) → count p (sent_in on.now) ≡ count_in p (Begin otid dialogue components ∷ [])
    sent p =
        let new = on.sent p in
        let one = count_in_one p (Begin otid dialogue components) in omega arith

    asked : (b : Bool) → b ≡ true → cond b dialogue_states.Requested dialogue_states.Without ≡ dialogue_states.Requested
    asked b is = rw is refl

-- The end receives a Begin, and sent nothing to the peer's ID before.
pub story_received : (table : Table) (side : Side) (items : List Item) (gone : List Message) (otid : List ℕ)
    (dialogue : Option Dialogue) (components : Option (List Component)) → outgoing side otid items ≡ []
    → Story table side items (gone ++ Begin otid dialogue components ∷ []) Accepted otid
    (receive_components table (fresh phases.Received None (Some otid) (first_dialogue_state dialogue)) (items_of components))
story_received table side items gone otid dialogue components none = record {
  past = on.now;
  is_led = on.is_led;
  outgoing_over = [];
  is_outgoing = rw (comes.follows.peer) (sym none);
  sent = λ p. rw (on.sent) refl;
  got = incoming;
  begun = tt;
}
  where
    start : Half
    start = fresh phases.Received None (Some otid) (first_dialogue_state dialogue)

    comes : Receives start (receive_components table start (items_of components))
    comes = all_receives table (items_of components) start

    on : GotOn table [] (items_of components) (receive_components table start (items_of components))
    on = gets_on table (items_of components) [] start (refl, refl, refl)

    incoming : (p : Component → Bool) → count p (got_in on.now)
        ≤ count_in p (may_have_incoming side items (gone ++ Begin otid dialogue components ∷ []) Accepted
        (receive_components table start (items_of components)).own
        (receive_components table start (items_of components)).peer)
    incoming p =
        let new = on.got p in
        let too = incoming_begin_too side items gone otid dialogue components None p in
        rw (comes.follows.own, comes.follows.peer) (omega arith)

-- ---- a Continue is received

module _ (table : Table) (side : Side) (items : List Item) (gone : List Message) (otid own : List ℕ)
    (dialogue : Option Dialogue) (components : Option (List Component)) where
  abbrev m : Message
  m = Continue otid own dialogue components

  -- The half after it received the Continue.
  abbrev behind : Half → Half
  behind start = receive_components table start (items_of components)

  -- What the half received before, and what it receives now, it may have heard.
  got_too : (slot : Slot) (past : List Happening) (now : List Happening) (h : Half)
      → HaveThatToo m (may_have_incoming side items gone slot h.own h.peer)
      (may_have_incoming side items (gone ++ m ∷ []) slot (Some own) (Some otid))
      → ((p : Component → Bool) → count p (got_in past) ≤ count_in p (may_have_incoming side items gone slot h.own h.peer))
      → ((p : Component → Bool) → count p (got_in now) ≡ count p (got_in past) + count p (items_of components))
      → (p : Component → Bool)
      → count p (got_in now) ≤ count_in p (may_have_incoming side items (gone ++ m ∷ []) slot (Some own) (Some otid))
  got_too slot past now h too was new p =
      let had = was p in
      let more = new p in
      let all = too p in omega arith

  -- A half with these IDs may have heard it.
  incoming_with : (slot : Slot) (of_own of_peer : Option (List ℕ)) (n : ℕ) (p : Component → Bool) → of_own ≡ Some own
      → of_peer ≡ Some otid
      → n ≤ count_in p (may_have_incoming side items (gone ++ m ∷ []) slot (Some own) (Some otid))
      → n ≤ count_in p (may_have_incoming side items (gone ++ m ∷ []) slot of_own of_peer)
  incoming_with slot of_own of_peer n p is_own is_peer is = rw (is_own, is_peer) is

  -- The half keeps the story of what was sent over it.
  story_gets : (slot : Slot) (key : List ℕ) (h start : Half) → SameLists h start → start.own ≡ Some own
      → start.peer ≡ Some otid → (it : Story table side items gone slot key h)
      → ToldOver side items slot key (Some otid) it.outgoing_over
      → HaveThatToo m (may_have_incoming side items gone slot h.own h.peer)
      (may_have_incoming side items (gone ++ m ∷ []) slot (Some own) (Some otid))
      → HasBegun side items (gone ++ m ∷ []) slot key (behind start)
      → Story table side items (gone ++ m ∷ []) slot key (behind start)
  story_gets slot key h start lists of_own of_peer it was_outgoing too begun =
      record {
        past = on.now;
        is_led = on.is_led;
        outgoing_over = it.outgoing_over;
        is_outgoing = subst (λ o. ToldOver side items slot key o it.outgoing_over) (sym (comes.follows.peer ∙ of_peer))
            was_outgoing;
        sent = λ p. rw (on.sent) (it.sent p);
        got = λ p.
            incoming_with slot (behind start).own (behind start).peer (count p (got_in on.now)) p
            (comes.follows.own ∙ of_own)
            (comes.follows.peer ∙ of_peer) (got_too slot it.past on.now h too it.got on.got p);
        begun = begun;
      }
    where
      on : GotOn table it.past (items_of components) (behind start)
      on = gets_on table (items_of components) it.past start (led_same table it.past h start lists it.is_led)

      comes : Receives start (behind start)
      comes = all_receives table (items_of components) start

  -- ---- the Continue answers a Begin

  -- The answer to a Begin that asked for a dialogue.
  answered_now : (dialogue_state : DialogueState) → dialogue_state ≡ dialogue_states.Requested → answers_request dialogue_state dialogue ≡ true
      → list_any responds (before side items gone otid own dialogue components ++ m ∷ []) ≡ true
  answered_now dialogue_state asked answers =
      let is : is_response dialogue ≡ true = rw asked at answers in
      list_any-append responds (before side items gone otid own dialogue components) (m ∷ [])
      ∙ by (list_any responds (before side items gone otid own dialogue components)) (last is)
    where
      last : is_response dialogue ≡ true → list_any responds (m ∷ []) ≡ true
      last is = rw is refl

      by : (b : Bool) → list_any responds (m ∷ []) ≡ true → (b || list_any responds (m ∷ [])) ≡ true
      by b is = grind (arith, is)

  -- The ID is the peer's.
  same_id : (id : List ℕ) (o : Option (List ℕ)) → o ≡ Some otid → o ≡ Some id → otid ≡ id
  same_id id o first second = cc

  -- The half was in Sent, and nothing was sent to the ID from which it is answered.
  pub story_answered : (h : Half) → h.phase ≡ phases.Sent → h.own ≡ Some own → h.peer ≡ None
      → answers_request h.dialogue_state dialogue ≡ true → outgoing side otid items ≡ []
      → Story table side items gone Begun own h
      → Story table side items (gone ++ m ∷ []) Begun own (behind (active_half Begun otid h))
  story_answered h phase is_own no_peer answers none it =
      story_gets Begun own h start (refl, refl, refl) is_own refl it (by_outgoing it.is_outgoing) (by_begun it.begun).0
      (by_begun it.begun).1
    where
      start : Half
      start = active_half Begun otid h

      comes : Receives start (behind start)
      comes = all_receives table (items_of components) start

      by_outgoing : ToldOver side items Begun own h.peer it.outgoing_over
          → ToldOver side items Begun own (Some otid) it.outgoing_over
      by_outgoing (begin, found, is) =
          (begin, found, is ∙ ap (λ o. begin ∷ outgoing_to side items o) no_peer ∙ ap (λ more. begin ∷ more) (sym none))

      nothing : HaveThatToo m (may_have_incoming side items gone Begun (Some own) (Some otid))
          (may_have_incoming side items (gone ++ m ∷ []) Begun (Some own) (Some otid))
          → HaveThatToo m (may_have_incoming side items gone Begun h.own h.peer)
          (may_have_incoming side items (gone ++ m ∷ []) Begun (Some own) (Some otid))
      nothing too p =
          let all = too p in
          let none_yet : count_in p (may_have_incoming side items gone Begun h.own h.peer) ≡ 0 =
          rw (is_own, no_peer) refl in
          omega arith

      by_begun : HasBegun side items gone Begun own h
          → HaveThatToo m (may_have_incoming side items gone Begun h.own h.peer)
          (may_have_incoming side items (gone ++ m ∷ []) Begun (Some own) (Some otid))
          × HasBegun side items (gone ++ m ∷ []) Begun own (behind start)
      by_begun (begin, found, answered) =
          (nothing (incoming_back_too side items gone otid own dialogue components begin found now), (begin, found, later))
        where
          now : is_begin_with_request begin ≡ true
              → list_any responds (before side items gone otid own dialogue components ++ m ∷ []) ≡ true
          now asks = answered_now h.dialogue_state (rw phase at (answered asks)) answers

          later : is_begin_with_request begin ≡ true
              → IsAnswered own (gone ++ m ∷ []) (behind start).dialogue_state (behind start).peer (behind start).phase
          later asks =
              rw (comes.follows.phase) (λ id of_peer.
              let is : otid ≡ id = same_id id (behind start).peer comes.follows.peer of_peer in
              rw (← is)
              (ap (list_any responds) (more_before side items gone otid own dialogue components) ∙ now asks))

  -- ---- the Continue goes on

  abbrev continues : List Message
  continues = before side items gone otid own dialogue components

  -- An answer remains an answer with one more message.
  still_answered : list_any responds continues ≡ true → list_any responds (continues ++ m ∷ []) ≡ true
  still_answered is = list_any-append responds continues (m ∷ []) ∙ rw is refl

  -- An active half receives the Continue from its peer.
  pub story_goes_on : (slot : Slot) (key : List ℕ) (h : Half) → h.phase ≡ phases.Active → h.own ≡ Some own
      → h.peer ≡ Some otid → IsHalfKey slot key h → Story table side items gone slot key h
      → Story table side items (gone ++ m ∷ []) slot key (behind h)
  story_goes_on slot key h phase is_own is_peer kept it =
      story_gets slot key h h (refl, refl, refl) is_own is_peer it
      (subst (λ o. ToldOver side items slot key o it.outgoing_over) is_peer it.is_outgoing)
      (rw (is_own, is_peer) (too slot kept it.begun))
      (begun_kept side items items (gone ++ m ∷ []) slot key h (behind h) (λ id begin found. found) comes.follows.phase
      comes.follows.peer comes.follows.dialogue_state (begun_still side items gone (m ∷ []) slot key h it.begun))
    where
      comes : Receives h (behind h)
      comes = all_receives table (items_of components) h

      too : (slot : Slot) → IsHalfKey slot key h → HasBegun side items gone slot key h
          → HaveThatToo m (may_have_incoming side items gone slot (Some own) (Some otid))
          (may_have_incoming side items (gone ++ m ∷ []) slot (Some own) (Some otid))
      too Accepted kept begun = incoming_goes_too side items gone otid own dialogue components
      too Begun kept (begin, found, answered) =
          let same : key ≡ own = cc in
          incoming_back_too side items gone otid own dialogue components begin (rw same at found)
          (λ asks. still_answered
          (let is : IsAnswered key gone h.dialogue_state h.peer phases.Active = rw phase at (answered asks) in
          rw same at (is otid is_peer)))
