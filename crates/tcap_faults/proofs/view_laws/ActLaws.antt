-- What each step of an end changes in its halves, case by case; and each sent message has its half.
use Rattle.std.proofs.Common.{◌≡◌, inl, inr, Bool, true, false, cond, ℕ, ℤ, List, [], Option, Some, None, Result, Ok, Err, is_none, not, refl, sym, subst, ◌∙◌, arith}
use Rattle.std.specs.Prelude.{ok_or}
use Rattle.tcap_parts.specs.declared.component.Component.{Component}
use Rattle.tcap_parts.specs.declared.dialogue.Dialogue.{Dialogue}
use Rattle.tcap_msg.specs.declared.message.Message.{Message}
use Rattle.tcap_msg.specs.declared.message.Message.TheVariants.{Unidirectional, Begin, Continue, End as EndMessage, Abort}
use Rattle.tcap_msg.specs.Parts.{cause_in, dtid_in, items_of, reason_cause}
use Rattle.tcap_end.specs.declared.fault.EndFault.{EndFault}
use Rattle.tcap_end.specs.declared.fault.EndFault.TheVariants as faults
use Rattle.tcap_end.specs.declared.half.HalfName.{HalfName}
use Rattle.tcap_end.specs.declared.half.Phase.{Phase}
use Rattle.tcap_end.specs.declared.half.Phase.TheVariants as phases
use Rattle.tcap_end.specs.declared.half.Slot.TheVariants.{Begun, Accepted}
use Rattle.tcap_end.specs.Step.{◌>>◌}
use Rattle.tcap_end.specs.Table.{Table}
use Rattle.tcap_end.specs.Half.{Half, closed_half, fresh, is_closed}
use Rattle.tcap_end.specs.Component.{own_invocation}
use Rattle.tcap_end.specs.Dialogue.{answers_request, first_dialogue_state, may_be_uni, may_begin}
use Rattle.tcap_end.specs.End.{End, KeyedHalf, is_id, named, put, with_own, with_peer}
use Rattle.tcap_end.specs.HiddenSteps.{close, expire, may_close, may_expire}
use Rattle.tcap_end.specs.Message.{active_half, receive, receive_components, receive_end, receive_over, send, send_components, send_uni_components}
use Rattle.tcap_end.specs.ReachableEnd.{HasHalf, IsEnd}
use Rattle.tcap_end.proofs.AnsweringLaws.{needs_ok, ok_same, some_ok, then_ok}
use Rattle.tcap_end.proofs.ComponentLaws.{all_receives, all_sends}
use Rattle.tcap_end.proofs.FoundLaws.{named_has, none_own, none_peer, own_has, is_that_id}
use Rattle.tcap_end.proofs.StepLaws.{none_is}
use Rattle.tcap_model.proofs.TurnLaws.{put_there}
use Rattle.tcap_refute.specs.EarlierMessages.{ends_to}
use Rattle.tcap_refute.proofs.HalfLawsTurns.{Accepts, Acts, Deed, Heard, Said, Starts, Turned, Internal, acts_nowhere, answers, closes, learns, stays, new_acts, put_acts}
use Rattle.tcap_refute.proofs.OverLaws.{IsOver, follows_stays, over}
use Rattle.tcap_model.proofs.SentMoves.{own_is}

-- The end acts so if the step was Ok with it.
acts_this : {table : Table} {deed : Deed} (e x next : End) → Acts table deed e x
    → (let r : Result End EndFault = Ok x in r) ≡ Ok next → Acts table deed e next
acts_this {table} {deed} e x next acts is =
    let same = ok_same {F = EndFault} x next is in subst (λ (y : End). Acts table deed e y) same acts

-- ---- sending

-- A Begin starts a half.
module _ (table : Table) (e next : End) (sound : IsEnd e) where
  begin_said : (otid : List ℕ) (dialogue : Option Dialogue) (components : Option (List Component))
      → send table e (Begin otid dialogue components) ≡ Ok next
      → (h : Half) × Starts (Said (Begin otid dialogue components)) e (record { slot = Begun; key = otid; half = h })
      × (put e Begun otid h ≡ next)
  begin_said otid dialogue components is =
      let free = needs_ok (is_none (with_own e otid)) faults.IdUsed _ next is in
      let may = needs_ok (may_begin dialogue) faults.WrongDialogue _ next free.1 in
      let (g, made, done) =
      then_ok (send_components table start (items_of components)) (λ half. Ok (put e Begun otid half)) next may.1 in
      let follows = (all_sends table (items_of components) start g made).follows in
      let new : Starts (Said (Begin otid dialogue components)) e (record { slot = Begun; key = otid; half = g }) =
      record {
        dialogue = dialogue;
        components = components;
        deed_is = refl;
        free = none_is (with_own e otid) free.0;
        slot = refl;
        phase = follows.phase;
        own = follows.own;
        peer = follows.peer;
        dialogue_state = follows.dialogue_state;
      } in (g, new, ok_same {F = EndFault} _ next done)
    where
      start : Half
      start = fresh phases.Sent (Some otid) None (first_dialogue_state dialogue)

  begin_acts : (otid : List ℕ) (dialogue : Option Dialogue) (components : Option (List Component))
      → send table e (Begin otid dialogue components) ≡ Ok next
      → Acts table (Said (Begin otid dialogue components)) e next
  begin_acts otid dialogue components is =
      let (g, new, made) = begin_said otid dialogue components is in
      let f : KeyedHalf = record { slot = Begun; key = otid; half = g } in
      subst (λ (y : End). Acts table (Said (Begin otid dialogue components)) e y) made
      (new_acts e f (λ g had slots keys. none_own e otid g new.free had (rw (slots, keys) at (sound.kept g had)))
      (inl new))

  -- A message with a destination ID changes the half over which it goes.
  over_acts : (m : Message) (id : List ℕ) → send table e m ≡ Ok next → dtid_in m ≡ Some id → Acts table (Said m) e next
  over_acts m id is to =
      let half : IsOver table e m id = over table e next sound m id is to in
      acts_this e _ next (put_acts e half.kept half.now half.had half.turned) (sym half.leads ∙ is)

  uni_acts : (m : Message) (r : Result (Unit {0}) EndFault) → (r >> Ok e) ≡ Ok next → Acts table (Said m) e next
  uni_acts m (Ok done) is = acts_this e e next (acts_nowhere table (Said m) e) is
  uni_acts m (Err reason) is = cc

  pub said_acts : (m : Message) → send table e m ≡ Ok next → Acts table (Said m) e next
  said_acts (Unidirectional dialogue components) is =
      let may = needs_ok (may_be_uni dialogue) faults.WrongDialogue _ next is in
      uni_acts (Unidirectional dialogue components) (send_uni_components table [] components) may.1
  said_acts (Begin otid dialogue components) is = begin_acts otid dialogue components is
  said_acts (Continue otid dtid dialogue components) is =
      over_acts (Continue otid dtid dialogue components) dtid is refl
  said_acts (EndMessage dtid dialogue components) is = over_acts (EndMessage dtid dialogue components) dtid is refl
  said_acts (Abort dtid reason) is = over_acts (Abort dtid reason) dtid is refl

-- ---- receiving

module _ (table : Table) (e next : End) (sound : IsEnd e) where
  -- A received Begin makes a half that accepts it.
  accept_acts : (otid : List ℕ) (dialogue : Option Dialogue) (components : Option (List Component))
      → receive table e (Begin otid dialogue components) ≡ Ok next
      → Acts table (Heard (Begin otid dialogue components)) e next
  accept_acts otid dialogue components is =
      let step = needs_ok (is_none (with_peer e otid)) faults.IdUsed _ next is in
      let follows = (all_receives table (items_of components) start).follows in
      let f : KeyedHalf =
      record { slot = Accepted; key = otid; half = receive_components table start (items_of components) } in
      let new : Accepts (Heard (Begin otid dialogue components)) e f = record {
        dialogue = dialogue;
        components = components;
        deed_is = refl;
        free = none_is (with_peer e otid) step.0;
        slot = refl;
        phase = follows.phase;
        own = follows.own;
        peer = follows.peer;
        dialogue_state = follows.dialogue_state;
      } in
      acts_this e _ next
      (new_acts e f (λ g had slots keys. none_peer e otid g new.free had (rw (slots, keys) at (sound.kept g had)))
      (inr new)) step.1
    where
      start : Half
      start = fresh phases.Received None (Some otid) (first_dialogue_state dialogue)

  -- A received Continue answers a half's Begin, or goes on with the half.
  module _ (otid dtid : List ℕ) (dialogue : Option Dialogue) (components : Option (List Component)) (f : KeyedHalf)
      (found : with_own e dtid ≡ Some f) where
    abbrev said : Deed
    said = Heard (Continue otid dtid dialogue components)

    learnt : (half : Half) → f.half.phase ≡ phases.Sent → answers_request f.half.dialogue_state dialogue ≡ true
        → Acts table said e
        (put e f.slot f.key (receive_components table (active_half Begun otid f.half) (items_of components)))
    learnt half at may =
        let had = own_has e dtid sound f found in
        let fits = rw at at (sound.halves f had).phase in
        let follows = (all_receives table (items_of components) (active_half Begun otid f.half)).follows in
        put_acts e f _ had (learns (record {
          id = dtid;
          from = otid;
          dialogue = dialogue;
          components = components;
          deed_is = refl;
          was = at;
          own_was = own_is e dtid f found;
          peer_was = fits.1;
          phase = follows.phase;
          own = follows.own ∙ own_is e dtid f found;
          peer = follows.peer;
          dialogue_state = follows.dialogue_state;
          answers = may;
        }))

    over_incoming : (p : Phase) → f.half.phase ≡ p → receive_over table e otid dialogue (items_of components) f p ≡ Ok next
        → Acts table said e next
    over_incoming phases.Sent at is =
        let free = needs_ok (is_none (with_peer e otid)) faults.IdUsed _ next is in
        let asked = needs_ok (answers_request f.half.dialogue_state dialogue) faults.WrongDialogue _ next free.1 in
        acts_this e _ next (learnt f.half at asked.0) asked.1
    over_incoming phases.Active at is =
        let peer = needs_ok (is_id otid f.half.peer) faults.NoTransaction _ next is in
        let follows = (all_receives table (items_of components) f.half).follows in
        acts_this e _ next (put_acts e f _ (own_has e dtid sound f found) (follows_stays f.half _ follows)) peer.1
    over_incoming phase at is = cc

  continue_incoming : (otid dtid : List ℕ) (dialogue : Option Dialogue) (components : Option (List Component))
      → receive table e (Continue otid dtid dialogue components) ≡ Ok next
      → Acts table (Heard (Continue otid dtid dialogue components)) e next
  continue_incoming otid dtid dialogue components is =
      let (f, ok, step) = then_ok (ok_or (with_own e dtid) faults.NoTransaction) _ next is in
      over_incoming otid dtid dialogue components f (some_ok _ _ f ok) f.half.phase refl step

  -- A received End or Abort closes the open half with its destination ID.
  end_incoming : (m : Message) (id : List ℕ) → ends_to id m ≡ true → (o : Option KeyedHalf) → with_own e id ≡ o
      → (let r : Result End EndFault = Ok (receive_end e o) in r) ≡ Ok next → Acts table (Heard m) e next
  end_incoming m id ends None found is = acts_this e e next (acts_nowhere table (Heard m) e) is
  end_incoming m id ends (Some f) found is = by (is_closed f.half.phase) refl is
    where
      by : (b : Bool) → is_closed f.half.phase ≡ b
          → (let r : Result End EndFault = Ok (cond b e (put e f.slot f.key (closed_half f.half))) in r) ≡ Ok next
          → Acts table (Heard m) e next
      by true shut is = acts_this e e next (acts_nowhere table (Heard m) e) is
      by false shut is = acts_this e _ next (put_acts e f (closed_half f.half) (own_has e id sound f found)
          (closes (record {
            phase = refl;
            own = refl;
            peer = refl;
            dialogue_state = refl;
            was_open = shut;
            ended = (id, ends, own_is e id f found);
          }))) is

  pub incoming_acts : (m : Message) → receive table e m ≡ Ok next → Acts table (Heard m) e next
  incoming_acts (Unidirectional dialogue components) is =
      acts_this e e next (acts_nowhere table (Heard (Unidirectional dialogue components)) e) is
  incoming_acts (Begin otid dialogue components) is = accept_acts otid dialogue components is
  incoming_acts (Continue otid dtid dialogue components) is = continue_incoming otid dtid dialogue components is
  incoming_acts (EndMessage dtid dialogue components) is =
      end_incoming (EndMessage dtid dialogue components) dtid (is_that_id dtid (Some dtid) refl) (with_own e dtid) refl is
  incoming_acts (Abort dtid reason) is =
      end_incoming (Abort dtid reason) dtid (is_that_id dtid (Some dtid) refl) (with_own e dtid) refl is

-- ---- hidden steps

may_close_open : (table : Table) (p : Phase) → may_close table p ≡ true → is_closed p ≡ false
may_close_open table phase is = grind (arith, is)

-- An invocation expires, and the half stays as it is.
pub expired_acts : (table : Table) (e next : End) (name : HalfName) (id : ℤ) → IsEnd e
    → expire table e name id ≡ Ok next → Acts table Internal e next
expired_acts table e next name id sound is =
    let (f, ok, step) = then_ok (ok_or (named e name) faults.CannotExpire) _ next is in
    let open_one = needs_ok (not (is_closed f.half.phase)) faults.CannotExpire _ next step in
    let may = needs_ok (may_expire table (own_invocation f.half id)) faults.CannotExpire _ next open_one.1 in
    acts_this e _ next
    (put_acts e f _ (named_has e name sound f (some_ok _ _ f ok))
    (stays (record { phase = refl; own = refl; peer = refl; dialogue_state = refl }))) may.1

-- A half closes.
pub closed_acts : (table : Table) (e next : End) (name : HalfName) → IsEnd e → close table e name ≡ Ok next
    → Acts table Internal e next
closed_acts table e next name sound is =
    let (f, ok, step) = then_ok (ok_or (named e name) faults.CannotClose) _ next is in
    let may = needs_ok (may_close table f.half.phase) faults.CannotClose _ next step in
    acts_this e _ next
    (put_acts e f (closed_half f.half) (named_has e name sound f (some_ok _ _ f ok))
    (closes (record {
      phase = refl;
      own = refl;
      peer = refl;
      dialogue_state = refl;
      was_open = may_close_open table f.half.phase may.0;
      ended = may.0;
    }))) may.1

-- ---- what a message needs

-- Each sent message has its half. A Begin has a begun half with its ID, a Continue a half with both its IDs, and a
-- message that ends a dialogue a half whose peer has its destination ID.
abbrev pub Uses : End → Message → Type 0
Uses e (Unidirectional dialogue components) = Unit {0}
Uses e (Begin otid dialogue components) = (h : Half) × HasHalf e (record { slot = Begun; key = otid; half = h })
Uses e (Continue otid dtid dialogue components) =
    (f : KeyedHalf) × HasHalf e f × (f.half.own ≡ Some otid) × (f.half.peer ≡ Some dtid)
Uses e (EndMessage dtid dialogue components) = (f : KeyedHalf) × HasHalf e f × (f.half.peer ≡ Some dtid)
Uses e (Abort dtid reason) = reason_cause reason ≡ None → (f : KeyedHalf) × HasHalf e f × (f.half.peer ≡ Some dtid)

-- Directly after a Continue, its half is active.
abbrev pub IsActiveFor : End → Message → Type 0
IsActiveFor e (Continue otid dtid dialogue components) =
    (f : KeyedHalf) × HasHalf e f × (f.half.own ≡ Some otid) × (f.half.peer ≡ Some dtid) × (f.half.phase ≡ phases.Active)
IsActiveFor e m = Unit {0}

-- A half keeps its IDs.
module _ {table : Table} {deed : Deed} {h g : Half} where
  pub keeps_own : (id : List ℕ) → Turned table deed h g → h.own ≡ Some id → g.own ≡ Some id
  keeps_own id (stays it) own = it.own ∙ own
  keeps_own id (closes it) own = it.own ∙ own
  keeps_own id (answers it) own = let none = it.own_was in cc
  keeps_own id (learns it) own = it.own ∙ sym it.own_was ∙ own

  pub keeps_peer : (id : List ℕ) → Turned table deed h g → h.peer ≡ Some id → g.peer ≡ Some id
  keeps_peer id (stays it) peer = it.peer ∙ peer
  keeps_peer id (closes it) peer = it.peer ∙ peer
  keeps_peer id (answers it) peer = it.peer ∙ sym it.peer_was ∙ peer
  keeps_peer id (learns it) peer = let none = it.peer_was in cc

-- What was used is still used.
module _ {table : Table} {deed : Deed} {e next : End} (acts : Acts table deed e next) where
  still_peer : (id : List ℕ) → (f : KeyedHalf) × HasHalf e f × (f.half.peer ≡ Some id)
      → (f : KeyedHalf) × HasHalf next f × (f.half.peer ≡ Some id)
  still_peer id (f, had, peer) =
      let (g, there, turned) = acts.forth f had in (record f { half = g }, there, keeps_peer id turned peer)

  pub still_uses : (m : Message) → Uses e m → Uses next m
  still_uses (Unidirectional dialogue components) uses = tt
  still_uses (Begin otid dialogue components) (h, had) =
      let (g, there, turned) = acts.forth (record { slot = Begun; key = otid; half = h }) had in (g, there)
  still_uses (Continue otid dtid dialogue components) (f, had, own, peer) =
      let (g, there, turned) = acts.forth f had in
      (record f { half = g }, there, keeps_own otid turned own, keeps_peer dtid turned peer)
  still_uses (EndMessage dtid dialogue components) uses = still_peer dtid uses
  still_uses (Abort dtid reason) uses = λ none. still_peer dtid (uses none)

-- What a sent message needs is there directly after it.
module _ (table : Table) (e next : End) (sound : IsEnd e) where
  over_there : (m : Message) (id : List ℕ) → send table e m ≡ Ok next → (half : IsOver table e m id)
      → HasHalf next (record half.kept { half = half.now })
  over_there m id is half =
      let made : put e half.kept.slot half.kept.key half.now ≡ next =
      ok_same {F = EndFault} _ next (sym half.leads ∙ is) in
      subst (λ (y : End). HasHalf y (record half.kept { half = half.now })) made
      (put_there e half.kept.slot half.kept.key half.now)

  ends_used : (m : Message) (id : List ℕ) → send table e m ≡ Ok next → IsOver table e m id
      → (f : KeyedHalf) × HasHalf next f × (f.half.peer ≡ Some id)
  ends_used m id is half =
      (record half.kept { half = half.now }, over_there m id is half, keeps_peer id half.turned half.peer)

  pub said_uses : (m : Message) → send table e m ≡ Ok next → Uses next m × IsActiveFor next m
  said_uses (Unidirectional dialogue components) is = (tt, tt)
  said_uses (Begin otid dialogue components) is =
      let (g, new, made) = begin_said table e next sound otid dialogue components is in
      let f : KeyedHalf = record { slot = Begun; key = otid; half = g } in
      ((g, subst (λ (y : End). HasHalf y f) made (put_there e Begun otid g)), tt)
  said_uses (Continue otid dtid dialogue components) is =
      let m = Continue otid dtid dialogue components in
      let half = over table e next sound m dtid is refl in
      let f : KeyedHalf = record half.kept { half = half.now } in
      let there = over_there m dtid is half in
      let peer = keeps_peer dtid half.turned half.peer in
      ((f, there, half.spoken.1, peer), (f, there, half.spoken.1, peer, half.spoken.0))
  said_uses (EndMessage dtid dialogue components) is =
      let m = EndMessage dtid dialogue components in
      (ends_used m dtid is (over table e next sound m dtid is refl), tt)
  said_uses (Abort dtid reason) is =
      let m = Abort dtid reason in (λ none. ends_used m dtid is (over table e next sound m dtid is refl), tt)

  -- A message that an end sends has no cause.
  pub said_causeless : (m : Message) → send table e m ≡ Ok next → cause_in m ≡ None
  said_causeless (Abort dtid reason) is = (over table e next sound (Abort dtid reason) dtid is refl).no_cause
  said_causeless m is = refl
