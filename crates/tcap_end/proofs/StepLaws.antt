-- Each step keeps an end sound, and changes no closed half.
use Rattle.std.proofs.Common.{◌≡◌, ℕ, ℤ, Bool, true, false, cond, List, [], Option, Some, None, Result, Ok, Err, is_none, refl}
use Rattle.std.specs.Prelude.{ok_or}
use Rattle.std.proofs.lemmas.Bool.{not-true}
use Rattle.tcap_parts.specs.declared.component.Component.{Component}
use Rattle.tcap_parts.specs.declared.dialogue.Dialogue.{Dialogue}
use Rattle.tcap_msg.specs.declared.message.AbortReason.{AbortReason}
use Rattle.tcap_msg.specs.declared.message.Message.{Message}
use Rattle.tcap_msg.specs.declared.message.Message.TheVariants.{Unidirectional, Begin, Continue, End as EndMessage, Abort}
use Rattle.tcap_msg.specs.Parts.{items_of}
use Rattle.tcap_end.specs.declared.fault.EndFault.{EndFault}
use Rattle.tcap_end.specs.declared.fault.EndFault.TheVariants as faults
use Rattle.tcap_end.specs.declared.half.HalfName.{HalfName}
use Rattle.tcap_end.specs.declared.half.Phase.{Phase}
use Rattle.tcap_end.specs.declared.half.Phase.TheVariants as phases
use Rattle.tcap_end.specs.declared.half.Slot.TheVariants.{Begun, Accepted}
use Rattle.tcap_end.specs.Table.{Table}
use Rattle.tcap_end.specs.Half.{Half, closed_half, fresh, is_closed}
use Rattle.tcap_end.specs.End.{End, KeyedHalf, is_id, named, put, with_own, with_peer}
use Rattle.tcap_end.specs.Step.{◌>>◌}
use Rattle.tcap_end.specs.Dialogue.{first_dialogue_state, may_go_on}
use Rattle.tcap_end.specs.Message.{active_half, is_active, receive, receive_begin, receive_components, receive_continue, receive_end, receive_over, send, send_abort, send_begin, send_components, send_continue, send_end, send_first_continue, send_next_continue, send_uni, send_uni_components}
use Rattle.tcap_end.specs.HiddenSteps.{close, expire, may_close, without_invocation}
use Rattle.tcap_end.specs.ReachableEnd.{HasHalf, IsEnd, IsHalf}
use Rattle.tcap_end.proofs.AnsweringLaws.{needs_ok, ok_same, some_ok, then_ok}
use Rattle.tcap_end.proofs.HalfLaws.{active_is, half_answered, half_closed, half_follows, half_learned, half_received, half_sent, half_without, received_is}
use Rattle.tcap_end.proofs.ComponentLaws.{Receives, all_receives, all_sends}
use Rattle.tcap_end.proofs.FoundLaws.{named_has, own_has, peer_has}
use Rattle.tcap_end.proofs.EndLaws.{Goes, goes_nowhere, put_answered, put_learned, put_open, put_received, put_sent}

-- ---- conditions

pub none_is : {A : Type 0} (o : Option A) → is_none o ≡ true → o ≡ None
none_is None is = refl
none_is (Some x) is = cc

closes_open : (table : Table) (p : Phase) → may_close table p ≡ true → is_closed p ≡ false
closes_open table phases.Sent is = refl
closes_open table phases.Received is = refl
closes_open table phases.Active is = refl
closes_open table phases.Closed is = cc

-- the end after a step that was Ok
goes_this : (e x next : End) → Goes e x → (let r : Result End EndFault = Ok x in r) ≡ Ok next → Goes e next
goes_this e x next goes is = let same = ok_same {F = EndFault} x next is in rw (← same) goes

-- ---- hidden steps

-- An invocation expires.
pub expires : (table : Table) (e next : End) (name : HalfName) (id : ℤ) → IsEnd e → expire table e name id ≡ Ok next → Goes e next
expires table e next name id sound is =
    let (f, ok, step) = then_ok (ok_or (named e name) faults.CannotExpire) _ next is in
    let had = named_has e name sound f (some_ok _ _ f ok) in
    let open_one = needs_ok _ _ _ next step in
    let may = needs_ok _ _ _ next open_one.1 in
    goes_this e _ next
    (put_open e f (without_invocation id f.half) sound had (not-true _ open_one.0) (half_without f.half id (sound.halves f had)) refl refl) may.1

-- A half closes without a message.
pub closes : (table : Table) (e next : End) (name : HalfName) → IsEnd e → close table e name ≡ Ok next → Goes e next
closes table e next name sound is =
    let (f, ok, step) = then_ok (ok_or (named e name) faults.CannotClose) _ next is in
    let had = named_has e name sound f (some_ok _ _ f ok) in
    let may = needs_ok _ _ _ next step in
    goes_this e _ next
    (put_open e f (closed_half f.half) sound had (closes_open table f.half.phase may.0) (half_closed f.half) refl refl) may.1

-- ---- receiving

begin_comes : (table : Table) (e next : End) (otid : List ℕ) (dialogue : Option Dialogue) (components : List Component) → IsEnd e
    → receive_begin table e otid dialogue components ≡ Ok next → Goes e next
begin_comes table e next otid dialogue components sound is =
    let step = needs_ok _ _ _ next is in
    let half = half_follows phases.Received start _ refl (half_received otid dialogue) comes.follows comes.out tt in
    goes_this e _ next
    (put_received e otid _ sound half (none_is (with_peer e otid) step.0) comes.follows.peer comes.follows.own) step.1
  where
    start : Half
    start = fresh phases.Received None (Some otid) (first_dialogue_state dialogue)

    comes : Receives start (receive_components table start components)
    comes = all_receives table components start

-- A Continue answers a Begin, or is received over an active half.
half_comes : (table : Table) (e next : End) (otid : List ℕ) (dialogue : Option Dialogue) (components : List Component) (f : KeyedHalf)
    → IsEnd e → HasHalf e f → receive_over table e otid dialogue components f f.half.phase ≡ Ok next → Goes e next
half_comes table e next otid dialogue components f sound had is = by f.half.phase refl is
  where
    half : IsHalf f.half
    half = sound.halves f had

    by : (p : Phase) → f.half.phase ≡ p → receive_over table e otid dialogue components f p ≡ Ok next → Goes e next
    by phases.Sent at is =
        let free = needs_ok _ _ _ next is in
        let asked = needs_ok _ _ _ next free.1 in
        let fits = rw at at half.phase in
        let comes = all_receives table components (active_half Begun otid f.half) in
        let start = half_learned otid f.half at half in
        let goes_on = half_follows phases.Active (active_half Begun otid f.half) _ refl start comes.follows tt tt in
        goes_this e _ next
        (put_learned e f otid _ sound had (rw at refl) goes_on (none_is (with_peer e otid) free.0) fits.1 comes.follows.peer
        comes.follows.own) asked.1
    by phases.Active at is =
        let step = needs_ok _ _ _ next is in
        let comes = all_receives table components f.half in
        let goes_on = half_follows phases.Active f.half _ at half comes.follows tt tt in
        goes_this e _ next (put_open e f _ sound had (rw at refl) goes_on comes.follows.own comes.follows.peer) step.1
    by phases.Received at is = cc
    by phases.Closed at is = cc

continue_comes : (table : Table) (e next : End) (otid dtid : List ℕ) (dialogue : Option Dialogue) (components : List Component)
    → IsEnd e → receive_continue table e otid dtid dialogue components ≡ Ok next → Goes e next
continue_comes table e next otid dtid dialogue components sound is =
    let (f, ok, step) = then_ok (ok_or (with_own e dtid) faults.NoTransaction) _ next is in
    half_comes table e next otid dialogue components f sound (own_has e dtid sound f (some_ok _ _ f ok)) step

end_comes : (e : End) (o : Option KeyedHalf) → ((f : KeyedHalf) → o ≡ Some f → HasHalf e f) → IsEnd e → Goes e (receive_end e o)
end_comes e None had sound = goes_nowhere e sound
end_comes e (Some f) had sound = by (is_closed f.half.phase) refl
  where
    by : (b : Bool) → is_closed f.half.phase ≡ b → Goes e (cond b e (put e f.slot f.key (closed_half f.half)))
    by true is = goes_nowhere e sound
    by false is = put_open e f (closed_half f.half) sound (had f refl) is (half_closed f.half) refl refl

pub receives : (table : Table) (e next : End) (m : Message) → IsEnd e → receive table e m ≡ Ok next → Goes e next
receives table e next m sound is = by m is
  where
    ended : (id : List ℕ) → (let r : Result End EndFault = Ok (receive_end e (with_own e id)) in r) ≡ Ok next → Goes e next
    ended id is = goes_this e _ next (end_comes e (with_own e id) (own_has e id sound) sound) is

    by : (m : Message) → receive table e m ≡ Ok next → Goes e next
    by (Unidirectional dialogue components) is = goes_this e e next (goes_nowhere e sound) is
    by (Begin otid dialogue components) is = begin_comes table e next otid dialogue (items_of components) sound is
    by (Continue otid dtid dialogue components) is = continue_comes table e next otid dtid dialogue (items_of components) sound is
    by (EndMessage dtid dialogue components) is = ended dtid is
    by (Abort dtid reason) is = ended dtid is

-- ---- sending

begin_goes : (table : Table) (e next : End) (otid : List ℕ) (dialogue : Option Dialogue) (components : List Component) → IsEnd e
    → send_begin table e otid dialogue components ≡ Ok next → Goes e next
begin_goes table e next otid dialogue components sound is =
    let free = needs_ok _ _ _ next is in
    let may = needs_ok _ _ _ next free.1 in
    let (g, made, put) = then_ok (send_components table start components) _ next may.1 in
    let goes = all_sends table components start g made in
    let half = half_follows phases.Sent start g refl (half_sent otid dialogue) goes.follows tt (goes.inn, goes.grants) in
    goes_this e _ next
    (put_sent e otid g sound half (none_is (with_own e otid) free.0) goes.follows.own goes.follows.peer) put
  where
    start : Half
    start = fresh phases.Sent (Some otid) None (first_dialogue_state dialogue)

first_goes : (table : Table) (e next : End) (otid dtid : List ℕ) (dialogue : Option Dialogue) (components : List Component)
    → with_own e otid ≡ None → IsEnd e → send_first_continue table e otid dtid dialogue components ≡ Ok next → Goes e next
first_goes table e next otid dtid dialogue components none sound is =
    let (f, ok, step) = then_ok (ok_or (with_peer e dtid) faults.NoTransaction) _ next is in
    let had = peer_has e dtid sound f (some_ok _ _ f ok) in
    let waits = needs_ok _ _ _ next step in
    let may = needs_ok _ _ _ next waits.1 in
    let at = received_is f.half.phase waits.0 in
    let start = active_half Accepted otid f.half in
    let half = sound.halves f had in
    let fits = rw at at half.phase in
    let (g, made, put) = then_ok (send_components table start components) _ next may.1 in
    let goes = all_sends table components start g made in
    let goes_on = half_follows phases.Active start g refl (half_answered otid f.half at half) goes.follows tt tt in
    goes_this e _ next
    (put_answered e f otid g sound had (rw at refl) goes_on none fits.0 goes.follows.own goes.follows.peer) put

next_goes : (table : Table) (e next : End) (dtid : List ℕ) (dialogue : Option Dialogue) (components : List Component) (f : KeyedHalf)
    → HasHalf e f → IsEnd e → send_next_continue table e dtid dialogue components f ≡ Ok next → Goes e next
next_goes table e next dtid dialogue components f had sound is =
    let active = needs_ok (is_active f.half.phase) faults.WrongPhase _ next is in
    let peer = needs_ok (is_id dtid f.half.peer) faults.NoTransaction _ next active.1 in
    let may = needs_ok (may_go_on f.half.phase f.half.dialogue_state dialogue) faults.WrongDialogue _ next peer.1 in
    let at = active_is f.half.phase active.0 in
    let (g, made, put) = then_ok (send_components table f.half components) (λ half. Ok (put e f.slot f.key half)) next may.1 in
    let goes = all_sends table components f.half g made in
    let goes_on = half_follows phases.Active f.half g at (sound.halves f had) goes.follows tt tt in
    goes_this e _ next (put_open e f g sound had (rw at refl) goes_on goes.follows.own goes.follows.peer) put

continue_goes : (table : Table) (e next : End) (otid dtid : List ℕ) (dialogue : Option Dialogue) (components : List Component)
    (o : Option KeyedHalf) → with_own e otid ≡ o → IsEnd e → send_continue table e otid dtid dialogue components o ≡ Ok next → Goes e next
continue_goes table e next otid dtid dialogue components None found sound is =
    first_goes table e next otid dtid dialogue components found sound is
continue_goes table e next otid dtid dialogue components (Some f) found sound is =
    next_goes table e next dtid dialogue components f (own_has e otid sound f found) sound is

end_goes : (table : Table) (e next : End) (dtid : List ℕ) (dialogue : Option Dialogue) (components : List Component) → IsEnd e
    → send_end table e dtid dialogue components ≡ Ok next → Goes e next
end_goes table e next dtid dialogue components sound is =
    let (f, ok, step) = then_ok (ok_or (with_peer e dtid) faults.NoTransaction) _ next is in
    let had = peer_has e dtid sound f (some_ok _ _ f ok) in
    let open_one = needs_ok _ _ _ next step in
    let may = needs_ok _ _ _ next open_one.1 in
    let (g, made, put) = then_ok (send_components table f.half components) _ next may.1 in
    let follows = (all_sends table components f.half g made).follows in
    goes_this e _ next
    (put_open e f (closed_half g) sound had (not-true _ open_one.0) (half_closed g) follows.own follows.peer) put

abort_goes : (e next : End) (dtid : List ℕ) (reason : Option AbortReason) → IsEnd e → send_abort e dtid reason ≡ Ok next → Goes e next
abort_goes e next dtid reason sound is =
    let user = needs_ok _ _ _ next is in
    let (f, ok, step) = then_ok (ok_or (with_peer e dtid) faults.NoTransaction) _ next user.1 in
    let had = peer_has e dtid sound f (some_ok _ _ f ok) in
    let open_one = needs_ok _ _ _ next step in
    let may = needs_ok _ _ _ next open_one.1 in
    goes_this e _ next
    (put_open e f (closed_half f.half) sound had (not-true _ open_one.0) (half_closed f.half) refl refl) may.1

uni_goes : (table : Table) (e next : End) (dialogue : Option Dialogue) (components : List Component) → IsEnd e
    → send_uni table e dialogue components ≡ Ok next → Goes e next
uni_goes table e next dialogue components sound is =
    let may = needs_ok _ _ _ next is in
    by (send_uni_components table [] components) may.1
  where
    by : (r : Result (Unit {0}) EndFault) → (r >> Ok e) ≡ Ok next → Goes e next
    by (Ok done) is = goes_this e e next (goes_nowhere e sound) is
    by (Err reason) is = cc

pub sends : (table : Table) (e next : End) (m : Message) → IsEnd e → send table e m ≡ Ok next → Goes e next
sends table e next m sound is = by m is
  where
    by : (m : Message) → send table e m ≡ Ok next → Goes e next
    by (Unidirectional dialogue components) is = uni_goes table e next dialogue components sound is
    by (Begin otid dialogue components) is = begin_goes table e next otid dialogue (items_of components) sound is
    by (Continue otid dtid dialogue components) is =
        continue_goes table e next otid dtid dialogue (items_of components) (with_own e otid) refl sound is
    by (EndMessage dtid dialogue components) is = end_goes table e next dtid dialogue (items_of components) sound is
    by (Abort dtid reason) is = abort_goes e next dtid reason sound is
