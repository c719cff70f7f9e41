-- What sending a message, an expiry or a closing does to the halves of an end.
use Rattle.std.proofs.Common.{◌≡◌, ◌≢◌, inl, ℤ, ℕ, Bool, true, false, cond, List, [], ◌∷◌, Option, Some, None, Result, Ok, Err, is_none, is_some, not, refl, sym, subst, ◌∙◌}
use Rattle.std.specs.Prelude.{ok_or}
use Rattle.std.specs.Ordering.{int_cmp}
use Rattle.tcap_msg.specs.declared.message.AbortReason.{AbortReason}
use Rattle.tcap_msg.specs.declared.message.Message.{Message}
use Rattle.tcap_msg.specs.declared.message.Message.TheVariants.{Unidirectional, Begin, Continue, End as EndMessage, Abort}
use Rattle.tcap_msg.specs.Parts.{items_of, reason_cause, reason_dialogue}
use Rattle.tcap_parts.specs.declared.code.Code.{Code}
use Rattle.tcap_parts.specs.declared.component.Component.{Component}
use Rattle.tcap_parts.specs.declared.component.Component.TheVariants.{Invoke, ReturnResult, ReturnError, Reject}
use Rattle.tcap_parts.specs.declared.dialogue.Dialogue.{Dialogue}
use Rattle.tcap_parts.specs.declared.problem.Problem.{Problem}
use Rattle.tcap_parts.specs.declared.problem.Problem.TheVariants as problems
use Rattle.tcap_end.specs.declared.fault.EndFault.{EndFault}
use Rattle.tcap_end.specs.declared.fault.EndFault.TheVariants as faults
use Rattle.tcap_end.specs.declared.half.HalfName.{HalfName}
use Rattle.tcap_end.specs.declared.half.Phase.{Phase}
use Rattle.tcap_end.specs.declared.half.Phase.TheVariants as phases
use Rattle.tcap_end.specs.declared.half.Slot.{Slot}
use Rattle.tcap_end.specs.declared.half.Slot.TheVariants.{Begun, Accepted}
use Rattle.tcap_end.specs.Step.{◌>>◌}
use Rattle.tcap_end.specs.Table.{Table, operation_of}
use Rattle.tcap_end.specs.Half.{Answer, Half, Invocation, closed_half, fresh, is_closed, one_fits, without_oldest_of}
use Rattle.tcap_end.specs.Component.{allows, allows_for, may_answer, may_link, own_invocation, send_answer, send_component, send_invoke, send_reject}
use Rattle.tcap_end.specs.End.{End, KeyedHalf, first_half, half_where, is_id, named, put, with_own, with_peer}
use Rattle.tcap_end.specs.Dialogue.{first_dialogue_state, may_abort, may_be_uni, may_begin, may_go_on}
use Rattle.tcap_end.specs.HiddenSteps.{close, expire, may_close, may_expire, without_invocation}
use Rattle.tcap_end.specs.Message.{active_half, is_active, is_received, send, send_abort, send_begin, send_components, send_continue, send_end, send_first_continue, send_next_continue, send_uni_components}
use Rattle.tcap_end.specs.ReachableEnd.{FitsPhase, HasHalf, IsEnd, IsHalf, Rises}
use Rattle.tcap_end.proofs.AnsweringLaws.{needs_ok, ok_same, some_ok, then_ok}
use Rattle.tcap_end.proofs.ComponentLaws.{all_sends}
use Rattle.tcap_end.proofs.FoundLaws.{named_has, none_own, own_has, peer_has}
use Rattle.tcap_end.proofs.HalfLaws.{Follows, IsListed, half_sent, received_is}
use Rattle.tcap_end.proofs.StepLaws.{none_is}
use Rattle.tcap_model.specs.SinceMark.{ended_by}
use Rattle.tcap_model.proofs.Moves.{Moves, Turns, blank}
use Rattle.tcap_model.proofs.TurnLaws.{Lists, id_is, lists_self, lists_then, moves_nowhere, new_moves, put_moves, put_there, taken_loses, turns_closed, turns_kept}

-- ---- halves that a search finds

-- The half found satisfies the condition.
first_passes : (passes : Half → Bool) (slot : Slot) (es : List (List ℕ × Half)) (f : KeyedHalf) → first_half passes slot es ≡ Some f
    → passes f.half ≡ true
first_passes passes slot [] f is = cc
first_passes passes slot ((key, half) ∷ es) f is = by (passes half) refl is (first_passes passes slot es f)
  where
    first : KeyedHalf
    first = record { slot = slot; key = key; half = half }

    by : (b : Bool) → passes half ≡ b → cond b (Some first) (first_half passes slot es) ≡ Some f
        → (first_half passes slot es ≡ Some f → passes f.half ≡ true) → passes f.half ≡ true
    by true so is rest = let same : first ≡ f = cc in subst (λ (g : KeyedHalf). passes g.half ≡ true) same so
    by false so is rest = rest is

-- So does the half found in an end.
found_passes : (passes : Half → Bool) (e : End) (f : KeyedHalf) → half_where passes e ≡ Some f → passes f.half ≡ true
found_passes passes e f is = by (first_half passes Begun e.begun) refl
  where
    by : (o : Option KeyedHalf) → first_half passes Begun e.begun ≡ o → passes f.half ≡ true
    by None none = first_passes passes Accepted e.accepted f (rw none at is)
    by (Some g) some = first_passes passes Begun e.begun f (let same = rw some at is in some ∙ same)

-- The half found by an ID has this ID.
pub own_is : (e : End) (id : List ℕ) (f : KeyedHalf) → with_own e id ≡ Some f → f.half.own ≡ Some id
own_is e id f is = id_is id f.half.own (found_passes (λ h. is_id id h.own) e f is)

pub peer_is : (e : End) (id : List ℕ) (f : KeyedHalf) → with_peer e id ≡ Some f → f.half.peer ≡ Some id
peer_is e id f is = id_is id f.half.peer (found_passes (λ h. is_id id h.peer) e f is)

-- ---- components

-- Answering or rejecting an invocation takes it from the list.
takes_inn : (h : Half) (id : ℤ) (fits : Invocation → Bool) → Rises int_cmp h.inn
    → Lists h (record h { inn = without_oldest_of id fits h.inn })
takes_inn h id fits rises = record { inn = taken_loses id fits h.inn rises; grants = λ id P all. all }

-- Rejecting an answer takes it from the list.
takes_grants : (h : Half) (id : ℤ) (fits : Answer → Bool) → Rises int_cmp h.grants
    → Lists h (record h { grants = without_oldest_of id fits h.grants })
takes_grants h id fits rises = record { inn = λ id P all. all; grants = taken_loses id fits h.grants rises }

-- The step's result is this half.
lists_this : (h x g : Half) → Lists h x → (let r : Result Half EndFault = Ok x in r) ≡ Ok g → Lists h g
lists_this h x g lists is = let same = ok_same {F = EndFault} x g is in rw (← same) lists

-- A Reject is sent.
reject_lists : (h g : Half) (id : Option ℤ) (problem : Problem) → Rises int_cmp h.inn → Rises int_cmp h.grants
    → send_reject h id problem ≡ Ok g → Lists h g
reject_lists h g None problem inn grants is = cc
reject_lists h g (Some id) (problems.General n) inn grants is = cc
reject_lists h g (Some id) (problems.Invoke n) inn grants is =
    lists_this h _ g (takes_inn h id (allows n) inn) (needs_ok _ _ _ g is).1
reject_lists h g (Some id) (problems.ReturnResult n) inn grants is =
    lists_this h _ g (takes_grants h id (allows_for true n) grants) (needs_ok _ _ _ g is).1
reject_lists h g (Some id) (problems.ReturnError n) inn grants is =
    lists_this h _ g (takes_grants h id (allows_for false n) grants) (needs_ok _ _ _ g is).1

-- An Invoke is sent.
invoke_lists : (table : Table) (h g : Half) (id : ℤ) (linked : Option ℤ) (code : Code)
    → send_invoke table h id linked code ≡ Ok g → Lists h g
invoke_lists table h g id linked code is =
    let known = needs_ok (is_some (operation_of table code)) faults.UnknownOperation _ g is in
    let free = needs_ok (is_none (own_invocation h id)) faults.InvokeIdBusy _ g known.1 in
    let may = needs_ok (may_link table h linked code) faults.BadLink _ g free.1 in
    lists_this h _ g (record { inn = λ id P all. all; grants = λ id P all. all }) may.1

-- An answer is sent.
answer_lists : (table : Table) (h g : Half) (is_result last : Bool) (id : ℤ) (named : Option Code) → Rises int_cmp h.inn
    → send_answer table h is_result last id named ≡ Ok g → Lists h g
answer_lists table h g is_result last id named inn is =
    let some = needs_ok (one_fits id (λ item. true) h.inn) faults.NothingToAnswer _ g is in
    let class = needs_ok (one_fits id (may_answer table is_result None) h.inn) faults.ClassForbids _ g some.1 in
    let fits = needs_ok (one_fits id (may_answer table is_result named) h.inn) faults.WrongOperation _ g class.1 in
    by last fits.1
  where
    left : Half
    left = record h { inn = without_oldest_of id (may_answer table is_result named) h.inn }

    by : (b : Bool) → (let r : Result Half EndFault = Ok (cond b left h) in r) ≡ Ok g → Lists h g
    by true is = lists_this h left g (takes_inn h id (may_answer table is_result named) inn) is
    by false is = lists_this h h g (lists_self h) is

-- A component is sent.
component_lists : (table : Table) (h g : Half) (c : Component) → Rises int_cmp h.inn → Rises int_cmp h.grants
    → send_component table h c ≡ Ok g → Lists h g
component_lists table h g (Invoke id linked code parameter) inn grants is = invoke_lists table h g id linked code is
component_lists table h g (ReturnResult last id body) inn grants is = answer_lists table h g true last id _ inn is
component_lists table h g (ReturnError id code parameter) inn grants is = answer_lists table h g false true id None inn is
component_lists table h g (Reject id problem) inn grants is = reject_lists h g id problem inn grants is

pub one_follows : (table : Table) (h g : Half) (c : Component) → send_component table h c ≡ Ok g → Follows h g
one_follows table h g c is = (all_sends table (c ∷ []) h g (rw is refl)).follows

-- A list of components is sent.
all_lists : (table : Table) (components : List Component) (h g : Half) → IsListed h.inn → IsListed h.grants
    → send_components table h components ≡ Ok g → Lists h g
all_lists table [] h g inn grants is = lists_this h h g (lists_self h) is
all_lists table (component ∷ more) h g inn grants is =
    let (next, one, rest) = then_ok (send_component table h component) (λ next. send_components table next more) g is in
    let follows = one_follows table h next component one in
    let first = component_lists table h next component inn.0 grants.0 one in
    lists_then h next g first (all_lists table more next g (follows.inn inn) (follows.grants grants) rest)

-- ---- a half of an end becomes another

-- A half that the end has is replaced.
record Changes (e next : End) : Type 1 where
  was : KeyedHalf
  now : Half
  had : HasHalf e was
  turns : Turns None was.half now
  made : put e was.slot was.key now ≡ next

-- This moves the end.
changes_moves : (e next : End) → Changes e next → Moves None e next
changes_moves e next it = rw (← it.made) (put_moves None e it.was it.now it.had it.turns)

-- The end has the new half.
changes_has : (e next : End) (it : Changes e next) → HasHalf next (record it.was { half = it.now })
changes_has e next it = rw (← it.made) (put_there e it.was.slot it.was.key it.now)

-- The step's result is the next end.
is_this : (x next : End) → (let r : Result End EndFault = Ok x in r) ≡ Ok next → x ≡ next
is_this x next is = ok_same {F = EndFault} x next is

-- Sending components turns a half.
components_turn : (table : Table) (components : List Component) (e : End) (f : KeyedHalf) (g : Half) → IsEnd e → HasHalf e f
    → send_components table f.half components ≡ Ok g → Turns None f.half g
components_turn table components e f g sound had is =
    let follows = (all_sends table components f.half g is).follows in
    let half = sound.halves f had in
    let lists = all_lists table components f.half g half.inn half.grants is in
    turns_kept None f.half g follows.phase follows.own follows.peer follows.dialogue_state lists

-- ---- hidden steps

-- An expiry replaces a half.
expires_in : (table : Table) (e next : End) (name : HalfName) (id : ℤ) → IsEnd e → expire table e name id ≡ Ok next → Changes e next
expires_in table e next name id sound is =
    let (f, ok, step) = then_ok (ok_or (named e name) faults.CannotExpire) _ next is in
    let open_one = needs_ok (not (is_closed f.half.phase)) faults.CannotExpire _ next step in
    let may = needs_ok (may_expire table (own_invocation f.half id)) faults.CannotExpire _ next open_one.1 in
    let left = without_invocation id f.half in
    record {
      was = f;
      now = left;
      had = named_has e name sound f (some_ok _ _ f ok);
      turns = turns_kept None f.half left refl refl refl refl (record { inn = λ id P all. all; grants = λ id P all. all });
      made = is_this _ next may.1;
    }

-- A closing replaces a half.
closes_in : (table : Table) (e next : End) (name : HalfName) → IsEnd e → close table e name ≡ Ok next → Changes e next
closes_in table e next name sound is =
    let (f, ok, step) = then_ok (ok_or (named e name) faults.CannotClose) _ next is in
    let may = needs_ok (may_close table f.half.phase) faults.CannotClose _ next step in
    record {
      was = f;
      now = closed_half f.half;
      had = named_has e name sound f (some_ok _ _ f ok);
      turns = turns_closed None f.half f.half refl refl;
      made = is_this _ next may.1;
    }

-- ---- a Begin

-- a new half with this own ID, which no half had
record Begins (e next : End) (otid : List ℕ) : Type 1 where
  now : Half
  none : with_own e otid ≡ None
  own : now.own ≡ Some otid
  turns : Turns None blank now
  made : put e Begun otid now ≡ next

-- The end has the new half.
begins_has : (e next : End) (otid : List ℕ) → Begins e next otid → (f : KeyedHalf) × HasHalf next f × (f.half.own ≡ Some otid)
begins_has e next otid it = (record { slot = Begun; key = otid; half = it.now }, rw (← it.made) (put_there e Begun otid it.now), it.own)

-- A Begin makes a new half.
begins : (table : Table) (e next : End) (otid : List ℕ) (dialogue : Option Dialogue) (components : List Component)
    → send_begin table e otid dialogue components ≡ Ok next → Begins e next otid
begins table e next otid dialogue components is =
    let free = needs_ok (is_none (with_own e otid)) faults.IdUsed _ next is in
    let may = needs_ok (may_begin dialogue) faults.WrongDialogue _ next free.1 in
    let (g, made, done) = then_ok (send_components table start components) (λ half. Ok (put e Begun otid half)) next may.1 in
    let follows = (all_sends table components start g made).follows in
    record {
      now = g;
      none = none_is (with_own e otid) free.0;
      own = follows.own;
      turns = turns g follows (all_lists table components start g begun.inn begun.grants made);
      made = is_this _ next done;
    }
  where
    start : Half
    start = fresh phases.Sent (Some otid) None (first_dialogue_state dialogue)

    begun : IsHalf start
    begun = half_sent otid dialogue

    turns : (g : Half) → Follows start g → Lists start g → Turns None blank g
    turns g follows lists = record {
      own = λ id is. cc;
      peer = λ id is. cc;
      learned = λ id is. let none = follows.peer in cc;
      asked = λ received asked. let sent = follows.phase in cc;
      closed = λ is. cc;
      inn = λ id P all new. lists.inn id P all;
      grants = λ id P all new. lists.grants id P all;
    }

-- ---- a Continue

-- a half with these IDs is replaced
abbrev GoesOn : End → End → List ℕ → List ℕ → Type 1
GoesOn e next otid dtid = (it : Changes e next) × (it.now.own ≡ Some otid) × (it.now.peer ≡ Some dtid)

-- The first Continue turns a half whose Begin was received.
answer_turns : (f : KeyedHalf) (otid : List ℕ) (g : Half) → IsHalf f.half → f.half.phase ≡ phases.Received
    → Follows (active_half Accepted otid f.half) g → Lists f.half g → Turns None f.half g
answer_turns f otid g half at follows lists = record {
  own = λ id was. let none = fits.0 in cc;
  peer = λ id was. follows.peer ∙ was;
  learned = λ id now. inl (sym follows.peer ∙ now);
  asked = λ received asked. let active = follows.phase in cc;
  closed = λ shut. cc;
  inn = λ id P all new. lists.inn id P all;
  grants = λ id P all new. lists.grants id P all;
}
  where
    fits : FitsPhase phases.Received f.half
    fits = subst (λ (p : Phase). FitsPhase p f.half) at half.phase

-- The first Continue replaces the half with this peer ID.
answers : (table : Table) (e next : End) (otid dtid : List ℕ) (dialogue : Option Dialogue) (components : List Component) → IsEnd e
    → send_first_continue table e otid dtid dialogue components ≡ Ok next → GoesOn e next otid dtid
answers table e next otid dtid dialogue components sound is =
    let (f, ok, step) = then_ok (ok_or (with_peer e dtid) faults.NoTransaction) _ next is in
    let found = some_ok _ _ f ok in
    let had = peer_has e dtid sound f found in
    let half = sound.halves f had in
    let waits = needs_ok (is_received f.half.phase) faults.WrongPhase _ next step in
    let may = needs_ok (may_go_on f.half.phase f.half.dialogue_state dialogue) faults.WrongDialogue _ next waits.1 in
    let start = active_half Accepted otid f.half in
    let (g, made, done) = then_ok (send_components table start components) (λ half. Ok (put e f.slot f.key half)) next may.1 in
    let follows = (all_sends table components start g made).follows in
    let lists = all_lists table components start g half.inn half.grants made in (
      record {
        was = f;
        now = g;
        had = had;
        turns = answer_turns f otid g half (received_is f.half.phase waits.0) follows (record { inn = lists.inn; grants = lists.grants });
        made = is_this _ next done;
      },
      follows.own,
      follows.peer ∙ peer_is e dtid f found,
    )

-- A later Continue replaces the active half.
active_goes_on : (table : Table) (e next : End) (otid dtid : List ℕ) (dialogue : Option Dialogue) (components : List Component)
    (f : KeyedHalf) → with_own e otid ≡ Some f → IsEnd e
    → send_next_continue table e dtid dialogue components f ≡ Ok next → GoesOn e next otid dtid
active_goes_on table e next otid dtid dialogue components f found sound is =
    let active = needs_ok (is_active f.half.phase) faults.WrongPhase _ next is in
    let peer = needs_ok (is_id dtid f.half.peer) faults.NoTransaction _ next active.1 in
    let may = needs_ok (may_go_on f.half.phase f.half.dialogue_state dialogue) faults.WrongDialogue _ next peer.1 in
    let had = own_has e otid sound f found in
    let (g, made, done) = then_ok (send_components table f.half components) (λ half. Ok (put e f.slot f.key half)) next may.1 in
    let follows = (all_sends table components f.half g made).follows in (
      record {
        was = f;
        now = g;
        had = had;
        turns = components_turn table components e f g sound had made;
        made = is_this _ next done;
      },
      follows.own ∙ own_is e otid f found,
      follows.peer ∙ id_is dtid f.half.peer peer.0,
    )

-- Any Continue replaces a half with its IDs.
goes_on : (table : Table) (e next : End) (otid dtid : List ℕ) (dialogue : Option Dialogue) (components : List Component)
    (o : Option KeyedHalf) → with_own e otid ≡ o → IsEnd e
    → send_continue table e otid dtid dialogue components o ≡ Ok next → GoesOn e next otid dtid
goes_on table e next otid dtid dialogue components None found sound is = answers table e next otid dtid dialogue components sound is
goes_on table e next otid dtid dialogue components (Some f) found sound is =
    active_goes_on table e next otid dtid dialogue components f found sound is

-- ---- an End, an Abort

-- the half with this peer ID closes
abbrev Ends : End → End → List ℕ → Type 1
Ends e next dtid = (it : Changes e next) × (it.now.peer ≡ Some dtid) × (it.now.phase ≡ phases.Closed)

-- An End closes it.
ends_half : (table : Table) (e next : End) (dtid : List ℕ) (dialogue : Option Dialogue) (components : List Component) → IsEnd e
    → send_end table e dtid dialogue components ≡ Ok next → Ends e next dtid
ends_half table e next dtid dialogue components sound is =
    let (f, ok, step) = then_ok (ok_or (with_peer e dtid) faults.NoTransaction) _ next is in
    let found = some_ok _ _ f ok in
    let open_one = needs_ok (not (is_closed f.half.phase)) faults.WrongPhase _ next step in
    let may = needs_ok (may_go_on f.half.phase f.half.dialogue_state dialogue) faults.WrongDialogue _ next open_one.1 in
    let (g, made, done) = then_ok (send_components table f.half components) (λ half. Ok (put e f.slot f.key (closed_half half))) next
    may.1 in
    let follows = (all_sends table components f.half g made).follows in (
      record {
        was = f;
        now = closed_half g;
        had = peer_has e dtid sound f found;
        turns = turns_closed None f.half g follows.own follows.peer;
        made = is_this _ next done;
      },
      follows.peer ∙ peer_is e dtid f found,
      refl,
    )

-- So does a user's Abort, which has no cause.
aborts_half : (e next : End) (dtid : List ℕ) (reason : Option AbortReason) → IsEnd e
    → send_abort e dtid reason ≡ Ok next → Ends e next dtid × (is_none (reason_cause reason) ≡ true)
aborts_half e next dtid reason sound is =
    let user = needs_ok (is_none (reason_cause reason)) faults.WrongPhase _ next is in
    let (f, ok, step) = then_ok (ok_or (with_peer e dtid) faults.NoTransaction) _ next user.1 in
    let found = some_ok _ _ f ok in
    let open_one = needs_ok (not (is_closed f.half.phase)) faults.WrongPhase _ next step in
    let may = needs_ok (may_abort f.half.phase f.half.dialogue_state (reason_dialogue reason)) faults.WrongDialogue _ next open_one.1 in (
      (
        record {
          was = f;
          now = closed_half f.half;
          had = peer_has e dtid sound f found;
          turns = turns_closed None f.half f.half refl refl;
          made = is_this _ next may.1;
        },
        peer_is e dtid f found,
        refl,
      ),
      user.0,
    )

-- ---- the steps

-- Sending a message moves an end.
pub sent_moves : (table : Table) (e next : End) (m : Message) → IsEnd e → send table e m ≡ Ok next → Moves None e next
sent_moves table e next m sound is = by m is
  where
    begin : (otid : List ℕ) → Begins e next otid → Moves None e next
    begin otid it = rw (← it.made) (new_moves None e Begun otid it.now apart it.turns)
      where
        apart : (g : KeyedHalf) → HasHalf e g → g.slot ≡ Begun → g.key ≢ otid
        apart g had slots keys = none_own e otid g it.none had (rw (slots, keys) at (sound.kept g had))

    uni : (r : Result (Unit {0}) EndFault) → (r >> Ok e) ≡ Ok next → Moves None e next
    uni (Ok done) is = let same = is_this e next is in rw (← same) (moves_nowhere None e)
    uni (Err reason) is = cc

    by : (m : Message) → send table e m ≡ Ok next → Moves None e next
    by (Unidirectional dialogue components) is =
        let may = needs_ok (may_be_uni dialogue) faults.WrongDialogue _ next is in
        uni (send_uni_components table [] components) may.1
    by (Begin otid dialogue components) is = begin otid (begins table e next otid dialogue (items_of components) is)
    by (Continue otid dtid dialogue components) is =
        changes_moves e next (goes_on table e next otid dtid dialogue (items_of components) (with_own e otid) refl sound is).0
    by (EndMessage dtid dialogue components) is =
        changes_moves e next (ends_half table e next dtid dialogue (items_of components) sound is).0
    by (Abort dtid reason) is = changes_moves e next (aborts_half e next dtid reason sound is).0.0

-- An expiry moves an end.
pub expired_moves : (table : Table) (e next : End) (name : HalfName) (id : ℤ) → IsEnd e
    → expire table e name id ≡ Ok next → Moves None e next
expired_moves table e next name id sound is = changes_moves e next (expires_in table e next name id sound is)

-- A closing moves an end.
pub closed_moves : (table : Table) (e next : End) (name : HalfName) → IsEnd e → close table e name ≡ Ok next → Moves None e next
closed_moves table e next name sound is = changes_moves e next (closes_in table e next name sound is)

-- After a Begin, the end has a half with its originating ID.
pub begin_uses : (table : Table) (e next : End) (otid : List ℕ) (dialogue : Option Dialogue) (components : Option (List Component))
    → IsEnd e → send table e (Begin otid dialogue components) ≡ Ok next → (f : KeyedHalf) × HasHalf next f × (f.half.own ≡ Some otid)
begin_uses table e next otid dialogue components sound is =
    begins_has e next otid (begins table e next otid dialogue (items_of components) is)

-- After a Continue, the end has a half with both IDs.
pub continue_uses : (table : Table) (e next : End) (otid dtid : List ℕ) (dialogue : Option Dialogue) (components : Option (List Component))
    → IsEnd e → send table e (Continue otid dtid dialogue components) ≡ Ok next
    → (f : KeyedHalf) × HasHalf next f × (f.half.own ≡ Some otid) × (f.half.peer ≡ Some dtid)
continue_uses table e next otid dtid dialogue components sound is =
    let it = goes_on table e next otid dtid dialogue (items_of components) (with_own e otid) refl sound is in
    (record it.0.was { half = it.0.now }, changes_has e next it.0, it.1, it.2)

-- After an End or a user's Abort, the half with the destination ID as its peer ID is closed.
pub ending_closes : (table : Table) (e next : End) (m : Message) (id : List ℕ) → IsEnd e → send table e m ≡ Ok next
    → ended_by m ≡ Some id → (f : KeyedHalf) × HasHalf next f × (f.half.peer ≡ Some id) × (f.half.phase ≡ phases.Closed)
ending_closes table e next m id sound is ends = by m is ends
  where
    there : (dtid : List ℕ) → dtid ≡ id → Ends e next dtid
        → (f : KeyedHalf) × HasHalf next f × (f.half.peer ≡ Some id) × (f.half.phase ≡ phases.Closed)
    there dtid same it = (record it.0.was { half = it.0.now }, changes_has e next it.0, rw (← same) (it.1), it.2)

    by : (m : Message) → send table e m ≡ Ok next → ended_by m ≡ Some id
        → (f : KeyedHalf) × HasHalf next f × (f.half.peer ≡ Some id) × (f.half.phase ≡ phases.Closed)
    by (Unidirectional dialogue components) is ends = cc
    by (Begin otid dialogue components) is ends = cc
    by (Continue otid dtid dialogue components) is ends = cc
    by (EndMessage dtid dialogue components) is ends =
        let same : dtid ≡ id = cc in
        there dtid same (ends_half table e next dtid dialogue (items_of components) sound is)
    by (Abort dtid reason) is ends =
        let it = aborts_half e next dtid reason sound is in
        let now = rw (it.1) at ends in
        let same : dtid ≡ id = cc in there dtid same it.0
