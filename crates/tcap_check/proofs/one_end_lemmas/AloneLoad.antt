-- The load of an end, which is the count of its open halves and their own invocations: how each step changes it.
use Rattle.std.proofs.Common.{arith, ◌≡◌, ◌≤◌, ◌+◌, ℕ, ℤ, Bool, true, false, cond, List, [], ◌∷◌, length, Option, Some, None, Result, Ok, Err, is_none, is_some, refl, subst}
use Rattle.std.specs.Prelude.{not, ok_or}
use Rattle.std.specs.BTreeMap.{insert_entry, is_at}
use Rattle.std.specs.Ordering.{int_cmp}
use Rattle.std.proofs.lemmas.Cmp.{int_cmp_total}
use Rattle.tcap_parts.specs.declared.code.Code.{Code}
use Rattle.tcap_parts.specs.declared.problem.Problem.{Problem}
use Rattle.tcap_parts.specs.declared.problem.Problem.TheVariants as problems
use Rattle.tcap_parts.specs.declared.component.Component.{Component}
use Rattle.tcap_parts.specs.declared.component.Component.TheVariants.{Invoke, ReturnResult, ReturnError, Reject}
use Rattle.tcap_parts.specs.declared.dialogue.Dialogue.{Dialogue}
use Rattle.tcap_msg.specs.declared.message.AbortReason.{AbortReason}
use Rattle.tcap_msg.specs.declared.message.Message.{Message}
use Rattle.tcap_msg.specs.declared.message.Message.TheVariants.{Unidirectional, Begin, Continue, End as EndMessage, Abort}
use Rattle.tcap_msg.specs.Parts.{components_in, items_of, reason_cause, reason_dialogue}
use Rattle.tcap_end.specs.declared.fault.EndFault.{EndFault}
use Rattle.tcap_end.specs.declared.fault.EndFault.TheVariants as faults
use Rattle.tcap_end.specs.declared.half.HalfName.{HalfName}
use Rattle.tcap_end.specs.declared.half.InvocationState.TheVariants as states
use Rattle.tcap_end.specs.declared.half.Phase.{Phase}
use Rattle.tcap_end.specs.declared.half.Phase.TheVariants as phases
use Rattle.tcap_end.specs.declared.half.Slot.TheVariants.{Begun, Accepted}
use Rattle.tcap_end.specs.declared.own_invocations.OwnInvocation.{OwnInvocation}
use Rattle.tcap_end.specs.Class.{reports}
use Rattle.tcap_end.specs.Table.{Table, operation_of}
use Rattle.tcap_end.specs.Half.{Half, closed_half, fresh, is_closed, one_fits, without_oldest_of}
use Rattle.tcap_end.specs.Component.{allows, allows_for, answer_problems, answered_operation, may_answer, may_link, own_invocation, receive_answer, receive_component, send_answer, send_component, send_invoke, send_reject, wait_for_reject, with_grant}
use Rattle.tcap_end.specs.Dialogue.{answers_request, first_dialogue_state, may_abort, may_begin, may_go_on}
use Rattle.tcap_end.specs.End.{End, KeyedHalf, is_id, named, put, with_own, with_peer}
use Rattle.tcap_end.specs.HiddenSteps.{close, expire, may_close, may_expire, without_invocation}
use Rattle.tcap_end.specs.Message.{active_half, is_active, is_received, receive, receive_components, receive_end, receive_over, send, send_abort, send_begin, send_components, send_continue, send_end, send_first_continue, send_next_continue, send_uni, send_uni_components}
use Rattle.tcap_end.specs.Step.{◌>>◌}
use Rattle.tcap_end.specs.ReachableEnd.{HasHalf, IsEnd, Rises}
use Rattle.tcap_end.proofs.AnsweringLaws.{needs_ok, ok_same, some_ok, then_ok}
use Rattle.tcap_end.proofs.ComponentLaws.{all_receives, all_sends}
use Rattle.tcap_end.proofs.FoundLaws.{named_has, own_has, peer_has}
use Rattle.tcap_end.proofs.HalfLaws.{received_is}
use Rattle.tcap_check.proofs.one_end_lemmas.AloneWeights.{half_most, half_over, halves_weigh, put_again, put_most, taken_most, taken_one}

-- 1 if a half in this phase is open, else 0
abbrev opens : Phase → ℕ
opens p = cond (is_closed p) 0 1

-- the load of a half: itself, if it is open, and its own invocations
abbrev pub alive : Half → ℕ
alive h = opens h.phase + length h.out

-- the load of an end
abbrev pub load : End → ℕ
load e = halves_weigh alive e

-- ---- halves

open_most : (p : Phase) → opens p ≤ 1
open_most phases.Sent = omega arith
open_most phases.Received = omega arith
open_most phases.Active = omega arith
open_most phases.Closed = omega arith

open_one : (p : Phase) → is_closed p ≡ false → opens p ≡ 1
open_one phases.Sent is = refl
open_one phases.Received is = refl
open_one phases.Active is = refl
open_one phases.Closed is = cc

-- If only the lists of a half change, its load grows at most as these do.
same_phase : (h g : Half) (more : ℕ) → g.phase ≡ h.phase → length g.out ≤ length h.out + more → alive g ≤ alive h + more
same_phase h g more phase lists = rw phase (omega (arith, lists))

-- ---- components

-- The half after a component was sent equals the half that the step returned.
out_of : (h x g : Half) (most : ℕ) → length x.out ≤ most → (let r : Result Half EndFault = Ok x in r) ≡ Ok g
    → length g.out ≤ most
out_of h x g most short is = subst (λ (k : Half). length k.out ≤ most) (ok_same {F = EndFault} x g is) short

invoke_out : (table : Table) (h g : Half) (id : ℤ) (linked : Option ℤ) (code : Code)
    → send_invoke table h id linked code ≡ Ok g
    → length g.out ≤ length h.out + 1
invoke_out table h g id linked code is =
    let known = needs_ok (is_some (operation_of table code)) faults.UnknownOperation _ g is in
    let free = needs_ok (is_none (own_invocation h id)) faults.InvokeIdBusy _ g known.1 in
    let may = needs_ok (may_link table h linked code) faults.BadLink _ g free.1 in
    let made : OwnInvocation = record { code = code; state = states.OperationSent } in
    out_of h (record h { out = insert_entry int_cmp h.out id made }) g (length h.out + 1)
    (put_most int_cmp id made h.out) may.1

answer_out : (table : Table) (h g : Half) (is_result last : Bool) (id : ℤ) (name : Option Code)
    → send_answer table h is_result last id name ≡ Ok g → length g.out ≤ length h.out + 1
answer_out table h g is_result last id name is =
    let some = needs_ok (one_fits id (λ item. true) h.inn) faults.NothingToAnswer _ g is in
    let class = needs_ok (one_fits id (may_answer table is_result None) h.inn) faults.ClassForbids _ g some.1 in
    let fits = needs_ok (one_fits id (may_answer table is_result name) h.inn) faults.WrongOperation _ g class.1 in
    by last fits.1
  where
    left : Half
    left = record h { inn = without_oldest_of id (may_answer table is_result name) h.inn }

    by : (b : Bool) → (let r : Result Half EndFault = Ok (cond b left h) in r) ≡ Ok g → length g.out ≤ length h.out + 1
    by true is = out_of h left g (length h.out + 1) (omega arith) is
    by false is = out_of h h g (length h.out + 1) (omega arith) is

reject_out : (h g : Half) (id : Option ℤ) (problem : Problem) → send_reject h id problem ≡ Ok g
    → length g.out ≤ length h.out + 1
reject_out h g None problem is = cc
reject_out h g (Some id) (problems.General n) is = cc
reject_out h g (Some id) (problems.Invoke n) is =
    let step = needs_ok (one_fits id (allows n) h.inn) faults.RejectNotAllowed _ g is in
    out_of h (record h { inn = without_oldest_of id (allows n) h.inn }) g (length h.out + 1) (omega arith) step.1
reject_out h g (Some id) (problems.ReturnResult n) is =
    let step = needs_ok (one_fits id (allows_for true n) h.grants) faults.RejectNotAllowed _ g is in
    out_of h (record h { grants = without_oldest_of id (allows_for true n) h.grants }) g (length h.out + 1)
    (omega arith) step.1
reject_out h g (Some id) (problems.ReturnError n) is =
    let step = needs_ok (one_fits id (allows_for false n) h.grants) faults.RejectNotAllowed _ g is in
    out_of h (record h { grants = without_oldest_of id (allows_for false n) h.grants }) g (length h.out + 1)
    (omega arith) step.1

component_out : (table : Table) (h g : Half) (c : Component) → send_component table h c ≡ Ok g
    → length g.out ≤ length h.out + 1
component_out table h g (Invoke id linked code parameter) is = invoke_out table h g id linked code is
component_out table h g (ReturnResult last id body) is = answer_out table h g true last id _ is
component_out table h g (ReturnError id code parameter) is = answer_out table h g false true id None is
component_out table h g (Reject id problem) is = reject_out h g id problem is

components_out : (table : Table) (components : List Component) (h g : Half) → send_components table h components ≡ Ok g
    → length g.out ≤ length h.out + length components
components_out table [] h g is = out_of h h g (length h.out + 0) (omega arith) is
components_out table (component ∷ more) h g is =
    let (next, one, rest) = then_ok (send_component table h component) (λ next. send_components table next more) g is in
    omega (arith, component_out table h next component one, components_out table more next g rest)

-- Each component that is sent begins at most one invocation.
pub sent_alive : (table : Table) (components : List Component) (h g : Half) → send_components table h components ≡ Ok g
    → alive g ≤ alive h + length components
sent_alive table components h g is =
    same_phase h g (length components) ((all_sends table components h g is).follows.phase)
    (components_out table components h g is)

-- An answer does not begin an invocation.
answer_keeps : (table : Table) (h : Half) (is_result last : Bool) (id : ℤ) → Rises int_cmp h.out
    → length (receive_answer h is_result last id (answered_operation table h id)).out ≤ length h.out
answer_keeps table h is_result last id rises = by (own_invocation h id) refl
  where
    waits : (c b : Bool) (code : Code) (problems : List ℕ) (own : OwnInvocation) → own_invocation h id ≡ Some own
        → length (cond c (with_grant (cond b (wait_for_reject h id code) h) id is_result problems)
        (with_grant h id is_result (1 ∷ []))).out ≤ length h.out
    waits true true code problems own found =
        let made : OwnInvocation = record { code = code; state = states.WaitForReject } in
        omega (arith, put_again int_cmp_total id made own h.out rises found)
    waits true false code problems own found = omega arith
    waits false b code problems own found = omega arith

    some : (own : OwnInvocation) → own_invocation h id ≡ Some own → (o : Option (Code × ℕ))
        → length (receive_answer h is_result last id o).out ≤ length h.out
    some own found None = omega arith
    some own found (Some (code, class)) =
        waits (reports is_result class) last code (answer_problems is_result) own found

    by : (o : Option OwnInvocation) → own_invocation h id ≡ o
        → length (receive_answer h is_result last id (answered_operation table h id)).out ≤ length h.out
    by None found = rw found (omega arith)
    by (Some own) found = some own found (answered_operation table h id)

component_keeps : (table : Table) (h : Half) (c : Component) → Rises int_cmp h.out
    → length (receive_component table h c).out ≤ length h.out
component_keeps table h (Invoke id linked code parameter) rises = omega arith
component_keeps table h (ReturnResult last id body) rises = answer_keeps table h true last id rises
component_keeps table h (ReturnError id code parameter) rises = answer_keeps table h false true id rises
component_keeps table h (Reject None problem) rises = omega arith
component_keeps table h (Reject (Some id) (problems.General n)) rises = omega arith
component_keeps table h (Reject (Some id) (problems.Invoke n)) rises = taken_most (is_at (int_cmp id)) h.out
component_keeps table h (Reject (Some id) (problems.ReturnResult n)) rises = omega arith
component_keeps table h (Reject (Some id) (problems.ReturnError n)) rises = omega arith

components_keep : (table : Table) (components : List Component) (h : Half) → Rises int_cmp h.out
    → length (receive_components table h components).out ≤ length h.out
components_keep table [] h rises = omega arith
components_keep table (component ∷ more) h rises =
    let next = (all_receives table (component ∷ []) h).follows.out rises in
    omega (
      arith,
      component_keeps table h component rises,
      components_keep table more
          (receive_component table h component) next,
    )

-- No component that is received begins an own invocation.
pub received_alive : (table : Table) (components : List Component) (h : Half) → Rises int_cmp h.out
    → alive (receive_components table h components) ≤ alive h
received_alive table components h rises =
    let g = receive_components table h components in
    let most = same_phase h g 0 ((all_receives table components h).follows.phase)
    (omega (arith, components_keep table components h rises)) in
    omega (arith, most)

-- ---- hidden steps

-- the end after a step that replaces a half equals the end that the step returned
load_of : (x next : End) (most : ℕ) → load x ≤ most → (let r : Result End EndFault = Ok x in r) ≡ Ok next
    → load next ≤ most
load_of x next most low is = subst (λ (e : End). load e ≤ most) (ok_same {F = EndFault} x next is) low

-- A half with a smaller load makes the load of the end smaller.
one_fewer : (e : End) (f : KeyedHalf) (h : Half) (next : End) → IsEnd e → HasHalf e f → alive h + 1 ≤ alive f.half
    → (let r : Result End EndFault = Ok (put e f.slot f.key h) in r) ≡ Ok next → load next + 1 ≤ load e
one_fewer e f h next sound had fewer is =
    subst (λ (x : End). load x + 1 ≤ load e) (ok_same {F = EndFault} (put e f.slot f.key h) next is)
    (omega (arith, half_over alive e f h sound had, fewer))

-- An expiry makes the load smaller.
pub expires_load : (table : Table) (e next : End) (name : HalfName) (id : ℤ) → IsEnd e
    → expire table e name id ≡ Ok next
    → load next + 1 ≤ load e
expires_load table e next name id sound is =
    let (f, ok, step) = then_ok (ok_or (named e name) faults.CannotExpire) _ next is in
    let had = named_has e name sound f (some_ok _ _ f ok) in
    let is_open = needs_ok _ _ _ next step in
    let may = needs_ok _ _ _ next is_open.1 in
    one_fewer e f (without_invocation id f.half)
    next sound had (fewer f.half (own_invocation f.half id) refl may.0) may.1
  where
    fewer : (h : Half) (o : Option OwnInvocation) → own_invocation h id ≡ o → may_expire table o ≡ true
        → alive (without_invocation id h) + 1 ≤ alive h
    fewer h None found may = cc
    fewer h (Some own) found may = omega (arith, taken_one (is_at (int_cmp id)) own h.out found)

-- A closing makes the load smaller.
pub closes_load : (table : Table) (e next : End) (name : HalfName) → IsEnd e → close table e name ≡ Ok next
    → load next + 1 ≤ load e
closes_load table e next name sound is =
    let (f, ok, step) = then_ok (ok_or (named e name) faults.CannotClose) _ next is in
    let had = named_has e name sound f (some_ok _ _ f ok) in
    let may = needs_ok _ _ _ next step in
    one_fewer e f (closed_half f.half) next sound had (fewer f.half f.half.phase refl may.0) may.1
  where
    fewer : (h : Half) (p : Phase) → h.phase ≡ p → may_close table p ≡ true → alive (closed_half h) + 1 ≤ alive h
    fewer h phases.Sent at may = omega (arith, open_one h.phase (rw at refl))
    fewer h phases.Received at may = omega (arith, open_one h.phase (rw at refl))
    fewer h phases.Active at may = omega (arith, open_one h.phase (rw at refl))
    fewer h phases.Closed at may = cc

-- ---- receiving

-- If a half is replaced, the load of the end grows at most as that of the half.
put_over : (e : End) (f : KeyedHalf) (h : Half) (more : ℕ) → IsEnd e → HasHalf e f → alive h ≤ alive f.half + more
    → load (put e f.slot f.key h) ≤ load e + more
put_over e f h more sound had most = omega (arith, half_over alive e f h sound had, most)

-- A half that is closed does not add to the load.
put_closed : (e : End) (f : KeyedHalf) (h : Half) → IsEnd e → HasHalf e f
    → load (put e f.slot f.key (closed_half h)) ≤ load e
put_closed e f h sound had = omega (arith, half_over alive e f (closed_half h) sound had)

over_load : (table : Table) (e next : End) (otid : List ℕ) (dialogue : Option Dialogue) (components : List Component)
    (f : KeyedHalf)
    → IsEnd e → HasHalf e f → receive_over table e otid dialogue components f f.half.phase ≡ Ok next
    → load next ≤ load e + 0
over_load table e next otid dialogue components f sound had is = by f.half.phase refl is
  where
    rises : Rises int_cmp f.half.out
    rises = (sound.halves f had).out

    by : (p : Phase) → f.half.phase ≡ p → receive_over table e otid dialogue components f p ≡ Ok next
        → load next ≤ load e + 0
    by phases.Sent at is =
        let free = needs_ok (is_none (with_peer e otid)) faults.IdUsed _ next is in
        let asked = needs_ok (answers_request f.half.dialogue_state dialogue) faults.WrongDialogue _ next free.1 in
        let most = received_alive table components (active_half Begun otid f.half) rises in
        let was = open_one f.half.phase (rw at refl) in
        load_of (put e f.slot f.key (receive_components table (active_half Begun otid f.half) components))
        next (load e + 0)
        (put_over e f (receive_components table (active_half Begun otid f.half) components)
        0 sound had (omega (arith, most, was)))
        asked.1
    by phases.Active at is =
        let step = needs_ok (is_id otid f.half.peer) faults.NoTransaction _ next is in
        let most = received_alive table components f.half rises in
        load_of (put e f.slot f.key (receive_components table f.half components)) next (load e + 0)
        (put_over e f (receive_components table f.half components) 0 sound had (omega (arith, most))) step.1
    by phases.Received at is = cc
    by phases.Closed at is = cc

ended_load : (e : End) (o : Option KeyedHalf) → ((f : KeyedHalf) → o ≡ Some f → HasHalf e f) → IsEnd e
    → load (receive_end e o) ≤ load e
ended_load e None had sound = omega arith
ended_load e (Some f) had sound = by (is_closed f.half.phase)
  where
    by : (b : Bool) → load (cond b e (put e f.slot f.key (closed_half f.half))) ≤ load e
    by true = omega arith
    by false = put_closed e f f.half sound (had f refl)

-- A message that is received begins at most one half.
pub receives_load : (table : Table) (e next : End) (m : Message) → IsEnd e → receive table e m ≡ Ok next
    → load next ≤ load e + 1
receives_load table e next m sound is = by m is
  where
    ended : (id : List ℕ) → (let r : Result End EndFault = Ok (receive_end e (with_own e id)) in r) ≡ Ok next
        → load next ≤ load e + 1
    ended id is =
        load_of (receive_end e (with_own e id)) next (load e + 1)
        (omega (arith, ended_load e (with_own e id) (own_has e id sound) sound)) is

    by : (m : Message) → receive table e m ≡ Ok next → load next ≤ load e + 1
    by (Unidirectional dialogue components) is = load_of e next (load e + 1) (omega arith) is
    by (Begin otid dialogue components) is =
        let step = needs_ok (is_none (with_peer e otid)) faults.IdUsed _ next is in
        let start = fresh phases.Received None (Some otid) (first_dialogue_state dialogue) in
        let half = receive_components table start (items_of components) in
        let none : half.out ≡ [] = (all_receives table (items_of components) start).out refl in
        let one : alive half ≤ 1 = rw none (omega (arith, open_most half.phase)) in
        load_of (put e Accepted otid half) next (load e + 1)
        (omega (arith, half_most alive e Accepted otid half sound, one)) step.1
    by (Continue otid dtid dialogue components) is =
        let (f, ok, step) = then_ok (ok_or (with_own e dtid) faults.NoTransaction) _ next is in
        let had = own_has e dtid sound f (some_ok _ _ f ok) in
        omega (arith, over_load table e next otid dialogue (items_of components) f sound had step)
    by (EndMessage dtid dialogue components) is = ended dtid is
    by (Abort dtid reason) is = ended dtid is

-- ---- sending

begin_load : (table : Table) (e next : End) (otid : List ℕ) (dialogue : Option Dialogue) (components : List Component)
    → IsEnd e
    → send_begin table e otid dialogue components ≡ Ok next → load next ≤ load e + 1 + length components
begin_load table e next otid dialogue components sound is =
    let free = needs_ok (is_none (with_own e otid)) faults.IdUsed _ next is in
    let may = needs_ok (may_begin dialogue) faults.WrongDialogue _ next free.1 in
    let start = fresh phases.Sent (Some otid) None (first_dialogue_state dialogue) in
    let (g, made, step) = then_ok (send_components table start components)
    (λ half. Ok (put e Begun otid half)) next may.1 in
    let most = sent_alive table components start g made in
    load_of (put e Begun otid g) next (load e + 1 + length components)
    (omega (arith, half_most alive e Begun otid g sound, most)) step

first_load : (table : Table) (e next : End) (otid dtid : List ℕ) (dialogue : Option Dialogue)
    (components : List Component)
    → IsEnd e → send_first_continue table e otid dtid dialogue components ≡ Ok next
    → load next ≤ load e + length components
first_load table e next otid dtid dialogue components sound is =
    let (f, ok, step) = then_ok (ok_or (with_peer e dtid) faults.NoTransaction) _ next is in
    let had = peer_has e dtid sound f (some_ok _ _ f ok) in
    let waits = needs_ok (is_received f.half.phase) faults.WrongPhase _ next step in
    let may = needs_ok (may_go_on f.half.phase f.half.dialogue_state dialogue) faults.WrongDialogue _ next waits.1 in
    let was = open_one f.half.phase (rw (received_is f.half.phase waits.0) refl) in
    let (g, made, last) = then_ok (send_components table (active_half Accepted otid f.half) components)
    (λ half. Ok (put e f.slot f.key half)) next may.1 in
    let most = sent_alive table components (active_half Accepted otid f.half) g made in
    load_of (put e f.slot f.key g) next (load e + length components)
    (put_over e f g (length components) sound had (omega (arith, most, was))) last

next_load : (table : Table) (e next : End) (dtid : List ℕ) (dialogue : Option Dialogue) (components : List Component)
    (f : KeyedHalf)
    → HasHalf e f → IsEnd e → send_next_continue table e dtid dialogue components f ≡ Ok next
    → load next ≤ load e + length components
next_load table e next dtid dialogue components f had sound is =
    let active = needs_ok (is_active f.half.phase) faults.WrongPhase _ next is in
    let peer = needs_ok (is_id dtid f.half.peer) faults.NoTransaction _ next active.1 in
    let may = needs_ok (may_go_on f.half.phase f.half.dialogue_state dialogue) faults.WrongDialogue _ next peer.1 in
    let (g, made, last) = then_ok (send_components table f.half components)
    (λ half. Ok (put e f.slot f.key half)) next may.1 in
    load_of (put e f.slot f.key g) next (load e + length components)
    (put_over e f g (length components) sound had (sent_alive table components f.half g made)) last

continue_load : (table : Table) (e next : End) (otid dtid : List ℕ) (dialogue : Option Dialogue)
    (components : List Component)
    (o : Option KeyedHalf) → with_own e otid ≡ o → IsEnd e
    → send_continue table e otid dtid dialogue components o ≡ Ok next
    → load next ≤ load e + length components
continue_load table e next otid dtid dialogue components None found sound is =
    first_load table e next otid dtid dialogue components sound is
continue_load table e next otid dtid dialogue components (Some f) found sound is =
    next_load table e next dtid dialogue components f (own_has e otid sound f found) sound is

end_load : (table : Table) (e next : End) (dtid : List ℕ) (dialogue : Option Dialogue) (components : List Component)
    → IsEnd e
    → send_end table e dtid dialogue components ≡ Ok next → load next ≤ load e
end_load table e next dtid dialogue components sound is =
    let (f, ok, step) = then_ok (ok_or (with_peer e dtid) faults.NoTransaction) _ next is in
    let had = peer_has e dtid sound f (some_ok _ _ f ok) in
    let is_open = needs_ok (not (is_closed f.half.phase)) faults.WrongPhase _ next step in
    let may = needs_ok (may_go_on f.half.phase f.half.dialogue_state dialogue) faults.WrongDialogue _ next is_open.1 in
    let (g, made, last) = then_ok (send_components table f.half components)
    (λ half. Ok (put e f.slot f.key (closed_half half))) next may.1 in
    load_of (put e f.slot f.key (closed_half g)) next (load e) (put_closed e f g sound had) last

abort_load : (e next : End) (dtid : List ℕ) (reason : Option AbortReason) → IsEnd e → send_abort e dtid reason ≡ Ok next
    → load next ≤ load e
abort_load e next dtid reason sound is =
    let user = needs_ok (is_none (reason_cause reason)) faults.WrongPhase _ next is in
    let (f, ok, step) = then_ok (ok_or (with_peer e dtid) faults.NoTransaction) _ next user.1 in
    let had = peer_has e dtid sound f (some_ok _ _ f ok) in
    let is_open = needs_ok (not (is_closed f.half.phase)) faults.WrongPhase _ next step in
    let may = needs_ok (may_abort f.half.phase f.half.dialogue_state (reason_dialogue reason))
    faults.WrongDialogue _ next is_open.1 in
    load_of (put e f.slot f.key (closed_half f.half)) next (load e) (put_closed e f f.half sound had) may.1

uni_load : (table : Table) (e next : End) (dialogue : Option Dialogue) (components : List Component)
    → send_uni table e dialogue components ≡ Ok next → load next ≤ load e
uni_load table e next dialogue components is =
    let may = needs_ok _ _ _ next is in
    by (send_uni_components table [] components) may.1
  where
    by : (r : Result (Unit {0}) EndFault) → (r >> Ok e) ≡ Ok next → load next ≤ load e
    by (Ok done) is = load_of e next (load e) (omega arith) is
    by (Err reason) is = cc

-- A message that is sent begins at most one half, and one invocation for each component.
pub sends_load : (table : Table) (e next : End) (m : Message) → IsEnd e → send table e m ≡ Ok next
    → load next ≤ load e + 1 + length (components_in m)
sends_load table e next m sound is = by m is
  where
    by : (m : Message) → send table e m ≡ Ok next → load next ≤ load e + 1 + length (components_in m)
    by (Unidirectional dialogue components) is = omega (arith, uni_load table e next dialogue components is)
    by (Begin otid dialogue components) is = begin_load table e next otid dialogue (items_of components) sound is
    by (Continue otid dtid dialogue components) is =
        omega (
          arith,
          continue_load table e next otid dtid dialogue (items_of components)
              (with_own e otid) refl sound is,
        )
    by (EndMessage dtid dialogue components) is =
        omega (arith, end_load table e next dtid dialogue (items_of components) sound is)
    by (Abort dtid reason) is = omega (arith, abort_load e next dtid reason sound is)
