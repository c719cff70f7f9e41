-- Test vectors, computed on the definitions: the number that each call of a list returns, 0 for Ok.
use Rattle.std.proofs.Common.{◌≡◌, ℕ, ℤ, pos, Bool, true, false, List, [], ◌∷◌, Option, Some, None, Result, Ok, Err, length, refl}
use Rattle.tcap_parts.specs.declared.code.Code.TheVariants.{Local}
use Rattle.tcap_parts.specs.declared.problem.Problem.TheVariants as problems
use Rattle.tcap_parts.specs.declared.component.Component.{Component}
use Rattle.tcap_parts.specs.declared.component.Component.TheVariants.{Invoke, ReturnResult, ReturnError, Reject}
use Rattle.tcap_parts.specs.declared.dialogue.Dialogue.{Dialogue}
use Rattle.tcap_parts.specs.declared.dialogue.Dialogue.TheVariants.{Request, Response, Abort as AbortPdu}
use Rattle.tcap_parts.specs.declared.dialogue.Source.TheVariants.{User, Provider}
use Rattle.tcap_msg.specs.declared.message.AbortReason.TheVariants.{Cause, Dialogue as ByDialogue}
use Rattle.tcap_msg.specs.declared.message.Message.{Message}
use Rattle.tcap_msg.specs.declared.message.Message.TheVariants.{Unidirectional, Begin, Continue, End as EndMessage, Abort}
use Rattle.tcap_end.specs.declared.fault.EndFault.{EndFault}
use Rattle.tcap_end.specs.declared.fault.EndFault.TheVariants.{CannotClose}
use Rattle.tcap_end.specs.Table.{Table, Operation}
use Rattle.tcap_end.specs.declared.half.HalfName.{HalfName}
use Rattle.tcap_end.specs.declared.half.HalfName.TheVariants as names
use Rattle.tcap_end.specs.Step.{◌>>◌, ◌>>=◌}
use Rattle.tcap_end.specs.End.{End, nothing, quiet}
use Rattle.tcap_end.specs.Message.{send as send_message, receive as receive_message}
use Rattle.tcap_end.specs.Reply.{refuse_begin as refuses_begin, refuse_continue as refuses_continue}
use Rattle.tcap_end.specs.HiddenSteps.{expire, close, open_halves, quiet_after_closings}
use Rattle.tcap_end.specs.Fault.{fault_number}

abbrev operation : ℕ → Bool → Operation
operation class expires = record { class = class; linked = []; expires = expires }

-- operations 45 to 48, of class 1 to 4, and 50, of class 1, to which 48 may be linked
abbrev table_with : Bool → Bool → Table
table_with expires prearranged = record {
  operations = (Local (pos 45), operation 1 expires) ∷ (Local (pos 46), operation 2 true) ∷ (Local (pos 47), operation 3 true)
      ∷ (Local (pos 48), operation 4 true)
      ∷ (Local (pos 50), record { class = 1; linked = (Local (pos 48), tt) ∷ []; expires = true }) ∷ [];
  prearranged = prearranged;
}

abbrev table : Table
table = table_with true false

-- a call: the end after it, or the reason
abbrev Call : Type 0
Call = End → Result End EndFault

abbrev send : Message → Call
send m e = send_message table e m

abbrev receive : Message → Call
receive m e = receive_message table e m

abbrev expire_with : Table → HalfName → ℤ → Call
expire_with t name id e = expire t e name id

abbrev close_with : Table → HalfName → Call
close_with t name e = close t e name

-- A reply of the provider changes no end.
abbrev replies : (End → Message → Message → Result (Unit {0}) EndFault) → Message → Message → Call
replies refuse m abort e = refuse e m abort >> Ok e

abbrev refuse_begin : Message → Message → Call
refuse_begin = replies refuses_begin

abbrev refuse_continue : Message → Message → Call
refuse_continue = replies refuses_continue

abbrev own : ℕ → HalfName
own id = names.Own (id ∷ [])

abbrev peer : ℕ → HalfName
peer id = names.Peer (id ∷ [])

-- the results of calls, one by one
abbrev play : End → List Call → List ℕ
play e [] = []
play e (call ∷ calls) = by (call e) (play e calls) (λ next. play next calls)
  where
    by : Result End EndFault → List ℕ → (End → List ℕ) → List ℕ
    by (Err reason) stays goes = fault_number reason ∷ stays
    by (Ok next) stays goes = 0 ∷ goes next

abbrev context : List ℕ
context = 4 ∷ 0 ∷ 0 ∷ 1 ∷ 0 ∷ 19 ∷ 2 ∷ []

abbrev aarq : Option Dialogue
aarq = Some (Request context None)

abbrev aare : Option Dialogue
aare = Some (Response context 0 (User 0) None)

abbrev invoke : ℤ → ℤ → Component
invoke id code = Invoke id None (Local code) None

abbrev result : ℤ → Component
result id = ReturnResult true id None

abbrev v1 : Message
v1 = Begin (1 ∷ []) None (Some (invoke (pos 1) (pos 45) ∷ []))

abbrev v3 : Message
v3 = EndMessage (1 ∷ []) None (Some (result (pos 1) ∷ []))

abbrev v4 : Message
v4 = Begin (1 ∷ []) aarq (Some (invoke (pos 1) (pos 45) ∷ []))

abbrev v5 : Message
v5 = Continue (2 ∷ []) (1 ∷ []) aare (Some (result (pos 1) ∷ []))

abbrev v6 : Message
v6 = EndMessage (2 ∷ []) None None

abbrev v7 : Message
v7 = Begin (1 ∷ []) None None

abbrev v8 : Message
v8 = Continue (2 ∷ []) (1 ∷ []) None None

abbrev v10 : Message
v10 = Continue (2 ∷ []) (1 ∷ []) None (Some (result (pos 1) ∷ []))

abbrev v11 : Message
v11 = EndMessage (2 ∷ []) None (Some (Reject (Some (pos 1)) (problems.ReturnResult 0) ∷ []))

abbrev v12 : Message
v12 = Continue (1 ∷ []) (2 ∷ []) None (Some (invoke (pos 1) (pos 46) ∷ []))

abbrev v13 : Message
v13 = Continue (1 ∷ []) (2 ∷ []) None (Some (Reject (Some (pos 1)) (problems.ReturnResult 1) ∷ []))

abbrev v14 : Message
v14 = Begin (1 ∷ []) None (Some (invoke (pos 1) (pos 47) ∷ []))

abbrev v15 : Message
v15 = EndMessage (1 ∷ []) None (Some (ReturnError (pos 1) (Local (pos 1)) None ∷ []))

abbrev v18 : Message
v18 = Continue (2 ∷ []) (1 ∷ []) None (Some (Invoke (pos 5) (Some (pos 1)) (Local (pos 48)) None ∷ []))

abbrev v24 : Message
v24 = Continue (1 ∷ []) (2 ∷ []) None None

abbrev link_reject : Message
link_reject = Continue (1 ∷ []) (2 ∷ []) None (Some (Reject (Some (pos 5)) (problems.Invoke 5) ∷ []))

abbrev other_result : Message
other_result = EndMessage (1 ∷ []) None (Some (ReturnResult true (pos 1) (Some (record { code = Local (pos 46); parameter = None })) ∷ []))

abbrev uni48 : Message
uni48 = Unidirectional None (invoke (pos 1) (pos 48) ∷ [])

abbrev uni45 : Message
uni45 = Unidirectional None (invoke (pos 1) (pos 45) ∷ [])

abbrev uni99 : Message
uni99 = Unidirectional None (invoke (pos 1) (pos 99) ∷ [])

abbrev abort_to : ℕ → ℕ → Message
abort_to id cause = Abort (id ∷ []) (Some (Cause cause))

pub rejects_once : play nothing (send v1 ∷ send v1 ∷ send v24 ∷ receive v10 ∷ send v13 ∷ send v11 ∷ []) ≡ 0 ∷ 41 ∷ 42 ∷ 0 ∷ 50 ∷ 50 ∷ []
rejects_once = refl

pub link_is_rejected_once :
    play nothing (send v1 ∷ send v1 ∷ send v24 ∷ receive v10 ∷ send v13 ∷ send v11 ∷ receive v18
    ∷ send link_reject ∷ send link_reject ∷ send v6 ∷ send v6 ∷ send v12 ∷ [])
    ≡ 0 ∷ 41 ∷ 42 ∷ 0 ∷ 50 ∷ 50 ∷ 0 ∷ 0 ∷ 50 ∷ 0 ∷ 42 ∷ 42 ∷ []
link_is_rejected_once = refl

pub answers_begin : play nothing (receive v1 ∷ receive v1 ∷ send v18 ∷ send v5 ∷ send v3 ∷ []) ≡ 0 ∷ 41 ∷ 49 ∷ 43 ∷ 0 ∷ []
answers_begin = refl

pub no_error_for_class_3 : play nothing (receive v14 ∷ send v15 ∷ []) ≡ 0 ∷ 47 ∷ []
no_error_for_class_3 = refl

pub result_of_other_operation : play nothing (receive v1 ∷ send other_result ∷ []) ≡ 0 ∷ 48 ∷ []
result_of_other_operation = refl

pub nothing_to_answer : play nothing (receive v7 ∷ send v3 ∷ receive v24 ∷ receive v6 ∷ []) ≡ 0 ∷ 46 ∷ 40 ∷ 0 ∷ []
nothing_to_answer = refl

pub asked_wants_response : play nothing (receive v4 ∷ send v10 ∷ []) ≡ 0 ∷ 43 ∷ []
asked_wants_response = refl

pub response_comes : play nothing (send v4 ∷ receive v8 ∷ receive v5 ∷ []) ≡ 0 ∷ 43 ∷ 0 ∷ []
response_comes = refl

pub unidirectional : play nothing (send uni48 ∷ send uni45 ∷ send uni99 ∷ []) ≡ 0 ∷ 53 ∷ 44 ∷ []
unidirectional = refl

pub expires_once :
    play nothing (send v1 ∷ receive v10 ∷ expire_with table (own 1) (pos 1) ∷ expire_with table (own 1) (pos 1) ∷ send v12 ∷ [])
    ≡ 0 ∷ 0 ∷ 0 ∷ 51 ∷ 0 ∷ []
expires_once = refl

pub may_not_expire : play nothing (send v1 ∷ expire_with (table_with false false) (own 1) (pos 1) ∷ []) ≡ 0 ∷ 51 ∷ []
may_not_expire = refl

pub closes_once : play nothing (send v7 ∷ close_with table (own 1) ∷ close_with table (own 1) ∷ receive v8 ∷ send v24 ∷ [])
    ≡ 0 ∷ 0 ∷ 52 ∷ 40 ∷ 42 ∷ []
closes_once = refl

pub not_prearranged : play nothing (receive v7 ∷ close_with table (peer 1) ∷ close_with (table_with true true) (peer 1) ∷ [])
    ≡ 0 ∷ 52 ∷ 0 ∷ []
not_prearranged = refl

pub refuses_continue_of_closed :
    play nothing (send v7 ∷ refuse_continue v8 (abort_to 2 1) ∷ close_with table (own 1) ∷ refuse_continue v8 (abort_to 2 1) ∷ [])
    ≡ 0 ∷ 40 ∷ 0 ∷ 0 ∷ []
refuses_continue_of_closed = refl

pub refuses_no_begin_that_came : play nothing (receive v1 ∷ refuse_begin v1 (abort_to 1 4) ∷ []) ≡ 0 ∷ 40 ∷ []
refuses_no_begin_that_came = refl

pub provider_refuses_begin : play nothing (refuse_begin v1 (abort_to 1 4) ∷ refuse_begin v1 (abort_to 1 1) ∷ []) ≡ 0 ∷ 40 ∷ []
provider_refuses_begin = refl

pub quiet_frees : play nothing (send v7 ∷ quiet ∷ receive (abort_to 1 1) ∷ quiet ∷ send v7 ∷ []) ≡ 0 ∷ 54 ∷ 0 ∷ 0 ∷ 0 ∷ []
quiet_frees = refl

-- The provider may not answer a Continue as if it were a Begin.
pub no_begin_to_refuse : play nothing (refuse_begin v8 (abort_to 2 4) ∷ []) ≡ 40 ∷ []
no_begin_to_refuse = refl

-- ---- the oldest item, and the sets of problems

abbrev from_2 : Component → Message
from_2 c = Continue (2 ∷ []) (1 ∷ []) None (Some (c ∷ []))

abbrev from_1 : Component → Message
from_1 c = Continue (1 ∷ []) (2 ∷ []) None (Some (c ∷ []))

abbrev rejects : ℤ → ℕ → Component
rejects id n = Reject (Some id) (problems.Invoke n)

abbrev error : ℤ → Component
error id = ReturnError id (Local (pos 1)) None

-- The second Invoke with an ID may be rejected as a duplicate, but not the first, older one.
pub rejects_the_duplicate : play nothing (receive v1 ∷ send v8 ∷ receive (from_1 (invoke (pos 1) (pos 45))) ∷ send v10
    ∷ send (from_2 (rejects (pos 1) 0)) ∷ [])
    ≡ 0 ∷ 0 ∷ 0 ∷ 0 ∷ 0 ∷ []
rejects_the_duplicate = refl

-- An answer to an ID in Wait for Reject may be rejected with unrecognizedInvokeID.
pub answers_in_wait : play nothing (send v1 ∷ receive v10 ∷ receive v10 ∷ send v11 ∷ []) ≡ 0 ∷ 0 ∷ 0 ∷ 0 ∷ []
answers_in_wait = refl

pub class_3_reports_success_alone :
    play nothing (send v14 ∷ receive (from_2 (error (pos 1))) ∷ send (from_1 (Reject (Some (pos 1)) (problems.ReturnError 4)))
    ∷ send (from_1 (Reject (Some (pos 1)) (problems.ReturnError 1)))
    ∷ send (from_1 (Reject (Some (pos 1)) (problems.ReturnError 1))) ∷ receive v10
    ∷ send (from_1 (Reject (Some (pos 1)) (problems.ReturnResult 2))) ∷ []) ≡ 0 ∷ 0 ∷ 50 ∷ 0 ∷ 50 ∷ 0 ∷ 0 ∷ []
class_3_reports_success_alone = refl

pub last_result_once : play nothing (receive v1 ∷ send (from_2 (ReturnResult false (pos 1) None)) ∷ send v10 ∷ send v10 ∷ [])
    ≡ 0 ∷ 0 ∷ 0 ∷ 46 ∷ []
last_result_once = refl

abbrev linked_47 : Component
linked_47 = Invoke (pos 5) (Some (pos 1)) (Local (pos 47)) None

abbrev v17 : Message
v17 = Begin (1 ∷ []) None (Some (invoke (pos 1) (pos 50) ∷ []))

pub other_link_is_rejected :
    play nothing (send v17 ∷ receive (from_2 linked_47) ∷ send (from_1 (rejects (pos 5) 6)) ∷ send (from_1 (rejects (pos 5) 7)) ∷ [])
    ≡ 0 ∷ 0 ∷ 50 ∷ 0 ∷ []
other_link_is_rejected = refl

pub no_link_is_rejected :
    play nothing (send v1 ∷ receive v18 ∷ send (from_1 (rejects (pos 5) 7)) ∷ send (from_1 (rejects (pos 5) 6)) ∷ [])
    ≡ 0 ∷ 0 ∷ 50 ∷ 0 ∷ []
no_link_is_rejected = refl

-- ---- dialogue portions of an Abort

abbrev aborts_by : ℕ → Dialogue → Message
aborts_by id dialogue = Abort (id ∷ []) (Some (ByDialogue dialogue))

pub aborts_from_received :
    play nothing (receive v4 ∷ send (aborts_by 1 (Response context 1 (Provider 2) None)) ∷ send (aborts_by 1 (AbortPdu 1 None))
    ∷ send (abort_to 1 1) ∷ send (aborts_by 1 (Response context 1 (User 2) None)) ∷ send (Abort (1 ∷ []) None) ∷ [])
    ≡ 0 ∷ 43 ∷ 43 ∷ 42 ∷ 0 ∷ 42 ∷ []
aborts_from_received = refl

pub aborts_from_active :
    play nothing (send v4 ∷ receive v5 ∷ send (aborts_by 2 (Response context 1 (User 1) None)) ∷ send (aborts_by 2 (AbortPdu 0 None)) ∷ [])
    ≡ 0 ∷ 0 ∷ 43 ∷ 0 ∷ []
aborts_from_active = refl

pub closes_by_prearrangement :
    play nothing (send v7 ∷ receive v8 ∷ close_with table (own 1) ∷ close_with (table_with true true) (own 1)
    ∷ refuse_continue v8 (abort_to 2 1) ∷ [])
    ≡ 0 ∷ 0 ∷ 52 ∷ 0 ∷ 0 ∷ []
closes_by_prearrangement = refl

-- ---- components of a Unidirectional

abbrev uni : List Component → Message
uni components = Unidirectional None components

pub unidirectional_components :
    play nothing (send (uni (invoke (pos 1) (pos 48) ∷ invoke (pos 1) (pos 48) ∷ []))
    ∷ send (uni (invoke (pos 1) (pos 48) ∷ invoke (pos 1) (pos 45) ∷ []))
    ∷ send (uni (Invoke (pos 1) (Some (pos 1)) (Local (pos 48)) None ∷ [])) ∷ send (uni (result (pos 1) ∷ []))
    ∷ send (Unidirectional aarq (invoke (pos 1) (pos 99) ∷ [])) ∷ []) ≡ 45 ∷ 53 ∷ 49 ∷ 46 ∷ 43 ∷ []
unidirectional_components = refl

-- ---- quiet marks before which open halves close

-- the number of halves that close at a quiet mark after these calls, or the first reason
abbrev mark : Table → List Call → End → Result ℕ EndFault
mark t [] e = quiet_after_closings t e >>= λ left. Ok (length (open_halves e))
mark t (call ∷ calls) e = call e >>= mark t calls

abbrev prearranging : Table
prearranging = table_with true true

pub begin_is_given_up : mark table (send v7 ∷ []) nothing ≡ Ok 1
begin_is_given_up = refl

pub active_half_stays : mark table (send v7 ∷ receive v8 ∷ []) nothing ≡ Err CannotClose
active_half_stays = refl

pub active_half_closes : mark prearranging (send v7 ∷ receive v8 ∷ []) nothing ≡ Ok 1
active_half_closes = refl

pub received_begin_stays : mark table (send v7 ∷ receive v7 ∷ []) nothing ≡ Err CannotClose
received_begin_stays = refl

pub both_close : mark prearranging (send v7 ∷ receive v7 ∷ []) nothing ≡ Ok 2
both_close = refl

pub ended_half_is_closed : mark table (send v1 ∷ receive v3 ∷ []) nothing ≡ Ok 0
ended_half_is_closed = refl

pub given_up_frees : play nothing (send v7 ∷ quiet_after_closings table ∷ send v7 ∷ []) ≡ 0 ∷ 0 ∷ 0 ∷ []
given_up_frees = refl
