-- How a component changes the half that sends or receives it (Q.774 3.2, invocations; Q.771, operation classes).
-- Sending yields the half after the component, or the first reason why the half may not send it.
use Rattle.std.specs.Prelude.{ℕ, ℤ, Bool, true, false, List, [], ◌∷◌, ◌++◌, Option, Some, None, Result, Ok, Err, is_some, is_none, ok_or, ◌==◌, ◌&&◌, not, cond, option_map}
use Rattle.std.specs.Ordering.{int_cmp}
use Rattle.std.specs.List.{list_any}
use Rattle.std.specs.Map.{lookup, remove_entry}
use Rattle.std.specs.BTreeMap.{insert_entry, is_at}
use Rattle.tcap_parts.specs.declared.code.Code.{Code}
use Rattle.tcap_parts.specs.declared.problem.Problem.{Problem}
use Rattle.tcap_parts.specs.declared.problem.Problem.TheVariants as problems
use Rattle.tcap_parts.specs.declared.component.ResultBody.{ResultBody}
use Rattle.tcap_parts.specs.declared.component.Component.{Component}
use Rattle.tcap_parts.specs.declared.component.Component.TheVariants.{Invoke, ReturnResult, ReturnError, Reject}
use Rattle.tcap_end.specs.declared.fault.EndFault.{EndFault}
use Rattle.tcap_end.specs.declared.fault.EndFault.TheVariants as faults
use Rattle.tcap_end.specs.declared.half.InvocationState.{InvocationState}
use Rattle.tcap_end.specs.declared.half.InvocationState.TheVariants as states
use Rattle.tcap_end.specs.declared.own_invocations.OwnInvocation.{OwnInvocation}
use Rattle.tcap_end.specs.Step.{needs, ◌>>◌, ◌>>=◌}
use Rattle.tcap_end.specs.Class.{of_class, reports}
use Rattle.tcap_end.specs.Table.{Table, class_of, code_cmp, linked_of, operation_of}
use Rattle.tcap_end.specs.Half.{Half, Invocation, Answer, is_one_of, listed, one_fits, with_newest, without_oldest_of}

-- whether two operation codes are equal
abbrev pub is_code : Code → Code → Bool
is_code code other = is_at (code_cmp code) other

-- whether the table allows the operation `linked` to be linked to `code`
abbrev pub links : Table → Code → Code → Bool
links table code linked = is_some (lookup (is_at (code_cmp linked)) (linked_of table code))

-- the own invocation with that invoke ID
abbrev pub own_invocation : Half → ℤ → Option OwnInvocation
own_invocation h id = lookup (is_at (int_cmp id)) h.out

-- ---- sending (Q.774 3.2; problems: Q.773 4.2.2)

-- A linked ID must be the ID of a received invocation to which the operation may be linked.
abbrev pub may_link : Table → Half → Option ℤ → Code → Bool
may_link table h None code = true
may_link table h (Some id) code = one_fits id (λ item. links table item.code code) h.inn

-- An Invoke is sent: the table has its operation, its ID is free, and its link is allowed.
abbrev pub send_invoke : Table → Half → ℤ → Option ℤ → Code → Result Half EndFault
send_invoke table h id linked code = do
  needs (is_some (operation_of table code)) faults.UnknownOperation
  needs (is_none (own_invocation h id)) faults.InvokeIdBusy
  needs (may_link table h linked code) faults.BadLink
  Ok (record h { out = insert_entry int_cmp h.out id (record { code = code; state = states.OperationSent }) })

-- whether the operation's class reports success (true) or failure (false)
abbrev pub class_reports : Table → Bool → Code → Bool
class_reports table is_result code = of_class (reports is_result) (class_of table code)

-- whether an answer that carries `named` may answer the operation: it carries this code, or none
abbrev pub names : Option Code → Code → Bool
names None code = true
names (Some named) code = is_code named code

-- whether a Return Result (true) or Return Error (false) that carries the operation `named`, or none, may answer an
-- invocation
abbrev pub may_answer : Table → Bool → Option Code → Invocation → Bool
may_answer table is_result named item = class_reports table is_result item.code && names named item.code

-- A Return Result or Return Error answers the oldest invocation that it may answer. Only a last answer removes the
-- invocation.
abbrev pub send_answer : Table → Half → Bool → Bool → ℤ → Option Code → Result Half EndFault
send_answer table h is_result last id named = do
  needs (one_fits id (λ item. true) h.inn) faults.NothingToAnswer
  needs (one_fits id (may_answer table is_result None) h.inn) faults.ClassForbids
  needs (one_fits id (may_answer table is_result named) h.inn) faults.WrongOperation
  Ok (cond last (record h { inn = without_oldest_of id (may_answer table is_result named) h.inn }) h)

-- whether a Reject with this invoke problem may reject an invocation
abbrev pub allows : ℕ → Invocation → Bool
allows problem item = is_one_of problem item.problems

-- whether a Reject with this problem of a Return Result (true) or Return Error (false) may reject an answer
abbrev pub allows_for : Bool → ℕ → Answer → Bool
allows_for is_result problem answer = cond is_result answer.is_result (not answer.is_result)
    && is_one_of problem answer.problems

-- A Reject removes the oldest item that may be rejected with its problem. A Reject without an ID, or with a general
-- problem, is refused.
abbrev pub send_reject : Half → Option ℤ → Problem → Result Half EndFault
send_reject h None problem = Err faults.RejectNotAllowed
send_reject h (Some id) (problems.General n) = Err faults.RejectNotAllowed
send_reject h (Some id) (problems.Invoke n) = do
  needs (one_fits id (allows n) h.inn) faults.RejectNotAllowed
  Ok (record h { inn = without_oldest_of id (allows n) h.inn })
send_reject h (Some id) (problems.ReturnResult n) = do
  needs (one_fits id (allows_for true n) h.grants) faults.RejectNotAllowed
  Ok (record h { grants = without_oldest_of id (allows_for true n) h.grants })
send_reject h (Some id) (problems.ReturnError n) = do
  needs (one_fits id (allows_for false n) h.grants) faults.RejectNotAllowed
  Ok (record h { grants = without_oldest_of id (allows_for false n) h.grants })

-- A half sends a component. A Return Error carries no operation code; its error code may be any.
abbrev pub send_component : Table → Half → Component → Result Half EndFault
send_component table h (Invoke id linked code parameter) = send_invoke table h id linked code
send_component table h (ReturnResult last id body) = send_answer table h true last id
    (option_map (λ body. body.code) body)
send_component table h (ReturnError id code parameter) = send_answer table h false true id None
send_component table h (Reject id problem) = send_reject h id problem

-- ---- receiving (Q.774 3.2; problems: Q.773 4.2.2)

-- the operation of an own invocation in state Operation Sent; None in Wait for Reject, after its last answer
abbrev pub operation_sent_by : Option OwnInvocation → Option Code
operation_sent_by None = None
operation_sent_by (Some own) = cond (is_sent own.state) (Some own.code) None
  where
    is_sent : InvocationState → Bool
    is_sent states.OperationSent = true
    is_sent states.WaitForReject = false

-- the operation of the own invocation with that ID, if it is in Operation Sent
abbrev pub operation_sent : Half → ℤ → Option Code
operation_sent h id = operation_sent_by (own_invocation h id)

-- the link problems with which a received Invoke may be rejected: unrecognizedLinkedID (5), linkedResponseUnexpected
-- (6), unexpectedLinkedOperation (7)
abbrev pub link_problems_of : Table → Code → Option Code → List ℕ
link_problems_of table code None = 5 ∷ []
link_problems_of table code (Some to) = by_list (linked_of table to)
  where
    by_list : List (Code × Unit {0}) → List ℕ
    by_list [] = 6 ∷ []
    by_list (first ∷ more) = cond (links table to code) [] (7 ∷ [])

-- the link problems of a received Invoke; none if it has no linked ID
abbrev pub link_problems : Table → Half → Option ℤ → Code → List ℕ
link_problems table h None code = []
link_problems table h (Some id) code = link_problems_of table code (operation_sent h id)

-- duplicateInvokeID (0), if another received invocation has the ID
abbrev pub id_problems : List Invocation → List ℕ
id_problems [] = []
id_problems (first ∷ more) = 0 ∷ []

-- the half with one more received answer of that ID, the newest
abbrev pub with_grant : Half → ℤ → Bool → List ℕ → Half
with_grant h id is_result problems = record h {
  grants = with_newest id
      (record { is_result = is_result; problems = problems }) h.grants;
}

-- An own invocation enters Wait for Reject: its last answer was received.
abbrev pub wait_for_reject : Half → ℤ → Code → Half
wait_for_reject h id code = record h {
  out = insert_entry int_cmp h.out id
      (record { code = code; state = states.WaitForReject });
}

-- The problems with which an answer may be rejected if the invocation's class allows it. For a Return Result:
-- mistypedParameter (2). For a Return Error: unrecognizedError, unexpectedError and mistypedParameter (2 to 4).
abbrev pub answer_problems : Bool → List ℕ
answer_problems true = 2 ∷ []
answer_problems false = 2 ∷ 3 ∷ 4 ∷ []

-- An answer is received for an own invocation of an operation of this class. If the class reports this kind of answer,
-- a last answer moves the invocation to Wait for Reject. If not, the answer may be rejected with
-- returnResultUnexpected or returnErrorUnexpected (1).
abbrev pub receive_for_class : Half → Bool → Bool → ℤ → Code → ℕ → Half
receive_for_class h is_result last id code class =
    cond (reports is_result class)
    (with_grant (cond last (wait_for_reject h id code) h) id is_result (answer_problems is_result))
    (with_grant h id is_result (1 ∷ []))

-- the operation in Operation Sent that an answer with this ID is for, and its class, if the table has the operation
abbrev pub answered_operation : Table → Half → ℤ → Option (Code × ℕ)
answered_operation table h id = by_code (operation_sent h id)
  where
    by_code : Option Code → Option (Code × ℕ)
    by_code None = None
    by_code (Some code) = option_map (λ class. (code, class)) (class_of table code)

-- A Return Result (true) or Return Error (false) is received. If no own invocation with its ID is in Operation Sent,
-- or the table does not have the operation, it may be rejected with unrecognizedInvokeID (0).
abbrev pub receive_answer : Half → Bool → Bool → ℤ → Option (Code × ℕ) → Half
receive_answer h is_result last id None = with_grant h id is_result (0 ∷ [])
receive_answer h is_result last id (Some (code, class)) = receive_for_class h is_result last id code class

-- A Reject with an invoke problem ends the own invocation with its ID. Any other Reject changes nothing.
abbrev pub receive_reject : Half → Option ℤ → Problem → Half
receive_reject h (Some id) (problems.Invoke n) = record h { out = remove_entry (is_at (int_cmp id)) h.out }
receive_reject h _ _ = h

-- A half receives a component, and never refuses one. Each Invoke may also be rejected with unrecognizedOperation,
-- mistypedParameter, resourceLimitation or initiatingRelease (1 to 4). This profile chose the effect of an answer that
-- the class does not allow, and of one whose ID is not in Operation Sent.
abbrev pub receive_component : Table → Half → Component → Half
receive_component table h (Invoke id linked code parameter) =
    record h {
      inn = with_newest id (record {
        code = code;
        problems = id_problems (listed id h.inn) ++ 1 ∷ 2 ∷ 3 ∷ 4 ∷ [] ++ link_problems table h linked code;
      }) h.inn;
    }
receive_component table h (ReturnResult last id body) = receive_answer h true last id (answered_operation table h id)
receive_component table h (ReturnError id code parameter) = receive_answer h false true id
    (answered_operation table h id)
receive_component table h (Reject id problem) = receive_reject h id problem
