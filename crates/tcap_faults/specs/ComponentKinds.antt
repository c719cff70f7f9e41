-- Which components does the half with their destination ID not allow (Q.774 3.2, Q.771 3.1)? Each fact is a count:
-- the end sent more than what it heard allows.
use Rattle.std.specs.Prelude.{ℕ, ℤ, ◌+◌, Bool, true, false, List, [], ◌∷◌, ◌++◌, Option, Some, None, ◌==◌, ◌&&◌, ◌||◌, not, nat_lt, nat_le, cond}
use Rattle.std.specs.List.{list_any}
use Rattle.tcap_parts.specs.declared.code.Code.{Code}
use Rattle.tcap_parts.specs.declared.component.ResultBody.{ResultBody}
use Rattle.tcap_parts.specs.declared.component.Component.{Component}
use Rattle.tcap_parts.specs.declared.component.Component.TheVariants.{Invoke, ReturnResult, ReturnError, Reject}
use Rattle.tcap_parts.specs.declared.problem.Problem.{Problem}
use Rattle.tcap_parts.specs.declared.problem.Problem.TheVariants as problems
use Rattle.tcap_end.specs.Component.{is_code, links}
use Rattle.tcap_end.specs.Table.{Table}
use Rattle.tcap_refute.specs.EarlierMessages.{is_invoke_id, invokes}
use Rattle.tcap_faults.specs.Components.{is_linked_to, is_of_link, is_problem, lists_nothing}
use Rattle.tcap_faults.specs.Counts.{any_problem, count, count_class, count_lasting, count_suited, has_class, invokes_linked, invokes_where, is_error, is_last_result, is_not_last, is_result, is_result_of, rejects_error, rejects_invoke, rejects_result, takes}
use Rattle.tcap_faults.specs.HalfByPeerId.{HalfMessages}

-- For each component, `own` are those before it in its message. `before` are all that the end sent to the destination
-- ID so far: those of earlier messages, and `own`.

-- ---- F10: an invoke ID that is in use

-- A Reject with this ID and a general problem.
abbrev pub rejects_generally : ℤ → Component → Bool
rejects_generally id (Reject (Some other) (problems.General n)) = is_invoke_id id other
rejects_generally id c = false

-- A Reject that may reject an Invoke: one with an invoke problem or a general problem.
abbrev pub may_reject_invoke : ℤ → Component → Bool
may_reject_invoke id c = rejects_invoke id any_problem c || rejects_generally id c

-- A Reject that may reject an answer: one with a result problem or a general problem.
abbrev pub may_reject_answer : ℤ → Component → Bool
may_reject_answer id c = rejects_result id any_problem c || rejects_generally id c

-- Some own invocations of the ID do not expire and cannot all have ended, by one of two counts. Of class 1 and 3,
-- they are more than the Return Results Last, Return Errors and Rejects of Invokes that were heard, and the Rejects
-- of answers in `all`. Of any class, they are more than the answers, last or not, and the Rejects of Invokes that
-- were heard.
abbrev pub is_busy : Table → HalfMessages → List Component → ℤ → Bool
is_busy table h all id =
    nat_lt (ends + count (may_reject_answer id) all) (of_class 1 + of_class 3)
    || nat_lt (ends + count (is_not_last id) h.incoming) (count_lasting table id (λ code. true) h.invoked)
  where
    of_class : ℕ → ℕ
    of_class class = count_lasting table id (has_class table class) h.invoked

    ends : ℕ
    ends =
        count (is_last_result id) h.incoming + count (is_error id) h.incoming + count (may_reject_invoke id) h.incoming

-- F10: An Invoke has the ID of an Invoke before it in the message, or an ID that is in use. `all` are the components
-- that the end sent to the destination ID, with the whole message.
abbrev pub invokes_busy : Table → HalfMessages → List Component → List Component → List Component → Component → Bool
invokes_busy table h all own before (Invoke id linked code parameter) =
    list_any (invokes id) own || is_busy table h all id
invokes_busy table h all own before c = false

-- ---- F11: a linked ID without an invocation

-- At least as many invocations of the linked ID were taken as were heard, or none that was heard has an operation
-- that lists this one.
abbrev pub is_badly_linked : Table → HalfMessages → List Component → ℤ → Code → Bool
is_badly_linked table h before id code =
    nat_le (count (invokes id) h.incoming) (count (takes id) before)
    || not (list_any (invokes_where id (λ to. links table to code)) h.incoming)

-- F11: An Invoke is linked to an ID that does not allow it.
abbrev pub links_badly : Table → HalfMessages → List Component → List Component → Component → Bool
links_badly table h own before (Invoke id (Some linked) code parameter) = is_badly_linked table h before linked code
links_badly table h own before c = false

-- ---- F12: an invocation that was answered already

-- This many Return Results, Return Errors and Rejects with an invoke problem are more than the heard Invokes of the ID
-- allow by their classes.
abbrev pub more_answered : Table → HalfMessages → ℤ → ℕ → ℕ → ℕ → Bool
more_answered table h id results errors rejects =
    nat_lt (of_class 1 + of_class 3) results || nat_lt (of_class 1 + of_class 2) errors
    || nat_lt (of_class 1 + of_class 2 + of_class 3) (results + errors)
    || nat_lt (count (invokes id) h.incoming) (results + errors + rejects)
  where
    of_class : ℕ → ℕ
    of_class class = count_class table id class h.incoming

-- The components answer more than was heard, if this many Return Results are counted besides.
abbrev pub is_overspent : Table → HalfMessages → ℤ → List Component → ℕ → Bool
is_overspent table h id components besides =
    more_answered table h id (count (is_last_result id) components + besides) (count (is_error id) components)
    (count (rejects_invoke id any_problem) components)

-- A Return Result names an operation, and at least as many Return Results Last before it name that operation as
-- Invokes of the operation were heard.
abbrev pub is_operation_overspent : HalfMessages → List Component → ℤ → Option ResultBody → Bool
is_operation_overspent h before id None = false
is_operation_overspent h before id (Some body) =
    nat_le (count (invokes_where id (is_code body.code)) h.incoming) (count (is_result_of id body.code) before)

-- F12: With this component, more is answered than was heard.
abbrev pub answers_again : Table → HalfMessages → List Component → List Component → Component → Bool
answers_again table h own before (ReturnResult true id body) =
    is_overspent table h id (before ++ ReturnResult true id body ∷ []) 0 || is_operation_overspent h before id body
answers_again table h own before (ReturnResult false id body) =
    is_overspent table h id before 1 || is_operation_overspent h before id body
answers_again table h own before (ReturnError id code parameter) =
    is_overspent table h id (before ++ ReturnError id code parameter ∷ []) 0
answers_again table h own before (Reject (Some id) (problems.Invoke n)) =
    is_overspent table h id (before ++ Reject (Some id) (problems.Invoke n) ∷ []) 0
answers_again table h own before c = false

-- ---- F13: a Reject that nothing heard allows; `components` end with it

-- No link has this problem. With 6, no heard Invoke of the ID is linked to an own invocation of an operation that
-- lists none. With 7, none is linked to an own invocation of an operation that lists others, but not this one.
abbrev pub is_link_fine : Table → HalfMessages → ℤ → ℕ → Bool
is_link_fine table h id problem =
    (problem == 6 && not (list_any (is_linked_to (λ to code. lists_nothing table to) h.invoked id) h.incoming))
    || (problem == 7 && not (list_any (is_linked_to lists_others h.invoked id) h.incoming))
  where
    lists_others : Code → Code → Bool
    lists_others to code = not (lists_nothing table to) && not (links table to code)

-- A Reject of an Invoke is wrong if one of these holds:
-- - its problem is duplicateInvokeID (0), and there are at least as many such Rejects as heard Invokes of the ID,
--   since the first is no duplicate;
-- - its problem concerns a link (5 to 7), and there are more such Rejects than heard linked Invokes of the ID;
-- - no link has its problem;
-- - its problem is over 7 (Q.773 4.2.2).
abbrev pub is_invoke_reject_wrong : Table → HalfMessages → List Component → ℤ → ℕ → Bool
is_invoke_reject_wrong table h components id problem =
    (problem == 0 && nat_le (count (invokes id) h.incoming) (count (rejects_invoke id (is_problem 0)) components))
    || (is_of_link problem && nat_lt (count (invokes_linked id) h.incoming)
    (count (rejects_invoke id is_of_link) components))
    || is_link_fine table h id problem
    || nat_lt 7 problem

-- A Return Result with this ID that names an operation that no own invocation of the ID has.
abbrev pub is_of_no_operation : HalfMessages → ℤ → Component → Bool
is_of_no_operation h id (ReturnResult last other (Some body)) =
    is_invoke_id id other && not (list_any (invokes_where id (is_code body.code)) h.invoked)
is_of_no_operation h id c = false

-- Whether no answer can be unexpected (problem 1, returnResultUnexpected or returnErrorUnexpected). The class of each
-- own invocation of the ID allows such an answer. Fewer than two answers were heard, since a second one may be
-- unexpected. None names an operation that no own invocation has.
abbrev pub is_expected : Table → HalfMessages → Bool → ℤ → Bool
is_expected table h of_result id =
    (count_suited table of_result id h.invoked == count (invokes id) h.invoked)
    && nat_lt (count (is_result id) h.incoming + count (is_error id) h.incoming) 2
    && not (list_any (is_of_no_operation h id) h.incoming)

-- A Reject of an answer is wrong if one of these holds:
-- - there are more such Rejects than answers that were heard;
-- - its problem is over 2, of a result, or over 4, of an error;
-- - its problem is 1, and no answer can be unexpected;
-- - its problem is 2 or more, and no own invocation has a class that allows such an answer.
abbrev pub is_answer_reject_wrong : Table → HalfMessages → Bool → ℤ → ℕ → ℕ → ℕ → Bool
is_answer_reject_wrong table h of_result id problem rejects answers =
    nat_lt answers rejects
    || nat_lt (cond of_result 2 4) problem
    || (problem == 1 && is_expected table h of_result id)
    || (nat_le 2 problem && (count_suited table of_result id h.invoked == 0))

-- Whether a Reject with this problem is wrong; one with a general problem never is.
abbrev pub is_reject_wrong : Table → HalfMessages → List Component → ℤ → Problem → Bool
is_reject_wrong table h components id (problems.General n) = false
is_reject_wrong table h components id (problems.Invoke n) = is_invoke_reject_wrong table h components id n
is_reject_wrong table h components id (problems.ReturnResult n) =
    is_answer_reject_wrong table h true id n (count (rejects_result id any_problem) components)
    (count (is_result id) h.incoming)
is_reject_wrong table h components id (problems.ReturnError n) =
    is_answer_reject_wrong table h false id n (count (rejects_error id any_problem) components)
    (count (is_error id) h.incoming)

-- F13: A Reject with an invoke ID is wrong.
abbrev pub rejects_wrongly : Table → HalfMessages → List Component → List Component → Component → Bool
rejects_wrongly table h own before (Reject (Some id) problem) =
    is_reject_wrong table h (before ++ Reject (Some id) problem ∷ []) id problem
rejects_wrongly table h own before c = false
