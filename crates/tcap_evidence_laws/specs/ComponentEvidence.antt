-- What the lists show if a component answers something that was never sent, is of a wrong operation, or is not allowed
-- by its half: F5, F6 and F10 to F13 (Q.774 3.2, Q.771 3.1).
use Rattle.std.specs.Prelude.{◌≡◌, ◌⊎◌, ◌<◌, ◌≤◌, ◌+◌, ⊤, ℕ, ℤ, Bool, true, false, List, [], ◌++◌, filter, length, map, Option, Some, None, ◌==◌, ◌&&◌, not}
use Rattle.std.specs.List.{list_any}
use Rattle.tcap_parts.specs.declared.code.Code.{Code}
use Rattle.tcap_parts.specs.declared.component.ResultBody.{ResultBody}
use Rattle.tcap_parts.specs.declared.component.Component.{Component}
use Rattle.tcap_parts.specs.declared.component.Component.TheVariants.{Invoke, ReturnResult, ReturnError, Reject}
use Rattle.tcap_parts.specs.declared.problem.Problem.{Problem}
use Rattle.tcap_parts.specs.declared.problem.Problem.TheVariants as problems
use Rattle.tcap_end.specs.Class.{of_class, reports_neither}
use Rattle.tcap_end.specs.Component.{class_reports, is_code, links}
use Rattle.tcap_end.specs.Table.{class_of, operation_of}
use Rattle.tcap_refute.specs.EarlierMessages.{components_of}
use Rattle.tcap_faults.specs.Counts.{count, invokes_where, is_result_of}
use Rattle.tcap_faults.specs.Components.{is_linked_to, is_of_link, lists_nothing}
use Rattle.tcap_faults.specs.InvokeCounts.{results_where}
use Rattle.tcap_faults.specs.declared.component.component_sort.Class.{Class}
use Rattle.tcap_faults.specs.declared.component.component_sort.Class.TheVariants.{Any, One, Two, Three}
use Rattle.tcap_faults.specs.declared.component.component_sort.Sort.{Sort}
use Rattle.tcap_faults.specs.declared.component.component_sort.Sort.TheVariants as sorts
use Rattle.tcap_evidence.specs.declared.shown_facts.ShownFact.TheVariants as facts
use Rattle.tcap_evidence.specs.NumberedMessages.{Numbered, entries_with}
use Rattle.tcap_evidence.specs.Scene.{Scene, incoming_by, invoked_by, shown, peer_from_dtid, sent_to_dtid}
use Rattle.tcap_evidence_laws.specs.ListedEntries.{ListsNone, ListsOne, count_shown}

-- Each scene is that of the component that has the kind, with its invoke ID.

-- ---- F5: an answer or a Reject of something that was never sent

-- The component that is answered or rejected does not exist. Nothing is shown for a Reject without ID or with a
-- general problem, which may reject something that could not be read.
abbrev pub ShowsUnasked : Scene → Option Component → Type 0
ShowsUnasked s None = ⊥
ShowsUnasked s (Some (Invoke id linked code parameter)) = ⊥
ShowsUnasked s (Some (ReturnResult last id body)) = ListsNone s (facts.PeerComponents (sorts.Invokes Any))
ShowsUnasked s (Some (ReturnError id code parameter)) = ListsNone s (facts.PeerComponents (sorts.Invokes Any))
ShowsUnasked s (Some (Reject None problem)) = ⊤
ShowsUnasked s (Some (Reject (Some id) (problems.General n))) = ⊤
ShowsUnasked s (Some (Reject (Some id) (problems.Invoke n))) = ListsNone s (facts.PeerComponents (sorts.Invokes Any))
ShowsUnasked s (Some (Reject (Some id) (problems.ReturnResult n))) = ListsNone s (facts.PeerComponents sorts.Results)
ShowsUnasked s (Some (Reject (Some id) (problems.ReturnError n))) = ListsNone s (facts.PeerComponents sorts.Errors)

-- ---- entries of the components of the invoke ID that pass a test

-- of these messages
abbrev pub entries_passing : Scene → (ℤ → Component → Bool) → List Numbered → List ℕ
entries_passing s passes sent = by s.id
  where
    by : Option ℤ → List ℕ
    by None = []
    by (Some id) = entries_with (passes id) sent

-- of these components of the message itself
abbrev pub itself_passing : Scene → (ℤ → Component → Bool) → List Component → List ℕ
itself_passing s passes cs = by s.id
  where
    by : Option ℤ → List ℕ
    by None = []
    by (Some id) = map (λ c. s.number) (filter (passes id) cs)

-- of the messages that the half heard
abbrev pub incoming_passing : Scene → (ℤ → Component → Bool) → List ℕ
incoming_passing s passes = entries_passing s passes (incoming_by s s.origin)

-- of the end's messages to the destination ID, and of the message's components before the one at fault
abbrev pub earlier_passing : Scene → (ℤ → Component → Bool) → List ℕ
earlier_passing s passes = entries_passing s passes (sent_to_dtid s) ++ itself_passing s passes s.earlier

-- whether a component is an Invoke whose operation passes a test
abbrev pub invokes_passing : (Code → Bool) → ℤ → Component → Bool
invokes_passing passes id c = invokes_where id passes c

-- ---- F6: a wrong operation

-- No Invoke from the destination ID is of a class that reports success. If the Return Result carries an operation,
-- only Invokes of that operation count.
abbrev pub NoneAllowsResult : Scene → Option ResultBody → Type 0
NoneAllowsResult s None =
    ListsNone s (facts.PeerComponents (sorts.Invokes One)) × ListsNone s (facts.PeerComponents (sorts.Invokes Three))
NoneAllowsResult s (Some body) =
    entries_passing s (invokes_passing (λ code. class_reports s.table true code && is_code body.code code))
    (peer_from_dtid s) ≡ []

-- F6. For an Invoke the lists show nothing: the table does not have its operation; or, in a Unidirectional, which has
-- neither ID, it is not of class 4.
abbrev pub ShowsWrongOperation : Scene → Option Component → Type 0
ShowsWrongOperation s None = ⊥
ShowsWrongOperation s (Some (Invoke id linked code parameter)) =
    (operation_of s.table code ≡ None)
    ⊎ (s.to ≡ None) × (s.from ≡ None) × (of_class reports_neither (class_of s.table code) ≡ false)
ShowsWrongOperation s (Some (ReturnResult last id body)) = NoneAllowsResult s body
ShowsWrongOperation s (Some (ReturnError id code parameter)) =
    ListsNone s (facts.PeerComponents (sorts.Invokes One)) × ListsNone s (facts.PeerComponents (sorts.Invokes Two))
ShowsWrongOperation s (Some (Reject id problem)) = ⊥

-- ---- F10: an invoke ID in use

-- the number of heard components that may have ended an own invocation of the ID
abbrev pub count_incoming_ends : Scene → ℕ
count_incoming_ends s =
    count_shown s (facts.IncomingComponents sorts.LastResults) + count_shown s (facts.IncomingComponents sorts.Errors)
    + count_shown s (facts.IncomingComponents sorts.InvokeRejects)
    + count_shown s (facts.IncomingComponents sorts.GeneralRejects)

-- the number of Rejects of answers, or with a general problem, that the end sent to the destination ID, with
-- those of this message
abbrev pub count_outgoing_rejects : Scene → ℕ
count_outgoing_rejects s =
    count_shown s (facts.Whole sorts.ResultRejects) + count_shown s (facts.Whole sorts.GeneralRejects)

-- There are more own invocations of the ID that do not expire than may have ended.
abbrev pub HasMoreLasting : Scene → Type 0
HasMoreLasting s =
    (count_incoming_ends s + count_outgoing_rejects s
    < count_shown s (facts.Invoked (sorts.Lasting One)) + count_shown s (facts.Invoked (sorts.Lasting Three)))
    ⊎ (count_incoming_ends s + count_shown s (facts.IncomingComponents sorts.NotLasts)
    < count_shown s (facts.Invoked (sorts.Lasting Any)))

-- F10 of an Invoke. With a destination ID: `HasMoreLasting`, or the message has two Invokes of the ID, so that its
-- entry occurs twice in the list for `Whole`. Without a destination ID: an earlier Invoke of the message has the ID.
abbrev pub ShowsBusy : Scene → Option (List ℕ) → Option Component → Type 0
ShowsBusy s None (Some (Invoke id linked code parameter)) = ListsOne s (facts.Before (sorts.Invokes Any))
ShowsBusy s (Some to) (Some (Invoke id linked code parameter)) =
    (2 ≤ count (λ n. n == s.number) (shown s (facts.Whole (sorts.Invokes Any)))) ⊎ HasMoreLasting s
ShowsBusy s to c = ⊥

-- ---- F11: a linked ID without an invocation

-- the number of invocations of the ID that were ended by last Return Results, Return Errors, or Rejects with an invoke
-- problem
abbrev pub taken_before : Scene → ℕ
taken_before s =
    count_shown s (facts.Before sorts.LastResults) + count_shown s (facts.Before sorts.Errors)
    + count_shown s (facts.Before sorts.InvokeRejects)

-- F11. All heard invocations of the linked ID have ended, or none of them allows the linked operation. Without a
-- destination ID, nothing is shown.
abbrev pub ShowsBadLink : Scene → Option (List ℕ) → Option Component → Type 0
ShowsBadLink s None (Some (Invoke id (Some linked) code parameter)) = ⊤
ShowsBadLink s (Some to) (Some (Invoke id (Some linked) code parameter)) =
    (count_shown s (facts.IncomingComponents (sorts.Invokes Any)) ≤ taken_before s)
    ⊎ (incoming_passing s (invokes_passing (λ of. links s.table of code)) ≡ [])
ShowsBadLink s to c = ⊥

-- ---- F12: an invocation that was already answered

-- the number of heard Invokes of a class
abbrev pub incoming_of_class : Scene → Class → ℕ
incoming_of_class s class = count_shown s (facts.IncomingComponents (sorts.Invokes class))

-- With this many more last Return Results, Return Errors and Rejects, the answers of the ID are more than the heard
-- invocations that allow them.
abbrev pub MoreAnswered : Scene → ℕ → ℕ → ℕ → Type 0
MoreAnswered s results errors rejects =
    (incoming_of_class s One + incoming_of_class s Three < count_shown s (facts.Before sorts.LastResults) + results)
    ⊎ (incoming_of_class s One + incoming_of_class s Two < count_shown s (facts.Before sorts.Errors) + errors)
    ⊎ (incoming_of_class s One + incoming_of_class s Two + incoming_of_class s Three
    < count_shown s (facts.Before sorts.LastResults) + results + count_shown s (facts.Before sorts.Errors) + errors)
    ⊎ (incoming_of_class s Any < taken_before s + results + errors + rejects)

-- The Return Result carries an operation, and at least as many last Return Results of this operation were sent before
-- as invocations of it were heard.
abbrev pub MoreOfOperation : Scene → Option ResultBody → Type 0
MoreOfOperation s None = ⊥
MoreOfOperation s (Some body) =
    length (incoming_passing s (invokes_passing (is_code body.code)))
    ≤ length (earlier_passing s (λ id. is_result_of id body.code))

-- F12, by the component
abbrev pub ShowsAnswered : Scene → Option Component → Type 0
ShowsAnswered s (Some (ReturnResult last id body)) = MoreAnswered s 1 0 0 ⊎ MoreOfOperation s body
ShowsAnswered s (Some (ReturnError id code parameter)) = MoreAnswered s 0 1 0
ShowsAnswered s (Some (Reject (Some id) (problems.Invoke n))) = MoreAnswered s 0 0 1
ShowsAnswered s c = ⊥

-- ---- F13: a Reject with a problem that no received component has

-- the components that include the half's own invocations
abbrev pub invoked_components : Scene → List Component
invoked_components s = components_of (map (λ n. n.1) (invoked_by s s.origin))

-- No heard Invoke of the ID is linked to an own invocation such that their two operations pass the test.
abbrev pub NoneLinked : Scene → (Code → Code → Bool) → Type 0
NoneLinked s passes = incoming_passing s (λ id. is_linked_to passes (invoked_components s) id) ≡ []

-- whether an operation has linked operations, but not this one
abbrev pub lists_others : Scene → Code → Code → Bool
lists_others s to code = not (lists_nothing s.table to) && not (links s.table to code)

-- F13 of a Reject with an invoke problem, in one of these cases:
-- - duplicateInvokeID (0): the earlier Rejects with it are at least as many as the heard Invokes of the ID, except the
-- first;
-- - a link problem (5 to 7): the earlier Rejects with one are at least as many as the heard linked Invokes of the ID;
-- - linkedResponseUnexpected (6) or unexpectedLinkedOperation (7): no heard Invoke has this problem;
-- - a problem above 7.
abbrev pub ShowsInvokeRejected : Scene → ℕ → Type 0
ShowsInvokeRejected s problem =
    (problem ≡ 0) × (count_shown s (facts.IncomingComponents (sorts.Invokes Any))
    ≤ count_shown s (facts.Before sorts.DuplicateRejects) + 1)
    ⊎ (is_of_link problem ≡ true) × (count_shown s (facts.IncomingComponents sorts.Linked)
    ≤ count_shown s (facts.Before sorts.LinkRejects))
    ⊎ (problem ≡ 6) × NoneLinked s (λ to code. lists_nothing s.table to)
    ⊎ (problem ≡ 7) × NoneLinked s (lists_others s)
    ⊎ (7 < problem)

-- the number of own invocations of the ID whose class allows the answer: class 1, and class 3 for results or class 2
-- for errors
abbrev pub count_suitable : Scene → Class → ℕ
count_suitable s class =
    count_shown s (facts.Invoked (sorts.Invokes One)) + count_shown s (facts.Invoked (sorts.Invokes class))

-- No answer was unexpected. Each own invocation of the ID allows the answer, and fewer than two answers were heard.
-- Each Return Result with an operation has that of an own invocation.
abbrev pub NoneUnexpected : Scene → Class → Type 0
NoneUnexpected s class =
    (count_suitable s class ≡ count_shown s (facts.Invoked (sorts.Invokes Any)))
    × (count_shown s (facts.IncomingComponents sorts.Results) + count_shown s (facts.IncomingComponents sorts.Errors)
    < 2)
    × (incoming_passing s (λ id. results_where id
    (λ code. not (list_any (invokes_where id (is_code code)) (invoked_components s)))) ≡ [])

-- F13 of a Reject of an answer, in one of these cases:
-- - each such answer was rejected before;
-- - the problem is above the last problem of such an answer;
-- - the problem is 1, but no answer was unexpected;
-- - the problem is 2 or more, but no own invocation allows the answer.
abbrev pub ShowsAnswerRejected : Scene → Sort → Sort → Class → ℕ → ℕ → Type 0
ShowsAnswerRejected s answers rejects class last problem =
    (count_shown s (facts.IncomingComponents answers) ≤ count_shown s (facts.Before rejects))
    ⊎ (last < problem)
    ⊎ (problem ≡ 1) × NoneUnexpected s class
    ⊎ (2 ≤ problem) × (count_suitable s class ≡ 0)

-- F13, by the component
abbrev pub ShowsRejected : Scene → Option Component → Type 0
ShowsRejected s (Some (Reject (Some id) (problems.Invoke n))) = ShowsInvokeRejected s n
ShowsRejected s (Some (Reject (Some id) (problems.ReturnResult n))) =
    ShowsAnswerRejected s sorts.Results sorts.ResultRejects Three 2 n
ShowsRejected s (Some (Reject (Some id) (problems.ReturnError n))) =
    ShowsAnswerRejected s sorts.Errors sorts.ErrorRejects Two 4 n
ShowsRejected s c = ⊥
