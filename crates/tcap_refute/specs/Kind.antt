-- Which kinds F1 to F7 does an entry have (Q.771, Q.773, Q.774)? Each kind is a fact about the entry and the items
-- before it since the last quiet mark, so it can be checked by hand. No end that keeps the rules sends such an entry
-- there.
use Rattle.std.specs.Prelude.{ℕ, ℤ, Bool, true, false, List, [], ◌∷◌, Option, Some, None, Result, Ok, Err, ◌+◌, ◌++◌, ◌==◌, ◌&&◌, ◌||◌, not, nat_lt, cond, is_none, is_some, option_map}
use Rattle.std.specs.Option.{option_or}
use Rattle.std.specs.List.{find, list_any}
use Rattle.tcap_ber.specs.declared.fault.Reason.{Reason as ReadingReason}
use Rattle.tcap_ber.specs.declared.fault.Reason.TheVariants as reading
use Rattle.tcap_parts.specs.declared.code.Code.{Code}
use Rattle.tcap_parts.specs.declared.component.Component.{Component}
use Rattle.tcap_parts.specs.declared.component.Component.TheVariants.{Invoke, ReturnResult, ReturnError, Reject}
use Rattle.tcap_parts.specs.declared.problem.Problem.TheVariants as problems
use Rattle.tcap_parts.specs.declared.dialogue.Dialogue.{Dialogue}
use Rattle.tcap_parts.specs.declared.dialogue.Dialogue.TheVariants as dialogues
use Rattle.tcap_msg.specs.declared.kind.Kind.TheVariants as forms
use Rattle.tcap_msg.specs.declared.message.Message.{Message}
use Rattle.tcap_msg.specs.declared.message.Message.TheVariants.{Unidirectional, Begin, Continue, End as EndMessage, Abort}
use Rattle.tcap_msg.specs.Parts.{cause_in, components_in, dialogue_in, dtid_in, otid_in}
use Rattle.tcap_record.specs.declared.entry.End.{End as Side}
use Rattle.tcap_end.specs.Class.{of_class, reports_neither}
use Rattle.tcap_end.specs.Component.{class_reports, names}
use Rattle.tcap_end.specs.Dialogue.{accepts_dialogue, is_request, is_uni, refuses_dialogue}
use Rattle.tcap_end.specs.End.{is_id}
use Rattle.tcap_end.specs.Table.{Table, class_of, operation_of}
use Rattle.tcap_model.specs.World.{Item, Sent}
use Rattle.tcap_model.specs.SinceMark.{ended_by, is_begin_with_request}
use Rattle.tcap_model.specs.declared.reason.Reason.{Reason}
use Rattle.tcap_model.specs.declared.reason.Reason.TheVariants.{BadMessage}
use Rattle.tcap_refute.specs.declared.kind.Kind.{Kind}
use Rattle.tcap_refute.specs.declared.kind.Kind.TheVariants as kinds
use Rattle.tcap_refute.specs.declared.kind.Refutation.{Refutation}
use Rattle.tcap_refute.specs.EarlierMessages.{answers, peer_sent_from, components_of, has_a, invokes, is_answer, is_invoke_id, is_reject, sent_by, since_quiet}

-- ---- F1: octets that are no message (Q.773, X.690)

-- The reasons that are limits of this profile, and not of the standard.
abbrev pub is_limit : ReadingReason → Bool
is_limit reading.LengthForm = true
is_limit reading.TooLong = true
is_limit reading.TagForm = true
is_limit reading.BadVersion = true
is_limit reading.DialogueSyntax = true
is_limit reading.Indefinite = true
is_limit reading.CodeTooWide = true
is_limit reading.TooDeep = true
is_limit _ = false

-- ---- F2: a transaction in which the peer sent nothing (Q.774 3.3)

-- Whether these messages of the peer give no reason for an Abort with this cause. Cause 1, unrecognized transaction
-- ID, answers a Continue; cause 4, resource limitation, answers a Begin; no provider of this profile sends another.
abbrev pub is_cause_unfounded : ℕ → List Message → Bool
is_cause_unfounded cause messages =
    cond (cause == 1) (not (has_a forms.Continue messages))
    (cond (cause == 4) (not (has_a forms.Begin messages)) true)

-- Whether the peer sent nothing from the ID, or nothing that an Abort with this cause answers.
abbrev pub is_unasked : Option ℕ → List Message → Bool
is_unasked cause [] = true
is_unasked None messages = false
is_unasked (Some cause) messages = is_cause_unfounded cause messages

-- F2: The peer sent nothing from the message's destination ID, or nothing that its cause answers.
abbrev pub is_unknown_transaction : Side → List Item → Message → Bool
is_unknown_transaction side before message = by (dtid_in message)
  where
    by : Option (List ℕ) → Bool
    by None = false
    by (Some id) = is_unasked (cause_in message) (peer_sent_from side id before)

-- ---- F3: an originating ID that its end has used (Q.774 3.3; that an ID is used once is this profile's choice)

-- A Continue from this originating ID to another destination ID.
abbrev pub goes_elsewhere : List ℕ → List ℕ → Message → Bool
goes_elsewhere otid dtid (Continue other to dialogue components) = is_id otid (Some other) && not (is_id dtid (Some to))
goes_elsewhere otid dtid _ = false

-- F3: A Begin from an ID that the end used before, or a Continue from an ID from which the end sent a Continue to
-- another destination ID.
abbrev pub is_reused : Side → List Item → Message → Bool
is_reused side before (Begin otid dialogue components) = list_any (λ m. is_id otid (otid_in m)) (sent_by side before)
is_reused side before (Continue otid dtid dialogue components) =
    list_any (goes_elsewhere otid dtid) (sent_by side before)
is_reused side before _ = false

-- ---- F4: a message after the end of its dialogue (Q.774 3.3)

-- F4: A Continue, an End, or an Abort without cause goes to an ID to which the same end sent an End, or an Abort
-- without cause, before.
abbrev pub is_after_end : Side → List Item → Message → Bool
is_after_end side before message = cond (is_none (cause_in message)) (by (dtid_in message)) false
  where
    by : Option (List ℕ) → Bool
    by None = false
    by (Some id) = list_any (λ m. is_id id (ended_by m)) (sent_by side before)

-- ---- F5: an answer to, or a Reject of, what was never sent (Q.774 3.2)

-- An answer or a Reject that is for none of these components.
abbrev pub answers_none_of : List Component → Component → Bool
answers_none_of components (Invoke id linked code parameter) = false
answers_none_of components (ReturnResult last id body) = not (list_any (invokes id) components)
answers_none_of components (ReturnError id code parameter) = not (list_any (invokes id) components)
answers_none_of components (Reject None problem) = true
answers_none_of components (Reject (Some id) (problems.General n)) = true
answers_none_of components (Reject (Some id) (problems.Invoke n)) = not (list_any (invokes id) components)
answers_none_of components (Reject (Some id) (problems.ReturnResult n)) = not (list_any (answers true id) components)
answers_none_of components (Reject (Some id) (problems.ReturnError n)) = not (list_any (answers false id) components)

-- F5: A component is an answer or a Reject for nothing that the peer sent. Nothing comes before a Unidirectional or a
-- Begin, so neither has an answer, and a Begin has no Reject. A Reject in a Unidirectional is left open (Q.771
-- 3.1.3).
abbrev pub answers_nothing : Side → List Item → Message → Bool
answers_nothing side before (Unidirectional dialogue components) = list_any is_answer components
answers_nothing side before (Begin otid dialogue components) =
    list_any (λ c. is_answer c || is_reject c) (components_in (Begin otid dialogue components))
answers_nothing side before message = by (dtid_in message)
  where
    by : Option (List ℕ) → Bool
    by None = false
    by (Some id) = list_any (answers_none_of (components_of (peer_sent_from side id before))) (components_in message)

-- ---- F6: a wrong operation (Q.771 3.1, operation classes)

-- An Invoke of an operation that the table lacks.
abbrev pub is_unknown_operation : Table → Component → Bool
is_unknown_operation table (Invoke id linked code parameter) = is_none (operation_of table code)
is_unknown_operation table _ = false

-- An Invoke of an operation that is not of class 4, the only class that a Unidirectional may carry.
abbrev pub is_not_of_class_4 : Table → Component → Bool
is_not_of_class_4 table (Invoke id linked code parameter) = not (of_class reports_neither (class_of table code))
is_not_of_class_4 table _ = false

-- An Invoke with this ID whose class allows a Return Result (if `is_result`) or else a Return Error. If an operation
-- is named, it is the Invoke's.
abbrev pub may_be_answered : Table → Bool → ℤ → Option Code → Component → Bool
may_be_answered table is_result id named (Invoke other linked code parameter) =
    is_invoke_id id other && class_reports table is_result code && names named code
may_be_answered table is_result id named _ = false

-- An answer that no Invoke among these components allows. The code of a Return Result names an operation; that of a
-- Return Error names an error, and is not compared.
abbrev pub no_class_allows : Table → List Component → Component → Bool
no_class_allows table components (ReturnResult last id body) =
    not (list_any (may_be_answered table true id (option_map (λ b. b.code) body)) components)
no_class_allows table components (ReturnError id code parameter) =
    not (list_any (may_be_answered table false id None) components)
no_class_allows table components _ = false

-- F6: An Invoke of an operation that the table lacks or, in a Unidirectional, that is not of class 4; or an answer
-- that no Invoke of the peer allows.
abbrev pub is_wrong_operation : Table → Side → List Item → Message → Bool
is_wrong_operation table side before (Unidirectional dialogue components) =
    list_any (is_not_of_class_4 table) components
is_wrong_operation table side before message =
    list_any (is_unknown_operation table) (components_in message) || by (dtid_in message)
  where
    by : Option (List ℕ) → Bool
    by None = false
    by (Some id) =
        list_any (no_class_allows table (components_of (peer_sent_from side id before))) (components_in message)

-- ---- F7: a misplaced dialogue portion (Q.774 3.2, dialogues; Q.773 4.2.3)

-- A PDU that a Continue or an End may not have. Only an AARE that accepts the dialogue is allowed, if the peer asked
-- for one (`is_asked`).
abbrev pub is_misplaced_in_continue : Bool → Option Dialogue → Bool
is_misplaced_in_continue is_asked None = false
is_misplaced_in_continue is_asked dialogue = not (is_asked && accepts_dialogue dialogue)

-- A PDU that an Abort may not have. Allowed are an ABRT whose source is the user (0) or the provider (1), and an AARE
-- that refuses the dialogue, if the peer asked for one.
abbrev pub is_misplaced_in_abort : Bool → Option Dialogue → Bool
is_misplaced_in_abort is_asked None = false
is_misplaced_in_abort is_asked (Some (dialogues.Abort source info)) = nat_lt 1 source
is_misplaced_in_abort is_asked dialogue = not (is_asked && refuses_dialogue dialogue)

-- F7: The message has a dialogue PDU that its form may not have there.
abbrev pub is_misplaced_dialogue : Side → List Item → Message → Bool
is_misplaced_dialogue side before (Unidirectional dialogue components) = is_some dialogue && not (is_uni dialogue)
is_misplaced_dialogue side before (Begin otid dialogue components) = is_some dialogue && not (is_request dialogue)
is_misplaced_dialogue side before (Continue otid dtid dialogue components) =
    is_misplaced_in_continue (list_any is_begin_with_request (peer_sent_from side dtid before)) dialogue
is_misplaced_dialogue side before (EndMessage dtid dialogue components) =
    is_misplaced_in_continue (list_any is_begin_with_request (peer_sent_from side dtid before)) dialogue
is_misplaced_dialogue side before (Abort dtid reason) =
    is_misplaced_in_abort (list_any is_begin_with_request (peer_sent_from side dtid before))
    (dialogue_in (Abort dtid reason))

-- ---- all these kinds

-- Whether a message of this end has this kind, of F2 to F7, after these items since the last quiet mark.
abbrev pub is_of_kind : Table → Side → List Item → Message → Kind → Bool
is_of_kind table side before message kinds.BadMessage = false
is_of_kind table side before message kinds.UnknownTransaction = is_unknown_transaction side before message
is_of_kind table side before message kinds.ReusedId = is_reused side before message
is_of_kind table side before message kinds.AfterEnd = is_after_end side before message
is_of_kind table side before message kinds.AnswersNothing = answers_nothing side before message
is_of_kind table side before message kinds.WrongOperation = is_wrong_operation table side before message
is_of_kind table side before message kinds.MisplacedDialogue = is_misplaced_dialogue side before message
is_of_kind table side before message _ = false

-- The number after the F.
abbrev pub kind_number : Kind → ℕ
kind_number kinds.BadMessage = 1
kind_number kinds.UnknownTransaction = 2
kind_number kinds.ReusedId = 3
kind_number kinds.AfterEnd = 4
kind_number kinds.AnswersNothing = 5
kind_number kinds.WrongOperation = 6
kind_number kinds.MisplacedDialogue = 7
kind_number kinds.WrongHalf = 8
kind_number kinds.WrongDialogue = 9
kind_number kinds.InvokeIdBusy = 10
kind_number kinds.BadLink = 11
kind_number kinds.AnsweredAlready = 12
kind_number kinds.RejectNotAllowed = 13
kind_number kinds.WrongReply = 14
kind_number kinds.OpenAtMark = 15

-- The kinds that refute a record, the lowest first.
abbrev pub refuting_kinds : List Kind
refuting_kinds = kinds.BadMessage ∷ kinds.UnknownTransaction ∷ kinds.ReusedId ∷ kinds.AfterEnd ∷ kinds.AnswersNothing
    ∷ kinds.WrongOperation ∷ kinds.MisplacedDialogue ∷ []

-- The lowest kind of an item after these items; a quiet mark has none.
abbrev pub lowest_kind : Table → List Item → Item → Option Kind
lowest_kind table items (Sent side message) = find (is_of_kind table side (since_quiet items) message) refuting_kinds
lowest_kind table items Item.Quiet = None

-- The kind of an entry that is no item: F1 if the standard makes its octets no message.
abbrev pub kind_of_reason : Reason → Option Kind
kind_of_reason (BadMessage fault) = cond (is_limit fault.reason) None (Some kinds.BadMessage)
kind_of_reason _ = None

-- ---- a record

-- The refutation of this entry, if it has a kind.
abbrev pub refutation_at : ℕ → Option Kind → Option Refutation
refutation_at entry kind = option_map (λ k. record { entry = entry; kind = k }) kind

-- The first of these entries that has a kind, with its lowest kind. `entry` is the count of the `items` before them,
-- which have no kind. Nothing after the first entry that is no item is looked at.
abbrev pub refuted_after : Table → List Item → ℕ → List (Result Item Reason) → Option Refutation
refuted_after table items entry [] = None
refuted_after table items entry (Err reason ∷ more) = refutation_at entry (kind_of_reason reason)
refuted_after table items entry (Ok item ∷ more) =
    option_or (refutation_at entry (lowest_kind table items item))
    (refuted_after table (items ++ item ∷ []) (entry + 1) more)

-- The first entry of a record that has a kind, with its lowest kind.
abbrev pub refuted : Table → List (Result Item Reason) → Option Refutation
refuted table entries = refuted_after table [] 0 entries
