-- Which kinds F2 to F7 does a message have, if earlier messages are known only by their facts (`Facts`)?
use Rattle.std.specs.Prelude.{◌≡◌, ℕ, ℤ, Bool, true, false, List, Option, Some, None, ◌==◌, ◌&&◌, ◌||◌, not, cond, is_none, is_some, option_map}
use Rattle.std.specs.Option.{option_or}
use Rattle.tcap_parts.specs.declared.component.Component.{Component}
use Rattle.tcap_parts.specs.declared.component.Component.TheVariants.{Invoke, ReturnResult, ReturnError, Reject}
use Rattle.tcap_parts.specs.declared.dialogue.Dialogue.{Dialogue}
use Rattle.tcap_parts.specs.declared.problem.Problem.{Problem}
use Rattle.tcap_parts.specs.declared.problem.Problem.TheVariants as problems
use Rattle.tcap_msg.specs.declared.kind.Kind.{Kind as Form}
use Rattle.tcap_msg.specs.declared.kind.Kind.TheVariants as forms
use Rattle.tcap_msg.specs.declared.message.Message.{Message}
use Rattle.tcap_msg.specs.Parts.{cause_in, components_in, dialogue_in, dtid_in, kind_in, otid_in}
use Rattle.tcap_record.specs.declared.entry.End.{End as Side}
use Rattle.tcap_end.specs.Dialogue.{is_request, is_uni}
use Rattle.tcap_end.specs.Table.{Table, operation_of}
use Rattle.tcap_record.specs.Ends.{other}
use Rattle.tcap_refute.specs.declared.components.Test.{Test}
use Rattle.tcap_refute.specs.declared.components.Test.TheVariants as tests
use Rattle.tcap_refute.specs.declared.kind.Kind.{Kind}
use Rattle.tcap_refute.specs.declared.kind.Kind.TheVariants as kinds
use Rattle.tcap_refute.specs.EarlierMessages.{is_answer, is_reject}
use Rattle.tcap_refute.specs.FirstComponent.{first_where}
use Rattle.tcap_refute.specs.Kind.{is_misplaced_in_abort, is_misplaced_in_continue, is_not_of_class_4, is_unknown_operation}
use Rattle.tcap_model.specs.World.{Item}
use Rattle.tcap_refute.specs.declared.sent_from_id.FromId.{FromId}
use Rattle.tcap_refute.specs.KeptFacts.{fact_by_from}
use Rattle.tcap_refute.specs.Facts.{FromFact, EndFact, Spoke, Begun, Asked, WentOn, WentElsewhere, OfId, Invoked, Answered, Succeeds, Fails, From, Ended, fact_since_mark}

-- Whether the fact holds for an originating ID; false if there is none.
abbrev pub fact_from : (EndFact → Bool) → Option (List ℕ) → FromFact → Bool
fact_from holds None fact = false
fact_from holds (Some id) fact = holds (From id fact)

-- Whether the end ended the dialogue with this destination ID; false if there is none.
abbrev pub fact_ended : (EndFact → Bool) → Option (List ℕ) → Bool
fact_ended holds None = false
fact_ended holds (Some id) = holds (Ended id)

-- ---- F2, from the facts about the destination ID

-- Whether the peer sent no message that an Abort with this cause answers.
abbrev pub cause_is_unfounded : (FromFact → Bool) → ℕ → Bool
cause_is_unfounded holds cause = cond (cause == 1) (not (holds WentOn)) (cond (cause == 4) (not (holds Begun)) true)

-- Whether the peer sent nothing from the ID, or nothing that an Abort with this cause answers.
abbrev pub was_not_asked : (FromFact → Bool) → Option ℕ → Bool
was_not_asked holds None = not (holds Spoke)
was_not_asked holds (Some cause) = not (holds Spoke) || cause_is_unfounded holds cause

-- F2: The peer sent nothing from the destination ID, or nothing that the message's cause answers.
abbrev pub transaction_is_unknown : (FromFact → Bool) → Message → Bool
transaction_is_unknown holds message = is_some (dtid_in message) && was_not_asked holds (cause_in message)

-- ---- F3, from the facts about the originating ID

-- F3: The end used the originating ID of a Begin before, or sent a Continue from that of a Continue to another ID.
abbrev pub id_is_reused : (FromFact → Bool) → Option (List ℕ) → Form → Bool
id_is_reused holds dtid forms.Begin = holds Spoke
id_is_reused holds None forms.Continue = false
id_is_reused holds (Some dtid) forms.Continue = holds (WentElsewhere dtid)
id_is_reused holds dtid _ = false

-- ---- F4

-- Whether a message comes after its end `ended` the dialogue; an Abort with a cause never does.
abbrev pub comes_after_end : Bool → Option ℕ → Bool
comes_after_end ended None = ended
comes_after_end ended (Some cause) = false

-- ---- F5 and F6, from the facts about the destination ID

-- Whether the peer sent an Invoke, a Return Result or a Return Error with this ID.
abbrev pub has_come : (FromFact → Bool) → ℤ → Bool
has_come holds id = holds (OfId id Invoked) || holds (OfId id (Answered true)) || holds (OfId id (Answered false))

-- Whether a Reject is for nothing that the peer sent. If `of_one` holds, general problems 1 and 2 may be for a
-- component that the peer sent (`FirstKinds`).
abbrev pub rejects_none : Bool → (FromFact → Bool) → Option ℤ → Problem → Bool
rejects_none of_one holds None problem = true
rejects_none of_one holds (Some id) (problems.General n) = not (of_one && ((n == 1 || n == 2) && has_come holds id))
rejects_none of_one holds (Some id) (problems.Invoke n) = not (holds (OfId id Invoked))
rejects_none of_one holds (Some id) (problems.ReturnResult n) = not (holds (OfId id (Answered true)))
rejects_none of_one holds (Some id) (problems.ReturnError n) = not (holds (OfId id (Answered false)))

-- An answer or a Reject for nothing that the peer sent.
abbrev pub answers_none : Bool → (FromFact → Bool) → Component → Bool
answers_none of_one holds (Invoke id linked code parameter) = false
answers_none of_one holds (ReturnResult last id body) = not (holds (OfId id Invoked))
answers_none of_one holds (ReturnError id code parameter) = not (holds (OfId id Invoked))
answers_none of_one holds (Reject id problem) = rejects_none of_one holds id problem

-- An answer that no Invoke of the peer allows.
abbrev pub is_not_allowed : (FromFact → Bool) → Component → Bool
is_not_allowed holds (ReturnResult last id body) = not (holds (OfId id (Succeeds (option_map (λ b. b.code) body))))
is_not_allowed holds (ReturnError id code parameter) = not (holds (OfId id Fails))
is_not_allowed holds _ = false

-- An Invoke of an operation that the table lacks, or an answer that no Invoke allows.
abbrev pub is_wrong : Table → (FromFact → Bool) → Component → Bool
is_wrong table holds (Invoke id linked code parameter) = is_none (operation_of table code)
is_wrong table holds component = is_not_allowed holds component

-- Whether a component meets a test.
abbrev pub passes : Table → (FromFact → Bool) → Test → Component → Bool
passes table holds tests.Answer component = is_answer component
passes table holds tests.AnswerOrReject component = is_answer component || is_reject component
passes table holds (tests.AnswersNothing of_one) component = answers_none of_one holds component
passes table holds tests.UnknownOperation component = is_unknown_operation table component
passes table holds tests.NotOfClass4 component = is_not_of_class_4 table component
passes table holds tests.Wrong component = is_wrong table holds component

-- The test for F5 in a message of this form.
abbrev pub answer_test : Bool → Form → Test
answer_test of_one forms.Unidirectional = tests.Answer
answer_test of_one forms.Begin = tests.AnswerOrReject
answer_test of_one _ = tests.AnswersNothing of_one

-- The test for F6 in a message of this form.
abbrev pub operation_test : Form → Test
operation_test forms.Unidirectional = tests.NotOfClass4
operation_test forms.Begin = tests.UnknownOperation
operation_test _ = tests.Wrong

-- The number of the first component of a message that meets a test.
abbrev pub first_passing : Table → (FromFact → Bool) → Test → Message → Option ℕ
first_passing table holds test message = first_where (passes table holds test) 0 (components_in message)

-- The number of the component that gives a message this kind; only F5 and F6 have one.
abbrev pub component_by : Bool → Table → (FromFact → Bool) → Message → Kind → Option ℕ
component_by of_one table holds message kinds.AnswersNothing =
    first_passing table holds (answer_test of_one (kind_in message)) message
component_by of_one table holds message kinds.WrongOperation =
    first_passing table holds (operation_test (kind_in message)) message
component_by of_one table holds message kind = None

-- ---- F7

-- F7: The message has a dialogue PDU that its form may not have there. `is_asked` is whether the peer sent an AARQ.
abbrev pub dialogue_is_misplaced : Bool → Form → Option Dialogue → Bool
dialogue_is_misplaced is_asked forms.Unidirectional dialogue = is_some dialogue && not (is_uni dialogue)
dialogue_is_misplaced is_asked forms.Begin dialogue = is_some dialogue && not (is_request dialogue)
dialogue_is_misplaced is_asked forms.Abort dialogue = is_misplaced_in_abort is_asked dialogue
dialogue_is_misplaced is_asked _ dialogue = is_misplaced_in_continue is_asked dialogue

-- ---- the lowest kind of a message that an end sends

-- The lowest of F2 to F4. `own` has the facts about the originating ID, and `from_peer` those about the destination ID;
-- `ended` is whether the end ended this dialogue before.
abbrev pub kind_of_ids : (FromFact → Bool) → (FromFact → Bool) → Bool → Message → Option Kind
kind_of_ids own from_peer ended message =
    cond (transaction_is_unknown from_peer message) (Some kinds.UnknownTransaction)
    (cond (id_is_reused own (dtid_in message) (kind_in message)) (Some kinds.ReusedId)
    (cond (comes_after_end ended (cause_in message)) (Some kinds.AfterEnd) None))

-- The lowest of F5 to F7, from the facts about the destination ID.
abbrev pub kind_of_parts : Bool → Table → (FromFact → Bool) → Message → Option Kind
kind_of_parts of_one table from_peer message =
    cond (is_some (component_by of_one table from_peer message kinds.AnswersNothing)) (Some kinds.AnswersNothing)
    (cond (is_some (component_by of_one table from_peer message kinds.WrongOperation)) (Some kinds.WrongOperation)
    (cond (dialogue_is_misplaced (from_peer Asked) (kind_in message) (dialogue_in message))
    (Some kinds.MisplacedDialogue) None))

-- The lowest of F2 to F7. `of_one` is whether one end alone is judged (`FirstKinds`).
abbrev pub kind_by : Bool → Table → (FromFact → Bool) → (FromFact → Bool) → Bool → Message → Option Kind
kind_by of_one table own from_peer ended message =
    option_or (kind_of_ids own from_peer ended message) (kind_of_parts of_one table from_peer message)

-- The notes agree with the list: each fact about the message's IDs holds by them exactly if it holds in these items
-- since the last quiet mark.
pub record AreOfIds (table : Table) (items : List Item) (side : Side) (message : Message)
    (own from_peer : Option FromId) (ended : Bool) : Type 0 where
  pub from_own : (fact : FromFact) → fact_by_from own fact
      ≡ fact_from (fact_since_mark table items side) (otid_in message) fact
  pub from_peers : (fact : FromFact)
      → fact_by_from from_peer fact ≡ fact_from (fact_since_mark table items (other side)) (dtid_in message) fact
  pub has_ended : ended ≡ fact_ended (fact_since_mark table items side) (dtid_in message)
