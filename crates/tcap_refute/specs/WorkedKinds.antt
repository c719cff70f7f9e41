-- Which entry of each worked record is refuted, and by which kind?
use Rattle.std.specs.Prelude.{◌≡◌, ℕ, pos, List, [], ◌∷◌, ◌++◌, map, take, Option, Some, None, Result, Ok, Err}
use Rattle.tcap_ber.specs.declared.fault.Reason.{Reason as ReadingReason}
use Rattle.tcap_ber.specs.declared.fault.Reason.TheVariants as reading
use Rattle.tcap_parts.specs.declared.code.Code.TheVariants.{Local}
use Rattle.tcap_parts.specs.declared.problem.Problem.TheVariants as problems
use Rattle.tcap_parts.specs.declared.component.Component.{Component}
use Rattle.tcap_parts.specs.declared.component.Component.TheVariants.{ReturnError, Reject}
use Rattle.tcap_parts.specs.declared.dialogue.Dialogue.{Dialogue}
use Rattle.tcap_parts.specs.declared.dialogue.Dialogue.TheVariants as dialogues
use Rattle.tcap_parts.specs.declared.dialogue.Source.TheVariants.{User}
use Rattle.tcap_msg.specs.declared.message.AbortReason.TheVariants as aborts
use Rattle.tcap_msg.specs.declared.message.Message.{Message}
use Rattle.tcap_msg.specs.declared.message.Message.TheVariants.{Unidirectional, Begin, Continue, Abort}
use Rattle.tcap_record.specs.declared.entry.End.TheVariants.{A, B}
use Rattle.tcap_model.specs.World.{Item, Sent}
use Rattle.tcap_model.specs.Run.{provider_abort}
use Rattle.tcap_model.specs.declared.reason.Reason.{Reason}
use Rattle.tcap_model.specs.declared.reason.Reason.TheVariants.{BadMessage}
use Rattle.tcap_model.specs.WorkedItems.{answer, begin, crossing_items, dialogue_items, end_to, further, id, invoke, over_a_mark_items, result, table}
use Rattle.tcap_refute.specs.declared.kind.Kind.{Kind}
use Rattle.tcap_refute.specs.declared.kind.Kind.TheVariants as kinds
use Rattle.tcap_refute.specs.Kind.{refuted}

-- These entries are refuted at this entry, by this kind.
abbrev pub Refutes : List (Result Item Reason) → ℕ → Kind → Type 0
Refutes entries entry kind = refuted table entries ≡ Some (record { entry = entry; kind = kind })

-- None of these entries is refuted.
abbrev pub RefutesNone : List (Result Item Reason) → Type 0
RefutesNone entries = refuted table entries ≡ None

-- Octets that are no message, for this reason.
abbrev bad : ReadingReason → Result Item Reason
bad reason = Err (BadMessage (record { reason = reason; place = 0 }))

abbrev from_a : Message → Result Item Reason
from_a message = Ok (Sent A message)

abbrev from_b : Message → Result Item Reason
from_b message = Ok (Sent B message)

abbrev lone_begin : Message
lone_begin = begin None None

abbrev begin_with : ℕ → Message
begin_with code = begin None (Some (invoke code ∷ []))

abbrev lone_answer : Message
lone_answer = answer None None

abbrev with_result : Option (List Component)
with_result = Some (result ∷ [])

-- F1: Octets that are no message.
abbrev pub octets_of_no_message : Type 0
octets_of_no_message = Refutes (bad reading.EmptyComponents ∷ []) 0 kinds.BadMessage

-- Limits of this profile refute nothing, and nothing after them is looked at.
abbrev pub limits_refute_nothing : Type 0
limits_refute_nothing =
    RefutesNone (bad reading.BadVersion ∷ []) × RefutesNone (bad reading.Indefinite ∷ [])
    × RefutesNone (from_a lone_begin ∷ bad reading.BadVersion ∷ from_b (end_to 9 None) ∷ [])

-- The first entry with a kind is refuted.
abbrev pub lowest_entry_is_named : Type 0
lowest_entry_is_named = Refutes (from_a (end_to 9 None) ∷ bad reading.EmptyComponents ∷ []) 0 kinds.UnknownTransaction

-- F2: An End or a Continue to an ID from which the peer sent nothing.
abbrev pub end_to_nothing : Type 0
end_to_nothing =
    Refutes (from_a (begin_with 45) ∷ from_b (end_to 9 None) ∷ []) 1 kinds.UnknownTransaction
    × Refutes (from_a lone_begin ∷ from_a (Continue (id 1) (id 2) None None) ∷ []) 1 kinds.UnknownTransaction
    × Refutes (from_a lone_begin ∷ from_a (Continue (id 1) (id 2) None None) ∷ from_b lone_answer ∷ []) 1
    kinds.UnknownTransaction

-- F2: An Abort of the provider that answers nothing, and some that answer a message.
abbrev pub aborts_of_providers : Type 0
aborts_of_providers =
    Refutes (from_a lone_begin ∷ from_b (provider_abort (id 1) 1) ∷ []) 1 kinds.UnknownTransaction
    × Refutes (from_a lone_begin ∷ from_b (provider_abort (id 1) 2) ∷ []) 1 kinds.UnknownTransaction
    × RefutesNone (from_a lone_begin ∷ from_b (provider_abort (id 1) 4) ∷ [])
    × RefutesNone (map (λ item. Ok item) crossing_items)

-- F3: A Begin, and a Continue, from a used ID.
abbrev pub used_ids : Type 0
used_ids =
    Refutes (from_a lone_begin ∷ from_a lone_begin ∷ []) 1 kinds.ReusedId
    × Refutes (from_a lone_begin ∷ from_a (Begin (id 3) None None) ∷ from_b lone_answer
    ∷ from_b (Continue (id 2) (id 3) None None) ∷ []) 3 kinds.ReusedId

-- F4: A second End.
abbrev pub twice_ended : Type 0
twice_ended = Refutes (from_a lone_begin ∷ from_b lone_answer ∷ from_a (end_to 2 None) ∷ from_a (end_to 2 None) ∷ []) 3
    kinds.AfterEnd

-- F5: A Return Result and a Reject for something that was never sent.
abbrev pub answers_to_nothing : Type 0
answers_to_nothing =
    Refutes (from_a lone_begin ∷ from_b (end_to 1 with_result) ∷ []) 1 kinds.AnswersNothing
    × Refutes (from_a lone_begin ∷ from_b lone_answer ∷ from_a (further (Reject None (problems.General 0))) ∷ []) 2
    kinds.AnswersNothing

-- F6: A Return Error that class 3 does not allow, and an unknown operation; class 4 in a Unidirectional is right.
abbrev pub operations : Type 0
operations =
    Refutes (from_a (begin_with 47) ∷ from_b (end_to 1 (Some (ReturnError (pos 1) (Local (pos 1)) None ∷ []))) ∷ []) 1
    kinds.WrongOperation
    × Refutes (from_a (begin_with 99) ∷ []) 0 kinds.WrongOperation
    × RefutesNone (from_a (Unidirectional None (invoke 48 ∷ [])) ∷ [])

abbrev accepted : Dialogue
accepted = dialogues.Response (4 ∷ 0 ∷ []) 0 (User 0) None

-- F7: An AARE without an AARQ; an AARE after an AARQ is right.
abbrev pub dialogue_portions : Type 0
dialogue_portions =
    Refutes (from_a (begin_with 45) ∷ from_b (answer (Some accepted) with_result) ∷ []) 1 kinds.MisplacedDialogue
    × RefutesNone (map (λ item. Ok item) dialogue_items)

-- A Reject in a Unidirectional and an ABRT of the provider are left open.
abbrev pub left_open : Type 0
left_open =
    RefutesNone (from_a (Unidirectional None (Reject (Some (pos 1)) (problems.Invoke 1) ∷ [])) ∷ [])
    × RefutesNone (map (λ item. Ok item) (take 2 dialogue_items)
    ++ from_a (Abort (id 2) (Some (aborts.Dialogue (dialogues.Abort 1 None)))) ∷ [])

-- Entries before a quiet mark are not looked at.
abbrev pub over_marks : Type 0
over_marks =
    RefutesNone (map (λ item. Ok item) over_a_mark_items)
    × Refutes (from_a (begin_with 45) ∷ from_b (end_to 1 with_result) ∷ from_a (begin_with 45) ∷ []) 2 kinds.ReusedId
    × Refutes (from_a (begin_with 45) ∷ Ok Item.Quiet ∷ from_b (end_to 1 with_result) ∷ []) 2 kinds.UnknownTransaction
