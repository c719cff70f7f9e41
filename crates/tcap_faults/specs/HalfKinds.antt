-- Which messages do not fit the half with their destination ID, by its IDs, its beginning or its dialogue (Q.774 3.2,
-- 3.3)?
use Rattle.std.specs.Prelude.{ℕ, Bool, true, false, List, Option, Some, None, is_some, ◌==◌, ◌&&◌, ◌||◌, not}
use Rattle.tcap_parts.specs.declared.dialogue.Dialogue.{Dialogue}
use Rattle.tcap_parts.specs.declared.dialogue.Dialogue.TheVariants as dialogues
use Rattle.tcap_msg.specs.declared.kind.Kind.TheVariants as forms
use Rattle.tcap_msg.specs.declared.message.Message.{Message}
use Rattle.tcap_msg.specs.declared.message.Message.TheVariants.{Continue, Abort}
use Rattle.tcap_msg.specs.Parts.{dialogue_in}
use Rattle.tcap_record.specs.declared.entry.End.{End as Side}
use Rattle.tcap_end.specs.Dialogue.{is_response, is_user_abort}
use Rattle.tcap_end.specs.End.{is_id}
use Rattle.tcap_model.specs.World.{Item}
use Rattle.tcap_refute.specs.EarlierMessages.{has_a, is_a}
use Rattle.tcap_faults.specs.ClosedHalves.{was_closed}
use Rattle.tcap_faults.specs.SentToId.{began, is_request_of, outgoing}
use Rattle.tcap_faults.specs.declared.dialogue.half_origin.HalfOrigin.{HalfOrigin}
use Rattle.tcap_faults.specs.declared.dialogue.half_origin.HalfOrigin.TheVariants.{Accepted, Begun, Nowhere, Refused, Unanswered}
use Rattle.tcap_faults.specs.HalfByPeerId.{HalfMessages}

-- ---- F8: a half that may not send the message

-- Whether there is an own ID, and it differs from this ID.
abbrev pub is_another : List ℕ → Option (List ℕ) → Bool
is_another otid None = false
is_another otid (Some own) = not (is_id otid (Some own))

-- A Continue from an ID that is not the half's. An accepted half goes on from an ID that the end did not begin, and
-- from its own ID if it has one. A begun half goes on from its own ID.
abbrev pub goes_from_other : Side → List Item → HalfOrigin → Option (List ℕ) → Message → Bool
goes_from_other side items Accepted own (Continue otid dtid dialogue components) =
    began side otid items || is_another otid own
goes_from_other side items Begun own (Continue otid dtid dialogue components) = is_another otid own
goes_from_other side items origin own m = false

-- An ABRT whose source is the provider.
abbrev pub is_provider_abort : Option Dialogue → Bool
is_provider_abort (Some (dialogues.Abort source info)) = source == 1
is_provider_abort _ = false

-- Whether a half that began so may not send the message. An ABRT of the provider over an unanswered half is left open:
-- it may answer a Continue that lacks the AARE that an AARQ requires (Q.774 3.2.1.4, abnormal procedures).
abbrev pub may_not_send : HalfOrigin → Message → Bool
may_not_send Accepted m = false
may_not_send Begun m = false
may_not_send Unanswered m = not (is_a forms.Abort m && is_provider_abort (dialogue_in m))
may_not_send Refused m = true
may_not_send Nowhere m = true

-- F8: The half may not send the message, by how it began; the Continue goes from an ID that is not the half's; or the
-- end answered the half as closed.
abbrev pub is_wrong_half : Side → List Item → Message → HalfMessages → Bool
is_wrong_half side items m h =
    may_not_send h.origin m || goes_from_other side items h.origin h.own m || was_closed side items h.own

-- ---- F9: a dialogue portion that does not fit the dialogue

-- Whether the peer's Begin began the half, and the provider did not refuse it.
abbrev pub is_accepted : HalfOrigin → Bool
is_accepted Accepted = true
is_accepted origin = false

-- Whether a message to this ID is the first answer to the peer's Begin.
abbrev pub is_first_answer : Side → List Item → List ℕ → HalfMessages → Bool
is_first_answer side items id h = is_accepted h.origin && not (has_a forms.Continue (outgoing side id items))

-- In a Continue or an End: any dialogue portion, if it is no first answer; or no AARE, if it is the first answer to a
-- Begin with an AARQ.
abbrev pub is_wrong_in_continue : Bool → Bool → Option Dialogue → Bool
is_wrong_in_continue is_first has_request dialogue =
    (not is_first && is_some dialogue) || (is_first && has_request && not (is_response dialogue))

-- In an Abort: an AARE, if it is no first answer; or a user's ABRT, if the half's Begin had no AARQ.
abbrev pub is_wrong_in_abort : Bool → Bool → Option Dialogue → Bool
is_wrong_in_abort is_first has_request dialogue =
    (not is_first && is_response dialogue) || (is_user_abort dialogue && not has_request)

-- F9: The dialogue portion of the message does not fit.
abbrev pub is_wrong_dialogue : Side → List Item → List ℕ → Message → HalfMessages → Bool
is_wrong_dialogue side items id (Abort dtid reason) h =
    is_wrong_in_abort (is_first_answer side items id h) (is_request_of h.begin) (dialogue_in (Abort dtid reason))
is_wrong_dialogue side items id m h =
    is_wrong_in_continue (is_first_answer side items id h) (is_request_of h.begin) (dialogue_in m)
