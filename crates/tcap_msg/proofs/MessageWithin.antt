-- The place of a fault of a message is among the octets or at their end.
use Rattle.std.proofs.Common.{ℕ, ◌≤◌, List, length, Option, Some, None, inl, inr, arith}
use Rattle.tcap_ber.specs.declared.fault.Reason.{Reason}
use Rattle.tcap_ber.specs.declared.fault.Reason.TheVariants.{UnexpectedTag}
use Rattle.tcap_ber.specs.Grammar.{required, optional, ended, ◌⨾◌, ◌⨾▹◌}
use Rattle.tcap_ber.specs.SmallInteger.{small}
use Rattle.tcap_ber.proofs.OuterLaws.{walk_fault_within}
use Rattle.tcap_ber.proofs.WithinLaws.{BodyWithin, FieldWithin, ContentWithin, required_within, optional_within, absent_within, ended_within, then_by_within, then_within, small_within, others_within, tagged_within, one_of_within}
use Rattle.tcap_parts.specs.declared.dialogue.Dialogue.{Dialogue}
use Rattle.tcap_parts.specs.Component.{portion}
use Rattle.tcap_parts.specs.Dialogue.{dialogue}
use Rattle.tcap_parts.proofs.ComponentWithin.{portion_within}
use Rattle.tcap_parts.proofs.DialogueWithin.{dialogue_within}
use Rattle.tcap_msg.specs.TransactionId.{transaction_id}
use Rattle.tcap_msg.specs.Message.{unidirectional, begin, end_message, continue_message, unless_cause, abort, messages, message, whole, IsFaulty}

-- ---- parts

id_within : BodyWithin transaction_id
id_within at s reason place before h = omega (arith, h.2, before)

dialogue_portion_within : FieldWithin (optional 0x6B dialogue)
dialogue_portion_within = optional_within 0x6B dialogue dialogue_within

-- a dialogue portion and a component portion, which are the rest of the structure
portions_within : ContentWithin (optional 0x6B dialogue ⨾ optional 0x6C portion ⨾ ended)
portions_within =
    then_within (optional 0x6B dialogue) (optional 0x6C portion ⨾ ended) dialogue_portion_within
    (then_within (optional 0x6C portion) ended (optional_within 0x6C portion portion_within) ended_within)

unless_cause_within : (cause : Option ℕ) → FieldWithin (unless_cause cause)
unless_cause_within None = dialogue_portion_within
unless_cause_within (Some cause) = absent_within Dialogue

-- ---- messages

unidirectional_within : BodyWithin unidirectional
unidirectional_within at s reason place before h =
    then_within (optional 0x6B dialogue) (required 0x6C portion ⨾ ended) dialogue_portion_within
    (then_within (required 0x6C portion) ended (required_within 0x6C portion portion_within) ended_within) s reason place h

begin_within : BodyWithin begin
begin_within at s reason place before h =
    then_within (required 0x48 transaction_id) (optional 0x6B dialogue ⨾ optional 0x6C portion ⨾ ended) (required_within 0x48 transaction_id id_within)
    portions_within s reason place h

end_within : BodyWithin end_message
end_within at s reason place before h =
    then_within (required 0x49 transaction_id) (optional 0x6B dialogue ⨾ optional 0x6C portion ⨾ ended) (required_within 0x49 transaction_id id_within)
    portions_within s reason place h

continue_within : BodyWithin continue_message
continue_within at s reason place before h =
    then_within (required 0x48 transaction_id) (required 0x49 transaction_id ⨾ optional 0x6B dialogue ⨾ optional 0x6C portion ⨾ ended)
    (required_within 0x48 transaction_id id_within)
    (then_within (required 0x49 transaction_id) (optional 0x6B dialogue ⨾ optional 0x6C portion ⨾ ended) (required_within 0x49 transaction_id id_within) portions_within)
    s reason place h

abort_within : BodyWithin abort
abort_within at s reason place before h =
    then_within (required 0x49 transaction_id) (optional 0x4A small ⨾▹ λ cause. unless_cause cause ⨾ ended) (required_within 0x49 transaction_id id_within)
    (then_by_within (optional 0x4A small) (λ cause. unless_cause cause ⨾ ended) (optional_within 0x4A small small_within)
    (λ cause. then_within (unless_cause cause) ended (unless_cause_within cause) ended_within))
    s reason place h

message_within : FieldWithin message
message_within =
    one_of_within messages
    (tagged_within 0x61 _ _ unidirectional_within
    (tagged_within 0x62 _ _ begin_within
    (tagged_within 0x64 _ _ end_within
    (tagged_within 0x65 _ _ continue_within
    (tagged_within 0x67 _ _ abort_within (others_within _ UnexpectedTag))))))

pub faulty_within : (octets : List ℕ) (reason : Reason) (place : ℕ) → IsFaulty octets reason place → place ≤ length octets
faulty_within octets reason place (inl h) = omega (arith, h.1)
faulty_within octets reason place (inr (inl h)) = omega (arith, walk_fault_within octets reason place h)
faulty_within octets reason place (inr (inr h)) = omega (arith, message_within (whole octets) reason place (inr (inr h)))
