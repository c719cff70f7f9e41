-- Which octets spell a message (Q.773 4.2.1), and which faults have octets that begin with none?
use Rattle.std.specs.Prelude.{◌≡◌, ℕ, ◌⊎◌, List, [], ◌++◌, length, Option, Some, None}
use Rattle.tcap_ber.specs.declared.fault.Reason.{Reason}
use Rattle.tcap_ber.specs.declared.fault.Reason.TheVariants.{Cut, UnexpectedTag}
use Rattle.tcap_ber.specs.Span.{Span}
use Rattle.tcap_ber.specs.WalkPlaces.{IsWalkFault, IsUnfinished}
use Rattle.tcap_ber.specs.Grammar.{Body, Field, required, optional, absent, ended, ◌⨾◌, ◌⨾▹◌, structure, made}
use Rattle.tcap_ber.specs.Choice.{Choice, ◌▹◌, ◌∣◌, others_are, IsFaultyChoice, one_of}
use Rattle.tcap_ber.specs.SmallInteger.{small}
use Rattle.tcap_parts.specs.declared.component.Component.{Component}
use Rattle.tcap_parts.specs.declared.dialogue.Dialogue.{Dialogue}
use Rattle.tcap_parts.specs.Component.{portion}
use Rattle.tcap_parts.specs.Dialogue.{dialogue}
use Rattle.tcap_msg.specs.TransactionId.{transaction_id}
use Rattle.tcap_msg.specs.declared.message.AbortReason.{AbortReason}
use Rattle.tcap_msg.specs.declared.message.AbortReason.TheVariants as reasons
use Rattle.tcap_msg.specs.declared.message.Message.{Message}
use Rattle.tcap_msg.specs.declared.message.Message.TheVariants.{Unidirectional, Begin, Continue, End, Abort}

abbrev pub make_unidirectional : Option Dialogue × (List Component × Unit {0}) → Message
make_unidirectional parts = Unidirectional parts.0 parts.1.0

-- Unidirectional: [dialogue portion 6B], component portion 6C
abbrev pub unidirectional : Body Message
unidirectional = made make_unidirectional (structure (optional 0x6B dialogue ⨾ required 0x6C portion ⨾ ended))

abbrev pub make_begin : List ℕ × (Option Dialogue × (Option (List Component) × Unit {0})) → Message
make_begin parts = Begin parts.0 parts.1.0 parts.1.1.0

-- Begin: OTID 48, [dialogue portion 6B], [component portion 6C]
abbrev pub begin : Body Message
begin = made make_begin (structure (required 0x48 transaction_id ⨾ optional 0x6B dialogue ⨾ optional 0x6C portion
    ⨾ ended))

abbrev pub make_end : List ℕ × (Option Dialogue × (Option (List Component) × Unit {0})) → Message
make_end parts = End parts.0 parts.1.0 parts.1.1.0

-- End: DTID 49, [dialogue portion 6B], [component portion 6C]
abbrev pub end_message : Body Message
end_message = made make_end (structure (required 0x49 transaction_id ⨾ optional 0x6B dialogue ⨾ optional 0x6C portion
    ⨾ ended))

abbrev pub make_continue : List ℕ × (List ℕ × (Option Dialogue × (Option (List Component) × Unit {0}))) → Message
make_continue parts = Continue parts.0 parts.1.0 parts.1.1.0 parts.1.1.1.0

-- Continue: OTID 48, DTID 49, [dialogue portion 6B], [component portion 6C]
abbrev pub continue_message : Body Message
continue_message =
    made make_continue (structure (
    required 0x48 transaction_id ⨾ required 0x49 transaction_id ⨾ optional 0x6B dialogue ⨾ optional 0x6C portion ⨾ ended
    ))

-- the dialogue portion of an Abort, which is absent if there is a P-Abort cause
abbrev pub unless_cause : Option ℕ → Field (Option Dialogue)
unless_cause None = optional 0x6B dialogue
unless_cause (Some cause) = absent

-- the reason of an Abort: its P-Abort cause, or its dialogue portion
abbrev pub make_reason : Option ℕ → Option Dialogue → Option AbortReason
make_reason (Some cause) pdu = Some (reasons.Cause cause)
make_reason None (Some pdu) = Some (reasons.Dialogue pdu)
make_reason None None = None

abbrev pub make_abort : List ℕ × (Option ℕ × (Option Dialogue × Unit {0})) → Message
make_abort parts = Abort parts.0 (make_reason parts.1.0 parts.1.1.0)

-- Abort: DTID 49, [P-Abort cause 4A, or dialogue portion 6B]
abbrev pub abort : Body Message
abort = made make_abort (structure (required 0x49 transaction_id ⨾ optional 0x4A small ⨾▹ λ cause. unless_cause cause
    ⨾ ended))

-- the messages, by their tags
abbrev pub messages : Choice Message
messages =
    0x61 ▹ unidirectional
    ∣ 0x62 ▹ begin
    ∣ 0x64 ▹ end_message
    ∣ 0x65 ▹ continue_message
    ∣ 0x67 ▹ abort
    ∣ others_are UnexpectedTag

-- a message
abbrev pub message : Field Message
message = one_of messages

-- the octets spell the message
abbrev pub Spells : Message → List ℕ → Type 0
Spells m octets = message.spells m octets []

-- the octets as a window at place 0
abbrev pub whole : List ℕ → Span
whole octets = record { octets = octets; place = 0 }

-- The faults of octets that are to begin with a message. The octets end before their outer element does (Cut). Or a
-- walk over that element meets a fault. Or the element is no message, or a part of it is faulty.
abbrev pub IsFaulty : List ℕ → Reason → ℕ → Type 0
IsFaulty octets reason place =
    ((reason ≡ Cut) × (place ≡ length octets) × IsUnfinished octets)
    ⊎ IsWalkFault octets reason place
    ⊎ IsFaultyChoice messages (whole octets) reason place

-- the octets begin with a message of `len` octets
pub record BeginsWithMessage (m : Message) (len : ℕ) (octets : List ℕ) : Type 0 where
  pub front : List ℕ
  pub rest : List ℕ
  pub joined : octets ≡ front ++ rest
  pub len_is : len ≡ length front
  pub spelled : Spells m front

-- no front of the octets spells a message
abbrev pub BeginsNoMessage : List ℕ → Type 0
BeginsNoMessage octets = (m : Message) (front rest : List ℕ) → Spells m front → octets ≡ front ++ rest → ⊥

-- No message begins the octets, any octets that they begin, or any front of them.
pub record IsNeverMessage (octets : List ℕ) : Type 0 where
  pub going_on : (more : List ℕ) → BeginsNoMessage (octets ++ more)
  pub cut_off : (front rest : List ℕ) → octets ≡ front ++ rest → BeginsNoMessage front
