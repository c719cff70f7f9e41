-- What does reading a message from left to right return, up to the first fault?
use Rattle.std.specs.Prelude.{ℕ, List, length, Option, Some, None, Result, Ok, Err}
use Rattle.tcap_ber.specs.declared.fault.Fault.{Fault}
use Rattle.tcap_ber.specs.declared.fault.Reason.TheVariants.{Cut, UnexpectedTag}
use Rattle.tcap_ber.specs.declared.element.Outer.{Outer}
use Rattle.tcap_ber.specs.declared.element.Outer.TheVariants.{Whole, Need}
use Rattle.tcap_ber.specs.Span.{Span}
use Rattle.tcap_ber.specs.Reading.{◌>>=◌, fault, Element, outer_at, required_at, optional_at, absent_at, small_at, end_at, with_body, one_of_at, tagged_at, refused_at}
use Rattle.tcap_parts.specs.declared.component.Component.{Component}
use Rattle.tcap_parts.specs.declared.dialogue.Dialogue.{Dialogue}
use Rattle.tcap_parts.specs.Reading.{portion_at}
use Rattle.tcap_parts.specs.DialogueReading.{dialogue_at}
use Rattle.tcap_msg.specs.TransactionId.{transaction_id_of}
use Rattle.tcap_msg.specs.declared.message.Message.{Message}
use Rattle.tcap_msg.specs.declared.message.Message.TheVariants.{Unidirectional, Begin, Continue, End, Abort}
use Rattle.tcap_msg.specs.Message.{make_reason, whole}

unfoldable pub otid_at : Span → Result (List ℕ × Span) Fault
otid_at s = required_at 0x48 s >>= with_body transaction_id_of

unfoldable pub dtid_at : Span → Result (List ℕ × Span) Fault
dtid_at s = required_at 0x49 s >>= with_body transaction_id_of

unfoldable pub cause_at : Span → Result (Option ℕ × Span) Fault
cause_at s = optional_at 0x4A small_at s

unfoldable pub dialogue_portion_at : Span → Result (Option Dialogue × Span) Fault
dialogue_portion_at s = optional_at 0x6B (λ e. dialogue_at e.content) s

-- the dialogue portion of an Abort, which is absent if there is a P-Abort cause
unfoldable pub unless_cause_at : Option ℕ → Span → Result (Option Dialogue × Span) Fault
unless_cause_at None s = dialogue_portion_at s
unless_cause_at (Some cause) s = absent_at s

unfoldable pub required_portion_at : Span → Result (List Component × Span) Fault
required_portion_at s = required_at 0x6C s >>= with_body portion_at

unfoldable pub component_portion_at : Span → Result (Option (List Component) × Span) Fault
component_portion_at s = optional_at 0x6C portion_at s

unfoldable pub unidirectional_at : Span → Result Message Fault
unidirectional_at s = do
  dialogue ← dialogue_portion_at s
  components ← required_portion_at dialogue.1
  end_at (Unidirectional dialogue.0 components.0) components.1

unfoldable pub begin_at : Span → Result Message Fault
begin_at s = do
  otid ← otid_at s
  dialogue ← dialogue_portion_at otid.1
  components ← component_portion_at dialogue.1
  end_at (Begin otid.0 dialogue.0 components.0) components.1

unfoldable pub end_message_at : Span → Result Message Fault
end_message_at s = do
  dtid ← dtid_at s
  dialogue ← dialogue_portion_at dtid.1
  components ← component_portion_at dialogue.1
  end_at (End dtid.0 dialogue.0 components.0) components.1

unfoldable pub continue_at : Span → Result Message Fault
continue_at s = do
  otid ← otid_at s
  dtid ← dtid_at otid.1
  dialogue ← dialogue_portion_at dtid.1
  components ← component_portion_at dialogue.1
  end_at (Continue otid.0 dtid.0 dialogue.0 components.0) components.1

unfoldable pub abort_at : Span → Result Message Fault
abort_at s = do
  dtid ← dtid_at s
  cause ← cause_at dtid.1
  dialogue ← unless_cause_at cause.0 cause.1
  end_at (Abort dtid.0 (make_reason cause.0 dialogue.0)) dialogue.1

-- the element as a message, by its tag
abbrev pub message_of_element : Element → Result Message Fault
message_of_element =
    tagged_at 0x61 (λ e. unidirectional_at e.content)
    (tagged_at 0x62 (λ e. begin_at e.content)
    (tagged_at 0x64 (λ e. end_message_at e.content)
    (tagged_at 0x65 (λ e. continue_at e.content)
    (tagged_at 0x67 (λ e. abort_at e.content)
    (refused_at UnexpectedTag)))))

-- the message at the front of a window
unfoldable pub message_in : Span → Result (Message × Span) Fault
message_in s = one_of_at message_of_element s

-- the message, and its length in octets
abbrev pub with_len : ℕ → Message × Span → Result (Message × ℕ) Fault
with_len n found = Ok (found.0, n)

-- the message in the octets, or Cut if their outer element is incomplete
abbrev pub in_outer : List ℕ → Outer → Result (Message × ℕ) Fault
in_outer octets (Need n) = Err (fault Cut (length octets))
in_outer octets (Whole n) = message_in (whole octets) >>= with_len n

-- the message at the front, and its length in octets
unfoldable pub message_at : List ℕ → Result (Message × ℕ) Fault
message_at octets = outer_at octets >>= in_outer octets
