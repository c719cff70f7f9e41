-- Which spelling of a message does the encoder write? The one with shortest definite lengths, the protocol version 80
-- 02 07 80, and parameters and user information verbatim.
use Rattle.std.specs.Prelude.{ℕ, List, [], ◌∷◌, Option, Some, None}
use Rattle.tcap_ber.specs.Canonical.{◌⧺◌, element_around}
use Rattle.tcap_parts.specs.declared.component.Component.{Component}
use Rattle.tcap_parts.specs.declared.dialogue.Dialogue.{Dialogue}
use Rattle.tcap_parts.specs.Canonical.{canonical_portion}
use Rattle.tcap_parts.specs.DialogueCanonical.{canonical_dialogue}
use Rattle.tcap_msg.specs.declared.kind.Kind.{Kind}
use Rattle.tcap_msg.specs.declared.kind.Kind.TheVariants.{Unidirectional, Begin, Continue, End, Abort}
use Rattle.tcap_msg.specs.declared.message.Message.{Message}
use Rattle.tcap_msg.specs.Parts.{kind_in, otid_in, dtid_in, cause_in, dialogue_in, portion_in}

-- the tag of each kind of message (Q.773 4.2.1)
abbrev pub message_tag : Kind → ℕ
message_tag Unidirectional = 0x61
message_tag Begin = 0x62
message_tag End = 0x64
message_tag Continue = 0x65
message_tag Abort = 0x67

-- a transaction ID, or nothing if the message has none
abbrev pub canonical_id : ℕ → Option (List ℕ) → Option (List ℕ)
canonical_id tag None = Some []
canonical_id tag (Some id) = element_around tag (Some id)

-- a P-Abort cause, or nothing if the message has none
abbrev pub canonical_cause : Option ℕ → Option (List ℕ)
canonical_cause None = Some []
canonical_cause (Some cause) = element_around 0x4A (Some (cause ∷ []))

-- a dialogue portion, or nothing if the message has none
abbrev pub canonical_dialogue_portion : Option Dialogue → Option (List ℕ)
canonical_dialogue_portion None = Some []
canonical_dialogue_portion (Some dialogue) = element_around 0x6B (canonical_dialogue dialogue)

-- a component portion, or nothing if the message has none
abbrev pub canonical_component_portion : Option (List Component) → Option (List ℕ)
canonical_component_portion None = Some []
canonical_component_portion (Some components) = element_around 0x6C (canonical_portion components)

-- OTID, DTID, P-Abort cause, dialogue portion and component portion, in this order (Q.773 4.2.1)
abbrev pub canonical_content : Message → Option (List ℕ)
canonical_content m =
    canonical_id 0x48 (otid_in m) ⧺ canonical_id 0x49 (dtid_in m) ⧺ canonical_cause (cause_in m)
    ⧺ canonical_dialogue_portion (dialogue_in m) ⧺ canonical_component_portion (portion_in m)

-- the message; None if a content is over the limit
abbrev pub canonical : Message → Option (List ℕ)
canonical m = element_around (message_tag (kind_in m)) (canonical_content m)
