-- Which parts does a message have (Q.773 4.2.1)?
use Rattle.std.specs.Prelude.{ℕ, List, [], Option, Some, None}
use Rattle.tcap_parts.specs.declared.component.Component.{Component}
use Rattle.tcap_parts.specs.declared.dialogue.Dialogue.{Dialogue}
use Rattle.tcap_msg.specs.declared.kind.Kind.{Kind}
use Rattle.tcap_msg.specs.declared.kind.Kind.TheVariants as kinds
use Rattle.tcap_msg.specs.declared.message.AbortReason.{AbortReason}
use Rattle.tcap_msg.specs.declared.message.AbortReason.TheVariants as reasons
use Rattle.tcap_msg.specs.declared.message.Message.{Message}
use Rattle.tcap_msg.specs.declared.message.Message.TheVariants.{Unidirectional, Begin, Continue, End, Abort}

-- the kind of a message
abbrev pub kind_in : Message → Kind
kind_in (Unidirectional dialogue components) = kinds.Unidirectional
kind_in (Begin otid dialogue components) = kinds.Begin
kind_in (Continue otid dtid dialogue components) = kinds.Continue
kind_in (End dtid dialogue components) = kinds.End
kind_in (Abort dtid reason) = kinds.Abort

-- the originating transaction ID
abbrev pub otid_in : Message → Option (List ℕ)
otid_in (Unidirectional dialogue components) = None
otid_in (Begin otid dialogue components) = Some otid
otid_in (Continue otid dtid dialogue components) = Some otid
otid_in (End dtid dialogue components) = None
otid_in (Abort dtid reason) = None

-- the destination transaction ID
abbrev pub dtid_in : Message → Option (List ℕ)
dtid_in (Unidirectional dialogue components) = None
dtid_in (Begin otid dialogue components) = None
dtid_in (Continue otid dtid dialogue components) = Some dtid
dtid_in (End dtid dialogue components) = Some dtid
dtid_in (Abort dtid reason) = Some dtid

abbrev pub reason_cause : Option AbortReason → Option ℕ
reason_cause None = None
reason_cause (Some (reasons.Cause cause)) = Some cause
reason_cause (Some (reasons.Dialogue dialogue)) = None

-- the P-Abort cause
abbrev pub cause_in : Message → Option ℕ
cause_in (Unidirectional dialogue components) = None
cause_in (Begin otid dialogue components) = None
cause_in (Continue otid dtid dialogue components) = None
cause_in (End dtid dialogue components) = None
cause_in (Abort dtid reason) = reason_cause reason

abbrev pub reason_dialogue : Option AbortReason → Option Dialogue
reason_dialogue None = None
reason_dialogue (Some (reasons.Cause cause)) = None
reason_dialogue (Some (reasons.Dialogue dialogue)) = Some dialogue

-- the PDU of the dialogue portion
abbrev pub dialogue_in : Message → Option Dialogue
dialogue_in (Unidirectional dialogue components) = dialogue
dialogue_in (Begin otid dialogue components) = dialogue
dialogue_in (Continue otid dtid dialogue components) = dialogue
dialogue_in (End dtid dialogue components) = dialogue
dialogue_in (Abort dtid reason) = reason_dialogue reason

-- the components of the component portion
abbrev pub portion_in : Message → Option (List Component)
portion_in (Unidirectional dialogue components) = Some components
portion_in (Begin otid dialogue components) = components
portion_in (Continue otid dtid dialogue components) = components
portion_in (End dtid dialogue components) = components
portion_in (Abort dtid reason) = None

abbrev pub items_of : Option (List Component) → List Component
items_of None = []
items_of (Some components) = components

-- the components, none if there is no component portion
abbrev pub components_in : Message → List Component
components_in m = items_of (portion_in m)
