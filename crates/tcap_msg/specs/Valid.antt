-- Which values of the types are valid?
use Rattle.std.specs.Prelude.{◌<◌, List, Option, Some, None}
use Rattle.tcap_parts.specs.declared.component.Component.{Component}
use Rattle.tcap_parts.specs.declared.dialogue.Dialogue.{Dialogue}
use Rattle.tcap_parts.specs.Valid.{IsPortion}
use Rattle.tcap_parts.specs.DialogueValid.{IsDialogue}
use Rattle.tcap_msg.specs.declared.message.AbortReason.{AbortReason}
use Rattle.tcap_msg.specs.declared.message.AbortReason.TheVariants as reasons
use Rattle.tcap_msg.specs.declared.message.Message.{Message}
use Rattle.tcap_msg.specs.declared.message.Message.TheVariants.{Unidirectional, Begin, Continue, End, Abort}
use Rattle.tcap_msg.specs.TransactionId.{IsTransactionId}

-- a dialogue portion, if there is one, is a valid PDU
abbrev pub IsDialoguePortion : Option Dialogue → Type 0
IsDialoguePortion None = Unit {0}
IsDialoguePortion (Some dialogue) = IsDialogue dialogue

-- a component portion, if there is one, is valid components, at least one
abbrev pub IsComponentPortion : Option (List Component) → Type 0
IsComponentPortion None = Unit {0}
IsComponentPortion (Some components) = IsPortion components

-- the reason of an Abort, if there is one, is a number from 0 to 127 or a valid PDU
abbrev pub IsAbortReason : Option AbortReason → Type 0
IsAbortReason None = Unit {0}
IsAbortReason (Some (reasons.Cause cause)) = cause < 128
IsAbortReason (Some (reasons.Dialogue dialogue)) = IsDialogue dialogue

-- each part of the message is valid
abbrev pub IsMessage : Message → Type 0
IsMessage (Unidirectional dialogue components) = IsDialoguePortion dialogue × IsPortion components
IsMessage (Begin otid dialogue components) = IsTransactionId otid × IsDialoguePortion dialogue
    × IsComponentPortion components
IsMessage (Continue otid dtid dialogue components) =
    IsTransactionId otid × IsTransactionId dtid × IsDialoguePortion dialogue × IsComponentPortion components
IsMessage (End dtid dialogue components) = IsTransactionId dtid × IsDialoguePortion dialogue
    × IsComponentPortion components
IsMessage (Abort dtid reason) = IsTransactionId dtid × IsAbortReason reason
