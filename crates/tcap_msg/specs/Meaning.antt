-- Which values do views of messages hold?
use Rattle.std.specs.Prelude.{ℕ, List, Option}
use Rattle.std.specs.Option.{option_map}
use Rattle.tcap_ber.specs.declared.small_numbers.SmallView.{SmallView}
use Rattle.tcap_parts.specs.Meaning.{components_of}
use Rattle.tcap_parts.specs.DialogueMeaning.{dialogue_of}
use Rattle.tcap_msg.specs.declared.transaction_id.TransactionIdView.{TransactionIdView}
use Rattle.tcap_msg.specs.declared.message.AbortReason.{AbortReason}
use Rattle.tcap_msg.specs.declared.message.AbortReason.TheVariants as owned_reasons
use Rattle.tcap_msg.specs.declared.message.Message.{Message}
use Rattle.tcap_msg.specs.declared.message.Message.TheVariants as owned
use Rattle.tcap_msg.specs.declared.views.AbortReasonView.{AbortReasonView}
use Rattle.tcap_msg.specs.declared.views.AbortReasonView.TheVariants as reasons
use Rattle.tcap_msg.specs.declared.views.MessageView.{MessageView}
use Rattle.tcap_msg.specs.declared.views.MessageView.TheVariants as views

-- the transaction ID of a view, if there is one
abbrev pub id_of : Option TransactionIdView → Option (List ℕ)
id_of id = option_map (λ view. view.octets.now) id

-- the P-Abort cause of a view, if there is one
abbrev pub cause_of : Option SmallView → Option ℕ
cause_of number = option_map (λ view. view.number) number

-- the reason of an Abort in a view
abbrev pub reason_of : AbortReasonView → AbortReason
reason_of (reasons.Cause cause) = owned_reasons.Cause cause.number
reason_of (reasons.Dialogue dialogue) = owned_reasons.Dialogue (dialogue_of dialogue)

-- the message of a view
abbrev pub message_of : MessageView → Message
message_of (views.Unidirectional dialogue components) = owned.Unidirectional (option_map dialogue_of dialogue)
    (components_of components)
message_of (views.Begin otid dialogue components) = owned.Begin otid.octets.now (option_map dialogue_of dialogue)
    (option_map components_of components)
message_of (views.Continue otid dtid dialogue components) =
    owned.Continue otid.octets.now dtid.octets.now (option_map dialogue_of dialogue)
    (option_map components_of components)
message_of (views.End dtid dialogue components) = owned.End dtid.octets.now (option_map dialogue_of dialogue)
    (option_map components_of components)
message_of (views.Abort dtid reason) = owned.Abort dtid.octets.now (option_map reason_of reason)
