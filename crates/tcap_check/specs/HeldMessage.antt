-- Which message does a `MessageStorage` hold, owned or lent?
use Rattle.tcap_msg.specs.declared.message.Message.{Message}
use Rattle.tcap_check.specs.declared.held_message.MessageStorage.{MessageStorage}
use Rattle.tcap_check.specs.declared.held_message.MessageStorage.TheVariants.{Own, Lent}

-- the message, owned or lent
abbrev pub kept_message : MessageStorage → Message
kept_message (Own message) = message
kept_message (Lent message) = message.now
