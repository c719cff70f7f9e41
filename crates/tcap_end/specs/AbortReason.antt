-- Which reason an Abort with a dialogue portion has.
use Rattle.std.specs.Prelude.{Option, Some, None}
use Rattle.tcap_parts.specs.declared.dialogue.Dialogue.{Dialogue}
use Rattle.tcap_msg.specs.declared.message.AbortReason.{AbortReason}
use Rattle.tcap_msg.specs.declared.message.AbortReason.TheVariants.{Dialogue as ByDialogue}

-- the reason of an Abort without a cause: its dialogue portion, if it has one
abbrev pub reason_of_dialogue : Option Dialogue → Option AbortReason
reason_of_dialogue None = None
reason_of_dialogue (Some dialogue) = Some (ByDialogue dialogue)
