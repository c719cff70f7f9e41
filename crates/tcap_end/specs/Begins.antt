-- What a Begin does to the end that sends it, as a half of slot Begun, or that receives it, as one of slot Accepted.
use Rattle.std.specs.Prelude.{ℕ, Bool, true, List, Option, Some, None, Result}
use Rattle.tcap_parts.specs.declared.component.Component.{Component}
use Rattle.tcap_parts.specs.declared.dialogue.Dialogue.{Dialogue}
use Rattle.tcap_end.specs.declared.fault.EndFault.{EndFault}
use Rattle.tcap_end.specs.declared.half.Phase.TheVariants as phases
use Rattle.tcap_end.specs.declared.half.Slot.{Slot}
use Rattle.tcap_end.specs.declared.half.Slot.TheVariants.{Begun, Accepted}
use Rattle.tcap_end.specs.declared.half.DialogueState.{DialogueState}
use Rattle.tcap_end.specs.Table.{Table}
use Rattle.tcap_end.specs.Half.{Half, fresh}
use Rattle.tcap_end.specs.End.{End}
use Rattle.tcap_end.specs.Dialogue.{may_begin}
use Rattle.tcap_end.specs.Message.{receive_begin, send_begin}

-- an end sends or receives a Begin
abbrev pub begin : Slot → Table → End → List ℕ → Option Dialogue → List Component → Result End EndFault
begin Begun = send_begin
begin Accepted = receive_begin

-- whether the Begin may carry this portion
abbrev pub may_begin_in : Slot → Option Dialogue → Bool
may_begin_in Begun dialogue = may_begin dialogue
may_begin_in Accepted dialogue = true

-- the half before the components of the Begin
abbrev pub fresh_in : Slot → List ℕ → DialogueState → Half
fresh_in Begun id dialogue_state = fresh phases.Sent (Some id) None dialogue_state
fresh_in Accepted id dialogue_state = fresh phases.Received None (Some id) dialogue_state
