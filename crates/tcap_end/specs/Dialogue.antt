-- Which dialogue portions a message may carry (Q.774 3.2, dialogues).
use Rattle.std.specs.Prelude.{Bool, true, false, Option, Some, is_none, ◌==◌, ◌&&◌, ◌||◌, cond, nat_lt}
use Rattle.tcap_parts.specs.declared.dialogue.Dialogue.{Dialogue}
use Rattle.tcap_parts.specs.declared.dialogue.Dialogue.TheVariants.{Request, Response, Abort, Uni}
use Rattle.tcap_parts.specs.declared.dialogue.Source.TheVariants.{User, Provider}
use Rattle.tcap_end.specs.declared.half.Phase.{Phase}
use Rattle.tcap_end.specs.declared.half.Phase.TheVariants as phases
use Rattle.tcap_end.specs.declared.half.DialogueState.{DialogueState}
use Rattle.tcap_end.specs.declared.half.DialogueState.TheVariants as dialogue_states

-- whether the portion is a dialogue request, AARQ
abbrev pub is_request : Option Dialogue → Bool
is_request (Some (Request context info)) = true
is_request _ = false

-- whether the portion is a dialogue response, AARE
abbrev pub is_response : Option Dialogue → Bool
is_response (Some (Response context result diagnostic info)) = true
is_response _ = false

-- whether the portion is an AARE that accepts the dialogue: result 0, accepted, and diagnostic 0 from either source
abbrev pub accepts_dialogue : Option Dialogue → Bool
accepts_dialogue (Some (Response context result (User n) info)) = (result == 0) && (n == 0)
accepts_dialogue (Some (Response context result (Provider n) info)) = (result == 0) && (n == 0)
accepts_dialogue _ = false

-- whether the portion is an AARE that refuses the dialogue: result 1, reject-permanent, and a user diagnostic from 0
-- to 2
abbrev pub refuses_dialogue : Option Dialogue → Bool
refuses_dialogue (Some (Response context result (User n) info)) = (result == 1) && nat_lt n 3
refuses_dialogue _ = false

-- whether the portion is a dialogue abort, ABRT, by the user: source 0
abbrev pub is_user_abort : Option Dialogue → Bool
is_user_abort (Some (Abort source info)) = source == 0
is_user_abort _ = false

-- whether the portion is that of a Unidirectional, AUDT
abbrev pub is_uni : Option Dialogue → Bool
is_uni (Some (Uni context info)) = true
is_uni _ = false

-- the dialogue state after a Begin with this portion
abbrev pub first_dialogue_state : Option Dialogue → DialogueState
first_dialogue_state dialogue = cond (is_request dialogue) dialogue_states.Requested dialogue_states.Without

-- the dialogue state after the Continue that answers the Begin
abbrev pub confirm : DialogueState → DialogueState
confirm dialogue_states.Requested = dialogue_states.Confirmed
confirm dialogue_state = dialogue_state

-- whether a Begin may carry this portion
abbrev pub may_begin : Option Dialogue → Bool
may_begin dialogue = is_none dialogue || is_request dialogue

-- whether a Unidirectional may carry this portion
abbrev pub may_be_uni : Option Dialogue → Bool
may_be_uni dialogue = is_none dialogue || is_uni dialogue

-- whether a Continue or an End may carry this portion, sent by a half in this phase and dialogue state
abbrev pub may_go_on : Phase → DialogueState → Option Dialogue → Bool
may_go_on phases.Received dialogue_states.Requested dialogue = accepts_dialogue dialogue
may_go_on phase dialogue_state dialogue = is_none dialogue

-- whether an Abort without a cause may carry this portion, sent by a half in this phase and dialogue state
abbrev pub may_abort : Phase → DialogueState → Option Dialogue → Bool
may_abort phases.Received dialogue_states.Requested dialogue = is_none dialogue || refuses_dialogue dialogue
    || is_user_abort dialogue
may_abort phase dialogue_states.Confirmed dialogue = is_none dialogue || is_user_abort dialogue
may_abort phase dialogue_state dialogue = is_none dialogue

-- whether a half that sent a Begin can receive a Continue with this portion: after a request, the Continue must carry
-- a response of any content. The abnormal procedures for a missing response are left out.
abbrev pub answers_request : DialogueState → Option Dialogue → Bool
answers_request dialogue_states.Requested dialogue = is_response dialogue
answers_request _ dialogue = true
