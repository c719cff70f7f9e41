-- What the messages since the last quiet mark have to do with the halves of the two ends.
use Rattle.std.specs.Prelude.{◌≡◌, ℕ, ℤ, Bool, true, false, List, ◌∷◌, ◌++◌, drop, slice_get, Contains, Option, Some, None, is_none}
use Rattle.std.specs.List.{AllByRecursion}
use Rattle.tcap_parts.specs.declared.component.Component.{Component}
use Rattle.tcap_parts.specs.declared.component.Component.TheVariants.{Invoke, ReturnResult, ReturnError}
use Rattle.tcap_msg.specs.declared.message.Message.{Message}
use Rattle.tcap_msg.specs.declared.message.Message.TheVariants.{Begin, Continue, End as EndMessage, Abort}
use Rattle.tcap_msg.specs.Parts.{components_in, otid_in, reason_cause}
use Rattle.tcap_record.specs.declared.entry.End.{End as Side}
use Rattle.tcap_end.specs.declared.half.Phase.TheVariants as phases
use Rattle.tcap_end.specs.declared.half.DialogueState.TheVariants as dialogue_states
use Rattle.tcap_end.specs.Half.{Answer, listed}
use Rattle.tcap_end.specs.End.{KeyedHalf}
use Rattle.tcap_end.specs.Dialogue.{is_request}
use Rattle.tcap_end.specs.ReachableEnd.{HasHalf}
use Rattle.tcap_record.specs.Ends.{other}
use Rattle.tcap_model.specs.World.{Item, MessageInTransit, Sent, World, end_at, has_quiet}

-- The end sent the message, and no quiet mark comes after it.
abbrev pub SentSince : Side → Message → List Item → Type 0
SentSince side message items = (front behind : List Item) × (items ≡ front ++ Sent side message ∷ behind)
    × (has_quiet behind ≡ false)

-- ---- channels

-- This end sent a message in transit: the message is in the sent list at its number, and no quiet mark comes after it.
pub record WasSent (w : World) (side : Side) (m : MessageInTransit) : Type 0 where
  pub listed : slice_get w.sent m.number ≡ Some (Sent side m.message)
  pub since : has_quiet (drop m.number w.sent) ≡ false

-- ---- what the halves of an end know

-- If a half knows a peer's ID, the peer sent a Begin or a Continue with this originating ID.
abbrev pub PeerWasSent : World → Side → KeyedHalf → Type 0
PeerWasSent w side f = (id : List ℕ) → f.half.peer ≡ Some id → (m : Message) × SentSince (other side) m w.sent
    × (otid_in m ≡ Some id)

-- whether the message is a Begin with a dialogue request
abbrev pub is_begin_with_request : Message → Bool
is_begin_with_request (Begin otid dialogue components) = is_request dialogue
is_begin_with_request _ = false

-- If a half is in Received and its dialogue is requested, the peer sent a Begin with a dialogue request, whose
-- originating ID is the half's peer ID.
abbrev pub RequestWasSent : World → Side → KeyedHalf → Type 0
RequestWasSent w side f = f.half.phase ≡ phases.Received → f.half.dialogue_state ≡ dialogue_states.Requested
    → (m : Message) × SentSince (other side) m w.sent × (is_begin_with_request m ≡ true) × (otid_in m ≡ f.half.peer)

-- The peer sent this component in a message whose originating ID is the half's peer ID.
abbrev pub PeerSentComponent : World → Side → KeyedHalf → Component → Type 0
PeerSentComponent w side f component =
    (m : Message) × SentSince (other side) m w.sent × (otid_in m ≡ f.half.peer)
    × Contains (components_in m) component

-- The peer sent each invocation that the half lists as received.
abbrev pub InvokesWereSent : World → Side → KeyedHalf → Type 0
InvokesWereSent w side f = (id : ℤ) → AllByRecursion
    (λ item. (linked : Option ℤ) × (parameter : Option (List ℕ))
    × PeerSentComponent w side f (Invoke id linked item.code parameter))
    (listed id f.half.inn)

-- The component is this answer, a Return Result or a Return Error with this invoke ID.
abbrev pub IsAnswer : Answer → ℤ → Component → Type 0
IsAnswer answer id (ReturnResult last other body) = (answer.is_result ≡ true) × (other ≡ id)
IsAnswer answer id (ReturnError other code parameter) = (answer.is_result ≡ false) × (other ≡ id)
IsAnswer answer id _ = ⊥

-- The peer sent each answer that the half lists as received.
abbrev pub AnswersWereSent : World → Side → KeyedHalf → Type 0
AnswersWereSent w side f = (id : ℤ) → AllByRecursion
    (λ answer. (component : Component) × IsAnswer answer id component × PeerSentComponent w side f component)
    (listed id f.half.grants)

-- ---- the messages that an end sent, and its halves

-- The originating ID of a Begin or a Continue is the own ID of a half of its sender. For a Continue, this half's peer
-- ID is the destination ID.
abbrev pub HasUsed : World → Side → Message → Type 0
HasUsed w side (Begin otid dialogue components) = (f : KeyedHalf) × HasHalf (end_at side w) f × (f.half.own ≡ Some otid)
HasUsed w side (Continue otid dtid dialogue components) =
    (f : KeyedHalf) × HasHalf (end_at side w) f × (f.half.own ≡ Some otid) × (f.half.peer ≡ Some dtid)
HasUsed w side _ = Unit {0}

-- the destination ID of an End, or of an Abort without a P-Abort cause
abbrev pub ended_by : Message → Option (List ℕ)
ended_by (EndMessage dtid dialogue components) = Some dtid
ended_by (Abort dtid reason) = by (is_none (reason_cause reason))
  where
    by : Bool → Option (List ℕ)
    by true = Some dtid
    by false = None
ended_by _ = None

-- If the end sent an End, or an Abort without cause, to the half's peer ID, the half is closed.
abbrev pub EndedIsClosed : World → Side → KeyedHalf → Type 0
EndedIsClosed w side f = (m : Message) (id : List ℕ) → SentSince side m w.sent → ended_by m ≡ Some id
    → f.half.peer ≡ Some id
    → f.half.phase ≡ phases.Closed
