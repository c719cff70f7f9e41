-- How a message changes the end that sends or receives it (Q.774 3.2, component sub-layer; 3.3, transaction
-- sub-layer). The result is the end after it, or the first reason why it is refused. The half is checked first, then
-- the dialogue portion, then the components one by one. For a Continue whose originating ID is a half's own, the phase
-- is checked before the peer's ID.
use Rattle.std.specs.Prelude.{ℕ, ℤ, Bool, true, false, List, [], ◌∷◌, Option, Some, None, Result, Ok, Err, is_some, is_none, ok_or, not, cond}
use Rattle.std.specs.List.{list_any}
use Rattle.std.specs.Ordering.{int_cmp, is_eq}
use Rattle.tcap_parts.specs.declared.component.Component.{Component}
use Rattle.tcap_parts.specs.declared.component.Component.TheVariants.{Invoke}
use Rattle.tcap_parts.specs.declared.dialogue.Dialogue.{Dialogue}
use Rattle.tcap_msg.specs.declared.message.AbortReason.{AbortReason}
use Rattle.tcap_msg.specs.declared.message.Message.{Message}
use Rattle.tcap_msg.specs.declared.message.Message.TheVariants.{Unidirectional, Begin, Continue, End as EndMessage, Abort}
use Rattle.tcap_msg.specs.Parts.{items_of, reason_dialogue, reason_cause}
use Rattle.tcap_end.specs.declared.fault.EndFault.{EndFault}
use Rattle.tcap_end.specs.declared.fault.EndFault.TheVariants as faults
use Rattle.tcap_end.specs.declared.half.Phase.{Phase}
use Rattle.tcap_end.specs.declared.half.Phase.TheVariants as phases
use Rattle.tcap_end.specs.declared.half.Slot.{Slot}
use Rattle.tcap_end.specs.declared.half.Slot.TheVariants.{Begun, Accepted}
use Rattle.tcap_end.specs.Step.{needs, ◌>>◌, ◌>>=◌}
use Rattle.tcap_end.specs.Class.{reports_neither}
use Rattle.tcap_end.specs.Table.{Table, class_of}
use Rattle.tcap_end.specs.Half.{Half, fresh, closed_half, is_closed}
use Rattle.tcap_end.specs.Component.{send_component, receive_component}
use Rattle.tcap_end.specs.Dialogue.{answers_request, confirm, first_dialogue_state, may_abort, may_be_uni, may_begin, may_go_on}
use Rattle.tcap_end.specs.End.{End, KeyedHalf, is_id, with_own, with_peer, put}

-- ---- components, one after the other (Q.774 3.2)

-- A half sends components, one by one.
abbrev pub send_components : Table → Half → List Component → Result Half EndFault
send_components table h [] = Ok h
send_components table h (component ∷ more) = do
  next ← send_component table h component
  send_components table next more

-- A half receives components, one by one.
abbrev pub receive_components : Table → Half → List Component → Half
receive_components table h [] = h
receive_components table h (component ∷ more) = receive_components table (receive_component table h component) more

-- whether an invoke ID is in a list
abbrev pub has_id : ℤ → List ℤ → Bool
has_id id ids = list_any (λ other. is_eq (int_cmp id other)) ids

-- A Unidirectional carries only Invokes without linked IDs, of operations of class 4, each with a new invoke ID (Q.774
-- 3.2; Q.771, class 4). `ids` are the IDs of the Invokes before.
abbrev pub send_uni_components : Table → List ℤ → List Component → Result (Unit {0}) EndFault
send_uni_components table ids [] = Ok tt
send_uni_components table ids (Invoke id linked code parameter ∷ more) = do
  class ← ok_or (class_of table code) faults.UnknownOperation
  needs (reports_neither class) faults.UniNotClass4
  needs (not (has_id id ids)) faults.InvokeIdBusy
  needs (is_none linked) faults.BadLink
  send_uni_components table (id ∷ ids) more
send_uni_components table ids (_ ∷ more) = Err faults.NothingToAnswer

-- ---- halves

-- whether a phase is Active
abbrev pub is_active : Phase → Bool
is_active phases.Active = true
is_active _ = false

-- whether a phase is Received
abbrev pub is_received : Phase → Bool
is_received phases.Received = true
is_received _ = false

-- the half after the Continue that answers its Begin: it is active, and has the ID that it lacked. A half that sent
-- its Begin learns the peer's ID; a half that received it gets its own ID.
abbrev pub active_half : Slot → List ℕ → Half → Half
active_half Begun id h = record h { phase = phases.Active; peer = Some id; dialogue_state = confirm h.dialogue_state }
active_half Accepted id h = record h { phase = phases.Active; own = Some id; dialogue_state = confirm h.dialogue_state }

-- ---- sending (Q.774 3.3)

-- A Begin is sent: its originating ID was never used as an own ID, and its half starts in Sent.
abbrev pub send_begin : Table → End → List ℕ → Option Dialogue → List Component → Result End EndFault
send_begin table e otid dialogue components = do
  needs (is_none (with_own e otid)) faults.IdUsed
  needs (may_begin dialogue) faults.WrongDialogue
  half ← send_components table (fresh phases.Sent (Some otid) None (first_dialogue_state dialogue)) components
  Ok (put e Begun otid half)

-- A Continue whose originating ID is new answers a Begin: this ID becomes the half's own.
abbrev pub send_first_continue : Table → End → List ℕ → List ℕ → Option Dialogue → List Component → Result End EndFault
send_first_continue table e otid dtid dialogue components = do
  kept ← ok_or (with_peer e dtid) faults.NoTransaction
  needs (is_received kept.half.phase) faults.WrongPhase
  needs (may_go_on kept.half.phase kept.half.dialogue_state dialogue) faults.WrongDialogue
  half ← send_components table (active_half Accepted otid kept.half) components
  Ok (put e kept.slot kept.key half)

-- Any other Continue belongs to the active half with both of its IDs.
abbrev pub send_next_continue : Table → End → List ℕ → Option Dialogue → List Component → KeyedHalf
    → Result End EndFault
send_next_continue table e dtid dialogue components kept = do
  needs (is_active kept.half.phase) faults.WrongPhase
  needs (is_id dtid kept.half.peer) faults.NoTransaction
  needs (may_go_on kept.half.phase kept.half.dialogue_state dialogue) faults.WrongDialogue
  half ← send_components table kept.half components
  Ok (put e kept.slot kept.key half)

-- A Continue is sent by the half whose own ID is its originating ID, if there is one.
abbrev pub send_continue : Table → End → List ℕ → List ℕ → Option Dialogue → List Component → Option KeyedHalf
    → Result End EndFault
send_continue table e otid dtid dialogue components None = send_first_continue table e otid dtid dialogue components
send_continue table e otid dtid dialogue components
    (Some kept) = send_next_continue table e dtid dialogue components kept

-- An End is sent: the half with that peer's ID is open, and closes.
abbrev pub send_end : Table → End → List ℕ → Option Dialogue → List Component → Result End EndFault
send_end table e dtid dialogue components = do
  kept ← ok_or (with_peer e dtid) faults.NoTransaction
  needs (not (is_closed kept.half.phase)) faults.WrongPhase
  needs (may_go_on kept.half.phase kept.half.dialogue_state dialogue) faults.WrongDialogue
  half ← send_components table kept.half components
  Ok (put e kept.slot kept.key (closed_half half))

-- An end sends an Abort. An Abort with a cause comes from the provider only, so a user's step refuses it.
abbrev pub send_abort : End → List ℕ → Option AbortReason → Result End EndFault
send_abort e dtid reason = do
  needs (is_none (reason_cause reason)) faults.WrongPhase
  kept ← ok_or (with_peer e dtid) faults.NoTransaction
  needs (not (is_closed kept.half.phase)) faults.WrongPhase
  needs (may_abort kept.half.phase kept.half.dialogue_state (reason_dialogue reason)) faults.WrongDialogue
  Ok (put e kept.slot kept.key (closed_half kept.half))

-- A Unidirectional is sent, and no half changes.
abbrev pub send_uni : Table → End → Option Dialogue → List Component → Result End EndFault
send_uni table e dialogue components = do
  needs (may_be_uni dialogue) faults.WrongDialogue
  send_uni_components table [] components
  Ok e

-- An end sends a message.
abbrev pub send : Table → End → Message → Result End EndFault
send table e (Unidirectional dialogue components) = send_uni table e dialogue components
send table e (Begin otid dialogue components) = send_begin table e otid dialogue (items_of components)
send table e (Continue otid dtid dialogue components) =
    send_continue table e otid dtid dialogue (items_of components) (with_own e otid)
send table e (EndMessage dtid dialogue components) = send_end table e dtid dialogue (items_of components)
send table e (Abort dtid reason) = send_abort e dtid reason

-- ---- receiving (Q.774 3.3)

-- A Begin is received: no half has its ID as the peer's, and its half starts in Received.
abbrev pub receive_begin : Table → End → List ℕ → Option Dialogue → List Component → Result End EndFault
receive_begin table e otid dialogue components = do
  needs (is_none (with_peer e otid)) faults.IdUsed
  Ok (put e Accepted otid
      (receive_components table (fresh phases.Received None (Some otid) (first_dialogue_state dialogue)) components))

-- A Continue is received by a half. In Sent it answers the half's Begin, and the half learns the peer's ID. In Active
-- its originating ID must be the peer's. This profile chose to refuse a Continue from another peer.
abbrev pub receive_over : Table → End → List ℕ → Option Dialogue → List Component → KeyedHalf → Phase
    → Result End EndFault
receive_over table e otid dialogue components kept phases.Sent = do
  needs (is_none (with_peer e otid)) faults.IdUsed
  needs (answers_request kept.half.dialogue_state dialogue) faults.WrongDialogue
  Ok (put e kept.slot kept.key (receive_components table (active_half Begun otid kept.half) components))
receive_over table e otid dialogue components kept phases.Active = do
  needs (is_id otid kept.half.peer) faults.NoTransaction
  Ok (put e kept.slot kept.key (receive_components table kept.half components))
receive_over table e otid dialogue components kept _ = Err faults.NoTransaction

-- A Continue is received by the half whose own ID is its destination ID.
abbrev pub receive_continue : Table → End → List ℕ → List ℕ → Option Dialogue → List Component → Result End EndFault
receive_continue table e otid dtid dialogue components = do
  kept ← ok_or (with_own e dtid) faults.NoTransaction
  receive_over table e otid dialogue components kept kept.half.phase

-- An End or an Abort closes the open half with its destination ID. If there is none, the message is dropped.
abbrev pub receive_end : End → Option KeyedHalf → End
receive_end e None = e
receive_end e (Some kept) = cond (is_closed kept.half.phase) e (put e kept.slot kept.key (closed_half kept.half))

-- An end receives a message.
abbrev pub receive : Table → End → Message → Result End EndFault
receive table e (Unidirectional dialogue components) = Ok e
receive table e (Begin otid dialogue components) = receive_begin table e otid dialogue (items_of components)
receive table e (Continue otid dtid dialogue components) = receive_continue table e otid dtid dialogue
    (items_of components)
receive table e (EndMessage dtid dialogue components) = Ok (receive_end e (with_own e dtid))
receive table e (Abort dtid reason) = Ok (receive_end e (with_own e dtid))
