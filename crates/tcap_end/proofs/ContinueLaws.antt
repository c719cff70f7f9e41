-- How the step of a received Continue, End or Abort over the half that was found is computed.
use Rattle.std.proofs.Common.{◌≡◌, ◌≢◌, List, ℕ, true, false, Option, Some, None, Ok, Err, is_none, refl, subst}
use Rattle.tcap_parts.specs.declared.component.Component.{Component}
use Rattle.tcap_parts.specs.declared.dialogue.Dialogue.{Dialogue}
use Rattle.tcap_end.specs.declared.fault.EndFault.TheVariants as faults
use Rattle.tcap_end.specs.declared.half.Phase.{Phase}
use Rattle.tcap_end.specs.declared.half.Phase.TheVariants as phases
use Rattle.tcap_end.specs.declared.half.Slot.{Slot}
use Rattle.tcap_end.specs.declared.half.Slot.TheVariants.{Begun, Accepted}
use Rattle.tcap_end.specs.declared.half_components.Direction.TheVariants.{In}
use Rattle.tcap_end.specs.Step.{◌>>=◌}
use Rattle.tcap_end.specs.Dialogue.{answers_request}
use Rattle.tcap_end.specs.End.{End, KeyedHalf, is_id, put, with_own, with_peer}
use Rattle.tcap_end.specs.Half.{closed_half, is_closed}
use Rattle.tcap_end.specs.Message.{active_half, receive_continue, receive_end, receive_over}
use Rattle.tcap_end.specs.ReachableEnd.{FitsPhase, HasHalf, IsEnd, IsHalfKey}
use Rattle.tcap_end.specs.Table.{Table}
use Rattle.tcap_end.specs.ComponentSteps.{components_by, direction_of}
use Rattle.tcap_end.proofs.WayLaws.{receives_in}

-- ---- a Continue

-- A half in Sent does not know its peer's ID.
pub sent_peer : (e : End) (f : KeyedHalf) → IsEnd e → HasHalf e f → f.half.phase ≡ phases.Sent → f.half.peer ≡ None
sent_peer e f sound had is = (subst (λ (p : Phase). FitsPhase p f.half) is (sound.halves f had).phase).1

pub sent_begun : (e : End) (f : KeyedHalf) → IsEnd e → HasHalf e f → f.half.phase ≡ phases.Sent → f.slot ≡ Begun
sent_begun e f sound had is = by f.slot (sound.kept f had)
  where
    by : (slot : Slot) → IsHalfKey slot f.key f.half → slot ≡ Begun
    by Begun kept = refl
    by Accepted kept = let none = sent_peer e f sound had is in cc

module _ {f : KeyedHalf} (table : Table) (e : End) (otid dtid : List ℕ) (dialogue : Option Dialogue) (components : List Component)
    (is : with_own e dtid ≡ Some f) where
  -- The half is closed, or in Received.
  pub over_closed : is_closed f.half.phase ≡ true → receive_continue table e otid dtid dialogue components ≡ Err faults.NoTransaction
  over_closed shut = rw is (by f.half.phase shut)
    where
      by : (p : Phase) → is_closed p ≡ true → receive_over table e otid dialogue components f p ≡ Err faults.NoTransaction
      by phases.Sent shut = cc
      by phases.Received shut = cc
      by phases.Active shut = cc
      by phases.Closed shut = refl

  pub over_other : f.half.phase ≢ phases.Sent → f.half.phase ≢ phases.Active
      → receive_continue table e otid dtid dialogue components ≡ Err faults.NoTransaction
  over_other not_sent not_active = rw is (by f.half.phase not_sent not_active)
    where
      by : (p : Phase) → p ≢ phases.Sent → p ≢ phases.Active
          → receive_over table e otid dialogue components f p ≡ Err faults.NoTransaction
      by phases.Sent not_sent not_active = absurd (not_sent refl)
      by phases.Received not_sent not_active = refl
      by phases.Active not_sent not_active = absurd (not_active refl)
      by phases.Closed not_sent not_active = refl

  -- In Sent: the ID was used, the dialogue portion does not answer the request, or the half becomes active.
  pub over_used : f.half.phase ≡ phases.Sent → is_none (with_peer e otid) ≡ false
      → receive_continue table e otid dtid dialogue components ≡ Err faults.IdUsed
  over_used sent used = rw (is, sent, used) refl

  pub over_unanswered : f.half.phase ≡ phases.Sent → with_peer e otid ≡ None → answers_request f.half.dialogue_state dialogue ≡ false
      → receive_continue table e otid dtid dialogue components ≡ Err faults.WrongDialogue
  over_unanswered sent none not_answered = rw (is, sent, none, not_answered) refl

  pub over_first : f.half.phase ≡ phases.Sent → with_peer e otid ≡ None → answers_request f.half.dialogue_state dialogue ≡ true → f.slot ≡ Begun
      → receive_continue table e otid dtid dialogue components
      ≡ (components_by (direction_of f.slot) table (active_half f.slot otid f.half) components >>= λ g. Ok (put e f.slot f.key g))
  over_first sent none answered at =
      rw (is, at, receives_in table (active_half Begun otid f.half) components, sent, none, answered) refl

  -- In Active: the Continue comes from another peer, or the half takes its components.
  pub over_another : f.half.phase ≡ phases.Active → is_id otid f.half.peer ≡ false
      → receive_continue table e otid dtid dialogue components ≡ Err faults.NoTransaction
  over_another active other = rw (is, active, other) refl

  pub over_next : f.half.phase ≡ phases.Active → is_id otid f.half.peer ≡ true
      → receive_continue table e otid dtid dialogue components
      ≡ (components_by In table f.half components >>= λ g. Ok (put e f.slot f.key g))
  over_next active peer = rw (is, receives_in table f.half components, active, peer) refl

-- ---- an End or an Abort

pub end_closes : {o : Option KeyedHalf} {f : KeyedHalf} (e : End) → o ≡ Some f → is_closed f.half.phase ≡ false
    → receive_end e o ≡ put e f.slot f.key (closed_half f.half)
end_closes e is is_open = rw (is, is_open) refl

pub end_dropped : {o : Option KeyedHalf} {f : KeyedHalf} (e : End) → o ≡ Some f → is_closed f.half.phase ≡ true → receive_end e o ≡ e
end_dropped e is shut = rw (is, shut) refl
