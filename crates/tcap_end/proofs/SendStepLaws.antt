-- How the step of a sent Continue, End or Abort over the half that was found is computed.
use Rattle.std.proofs.Common.{◌≡◌, List, ℕ, true, false, Option, Some, None, Result, Ok, Err, refl, sym, ap, subst, ◌∙◌}
use Rattle.tcap_parts.specs.declared.component.Component.{Component}
use Rattle.tcap_parts.specs.declared.dialogue.Dialogue.{Dialogue}
use Rattle.tcap_msg.specs.Parts.{reason_cause, reason_dialogue}
use Rattle.tcap_end.specs.declared.fault.EndFault.{EndFault}
use Rattle.tcap_end.specs.declared.fault.EndFault.TheVariants as faults
use Rattle.tcap_end.specs.declared.half.Phase.{Phase}
use Rattle.tcap_end.specs.declared.half.Phase.TheVariants as phases
use Rattle.tcap_end.specs.declared.half.Slot.{Slot}
use Rattle.tcap_end.specs.declared.half.Slot.TheVariants.{Begun, Accepted}
use Rattle.tcap_end.specs.declared.half_components.Direction.TheVariants.{Out}
use Rattle.tcap_end.specs.declared.halves.Halves.{Halves}
use Rattle.tcap_end.specs.Step.{◌>>=◌}
use Rattle.tcap_end.specs.Table.{Table}
use Rattle.tcap_end.specs.End.{End, KeyedHalf, is_id, put, with_peer}
use Rattle.tcap_end.specs.Half.{Half, closed_half, is_closed}
use Rattle.tcap_end.specs.Halves.{Becomes, end_of, keyed_half}
use Rattle.tcap_end.specs.AbortReason.{reason_of_dialogue}
use Rattle.tcap_end.specs.Dialogue.{may_abort, may_go_on}
use Rattle.tcap_end.specs.Message.{active_half, is_active, is_received, send_abort, send_end, send_first_continue, send_next_continue}
use Rattle.tcap_end.specs.ReachableEnd.{FitsPhase, HasHalf, IsEnd, IsHalfKey}
use Rattle.tcap_end.specs.ComponentSteps.{components_by, direction_of}
use Rattle.tcap_end.proofs.FoundLaws.{octets_total}
use Rattle.tcap_end.proofs.HalfLaws.{received_is}
use Rattle.tcap_lists.proofs.MapLaws.{found_new, insert_twice}
use Rattle.tcap_end.proofs.WayLaws.{sends_out}

-- ---- a half is put twice

put_twice : (e : End) (slot : Slot) (key : List ℕ) (h g : Half) → put (put e slot key h) slot key g ≡ put e slot key g
put_twice e Begun key h g = ap (λ es. record e { begun = es }) (insert_twice octets_total key h g e.begun)
put_twice e Accepted key h g = ap (λ es. record e { accepted = es }) (insert_twice octets_total key h g e.accepted)

-- The end keeps a half that was put.
put_had : (e : End) (slot : Slot) (key : List ℕ) (h : Half) → HasHalf (put e slot key h) (keyed_half slot key h)
put_had e Begun key h = found_new octets_total key h e.begun
put_had e Accepted key h = found_new octets_total key h e.accepted

-- If the step was Ok, its half closes; if not, the end is unchanged.
module _ (s mid next : Halves) (slot : Slot) (key : List ℕ) where
  pub becomes_closed : (step : Result Half EndFault) → (step >>= λ g. Ok (put (end_of s) slot key g)) ≡ Ok (end_of mid)
      → Becomes slot key closed_half mid next → (step >>= λ g. Ok (put (end_of s) slot key (closed_half g))) ≡ Ok (end_of next)
  becomes_closed (Ok g) made closed =
      let is : put (end_of s) slot key g ≡ end_of mid = cc in
      let had = subst (λ (e : End). HasHalf e (keyed_half slot key g)) is (put_had (end_of s) slot key g) in
      let again = ap (λ (e : End). put e slot key (closed_half g)) (sym is) ∙ put_twice (end_of s) slot key g (closed_half g) in
      rw (closed g had ∙ again) refl
  becomes_closed (Err reason) made closed = cc

pub stays_err : (step : Result Half EndFault) (rest other : Half → End) (reason : EndFault) → (step >>= λ g. Ok (rest g)) ≡ Err reason
    → (step >>= λ g. Ok (other g)) ≡ Err reason
stays_err (Ok g) rest other reason is = cc
stays_err (Err fault) rest other reason is = let same : fault ≡ reason = cc in rw same refl

-- ---- phases

pub closed_inactive : (p : Phase) → is_closed p ≡ true → is_active p ≡ false
closed_inactive phases.Sent is = cc
closed_inactive phases.Received is = cc
closed_inactive phases.Active is = cc
closed_inactive phases.Closed is = refl

pub closed_unreceived : (p : Phase) → is_closed p ≡ true → is_received p ≡ false
closed_unreceived phases.Sent is = cc
closed_unreceived phases.Received is = cc
closed_unreceived phases.Active is = cc
closed_unreceived phases.Closed is = refl

-- A half in Received has no own ID.
pub received_own : (e : End) (f : KeyedHalf) → IsEnd e → HasHalf e f → is_received f.half.phase ≡ true → f.half.own ≡ None
received_own e f sound had is =
    (subst (λ (p : Phase). FitsPhase p f.half) (received_is f.half.phase is) (sound.halves f had).phase).0

pub received_accepted : (e : End) (f : KeyedHalf) → IsEnd e → HasHalf e f → is_received f.half.phase ≡ true → f.slot ≡ Accepted
received_accepted e f sound had is = by f.slot (sound.kept f had)
  where
    by : (slot : Slot) → IsHalfKey slot f.key f.half → slot ≡ Accepted
    by Begun kept = let none = received_own e f sound had is in cc
    by Accepted kept = refl

-- ---- a Continue over a half that has its originating ID

module _ {x h : Half} (table : Table) (e : End) (slot : Slot) (key dtid : List ℕ) (dialogue : Option Dialogue)
    (components : List Component) (same : x ≡ h) where
  -- The half is not active, has another peer's ID, or may not send the dialogue portion; else the Continue is sent.
  pub next_inactive : is_active x.phase ≡ false
      → send_next_continue table e dtid dialogue components (keyed_half slot key h) ≡ Err faults.WrongPhase
  next_inactive inactive = rw (← same, inactive) refl

  pub next_other : is_active x.phase ≡ true → is_id dtid x.peer ≡ false
      → send_next_continue table e dtid dialogue components (keyed_half slot key h) ≡ Err faults.NoTransaction
  next_other active other = rw (← same, active, other) refl

  pub next_wrong : is_active x.phase ≡ true → is_id dtid x.peer ≡ true → may_go_on x.phase x.dialogue_state dialogue ≡ false
      → send_next_continue table e dtid dialogue components (keyed_half slot key h) ≡ Err faults.WrongDialogue
  next_wrong active peer may_not = rw (← same, active, peer, may_not) refl

  pub next_goes : is_active x.phase ≡ true → is_id dtid x.peer ≡ true → may_go_on x.phase x.dialogue_state dialogue ≡ true
      → send_next_continue table e dtid dialogue components (keyed_half slot key h)
      ≡ (components_by Out table h components >>= λ g. Ok (put e slot key g))
  next_goes active peer may = rw (sends_out table h components, ← same, active, peer, may) refl

-- ---- a Continue that answers a Begin

module _ {f : KeyedHalf} (table : Table) (e : End) (otid dtid : List ℕ) (dialogue : Option Dialogue) (components : List Component)
    (is : with_peer e dtid ≡ Some f) where
  -- The half is not in Received, or may not send the dialogue portion; else it becomes active.
  pub first_none : is_received f.half.phase ≡ false → send_first_continue table e otid dtid dialogue components ≡ Err faults.WrongPhase
  first_none unreceived = rw (is, unreceived) refl

  pub first_wrong : is_received f.half.phase ≡ true → may_go_on f.half.phase f.half.dialogue_state dialogue ≡ false
      → send_first_continue table e otid dtid dialogue components ≡ Err faults.WrongDialogue
  first_wrong received may_not = rw (is, received, may_not) refl

  pub first_goes : is_received f.half.phase ≡ true → may_go_on f.half.phase f.half.dialogue_state dialogue ≡ true → f.slot ≡ Accepted
      → send_first_continue table e otid dtid dialogue components
      ≡ (components_by (direction_of f.slot) table (active_half f.slot otid f.half) components >>= λ g. Ok (put e f.slot f.key g))
  first_goes received may at = rw (is, received, may, at, sends_out table (active_half Accepted otid f.half) components) refl

-- ---- an End

module _ {f : KeyedHalf} (table : Table) (e : End) (dtid : List ℕ) (dialogue : Option Dialogue) (components : List Component)
    (is : with_peer e dtid ≡ Some f) where
  -- The half is closed, or may not send the dialogue portion; else it closes.
  pub ends_closed : is_closed f.half.phase ≡ true → send_end table e dtid dialogue components ≡ Err faults.WrongPhase
  ends_closed shut = rw (is, shut) refl

  pub ends_wrong : is_closed f.half.phase ≡ false → may_go_on f.half.phase f.half.dialogue_state dialogue ≡ false
      → send_end table e dtid dialogue components ≡ Err faults.WrongDialogue
  ends_wrong is_open may_not = rw (is, is_open, may_not) refl

  pub ends_half : is_closed f.half.phase ≡ false → may_go_on f.half.phase f.half.dialogue_state dialogue ≡ true
      → send_end table e dtid dialogue components
      ≡ (components_by Out table f.half components >>= λ g. Ok (put e f.slot f.key (closed_half g)))
  ends_half is_open may = rw (is, is_open, may, sends_out table f.half components) refl

-- ---- an Abort without a cause

no_cause : (d : Option Dialogue) → reason_cause (reason_of_dialogue d) ≡ None
no_cause None = refl
no_cause (Some d) = refl

the_dialogue : (d : Option Dialogue) → reason_dialogue (reason_of_dialogue d) ≡ d
the_dialogue None = refl
the_dialogue (Some d) = refl

pub aborts_nothing : (e : End) (dtid : List ℕ) (d : Option Dialogue) → with_peer e dtid ≡ None
    → send_abort e dtid (reason_of_dialogue d) ≡ Err faults.NoTransaction
aborts_nothing e dtid d is = rw (no_cause d, is) refl

module _ {f : KeyedHalf} (e : End) (dtid : List ℕ) (d : Option Dialogue) (is : with_peer e dtid ≡ Some f) where
  -- The half is closed, or may not send the dialogue portion; else it closes.
  pub aborts_closed : is_closed f.half.phase ≡ true → send_abort e dtid (reason_of_dialogue d) ≡ Err faults.WrongPhase
  aborts_closed shut = rw (no_cause d, is, shut) refl

  pub aborts_wrong : is_closed f.half.phase ≡ false → may_abort f.half.phase f.half.dialogue_state d ≡ false
      → send_abort e dtid (reason_of_dialogue d) ≡ Err faults.WrongDialogue
  aborts_wrong is_open may_not = rw (no_cause d, the_dialogue d, is, is_open, may_not) refl

  pub aborts_half : is_closed f.half.phase ≡ false → may_abort f.half.phase f.half.dialogue_state d ≡ true
      → send_abort e dtid (reason_of_dialogue d) ≡ Ok (put e f.slot f.key (closed_half f.half))
  aborts_half is_open may = rw (no_cause d, the_dialogue d, is, is_open, may) refl
