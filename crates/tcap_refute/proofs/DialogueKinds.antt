-- No message that an end sends has F7 (Q.774 3.2).
use Rattle.std.proofs.Common.{◌≡◌, ◌⊎◌, inl, inr, Bool, true, false, ℕ, List, Option, Some, None, is_none, is_some, not, refl, ◌∙◌, arith}
use Rattle.std.specs.Prelude.{◌&&◌, ◌||◌}
use Rattle.std.specs.List.{list_any}
use Rattle.std.proofs.lemmas.Bool.{eqb-true, or_left}
use Rattle.tcap_parts.specs.declared.dialogue.Dialogue.{Dialogue}
use Rattle.tcap_parts.specs.declared.dialogue.Dialogue.TheVariants as dialogues
use Rattle.tcap_msg.specs.declared.message.Message.{Message}
use Rattle.tcap_msg.specs.declared.message.Message.TheVariants.{Unidirectional, Begin, Continue, End as EndMessage, Abort}
use Rattle.tcap_msg.specs.Parts.{reason_dialogue}
use Rattle.tcap_record.specs.declared.entry.End.{End as Side}
use Rattle.tcap_end.specs.declared.fault.EndFault.TheVariants as faults
use Rattle.tcap_end.specs.declared.half.Phase.{Phase}
use Rattle.tcap_end.specs.declared.half.Phase.TheVariants as phases
use Rattle.tcap_end.specs.declared.half.DialogueState.{DialogueState}
use Rattle.tcap_end.specs.declared.half.DialogueState.TheVariants as dialogue_states
use Rattle.tcap_end.specs.Table.{Table}
use Rattle.tcap_end.specs.Dialogue.{accepts_dialogue, is_request, is_uni, is_user_abort, may_abort, may_be_uni, may_begin, may_go_on, refuses_dialogue}
use Rattle.tcap_end.specs.End.{with_own}
use Rattle.tcap_end.proofs.AnsweringLaws.{needs_ok}
use Rattle.tcap_model.specs.World.{World, end_at}
use Rattle.tcap_model.specs.Run.{Event}
use Rattle.tcap_model.specs.SinceMark.{is_begin_with_request}
use Rattle.tcap_model.proofs.PeerLaws.{knows}
use Rattle.tcap_refute.specs.EarlierMessages.{peer_sent_from, since_quiet}
use Rattle.tcap_refute.specs.Kind.{is_misplaced_in_abort, is_misplaced_dialogue, is_misplaced_in_continue}
use Rattle.tcap_refute.proofs.BeforeLaws.{asked_has}
use Rattle.tcap_refute.proofs.Members.{any_has}
use Rattle.tcap_refute.proofs.OverLaws.{IsOver}
use Rattle.tcap_refute.proofs.SentLaws.{IsSent, half_over}

-- ---- portions that a half may carry

-- A half in Received whose peer asked for a dialogue.
abbrev pub IsAsked : Phase → DialogueState → Type 0
IsAsked phase dialogue_state = (phase ≡ phases.Received) × (dialogue_state ≡ dialogue_states.Requested)

-- The portion of a Continue or an End is none, or accepts a dialogue that was asked for.
pub goes_on : (phase : Phase) (dialogue_state : DialogueState) (d : Option Dialogue) → may_go_on phase dialogue_state d ≡ true
    → (is_none d ≡ true) ⊎ (IsAsked phase dialogue_state × (accepts_dialogue d ≡ true))
goes_on phases.Received dialogue_states.Requested d may = inr ((refl, refl), may)
goes_on phase dialogue_state d may = inl may

-- The portion of an Abort is none, a user's ABRT, or refuses a dialogue that was asked for.
pub aborts : (phase : Phase) (dialogue_state : DialogueState) (d : Option Dialogue) → may_abort phase dialogue_state d ≡ true
    → ((is_none d || is_user_abort d) ≡ true) ⊎ (IsAsked phase dialogue_state × (refuses_dialogue d ≡ true))
aborts phases.Received dialogue_states.Requested d may = by (is_none d) (refuses_dialogue d) (is_user_abort d) refl may
  where
    by : (none refuses user : Bool) → refuses_dialogue d ≡ refuses → (none || refuses || user) ≡ true
        → ((none || user) ≡ true) ⊎ (IsAsked phases.Received dialogue_states.Requested × (refuses_dialogue d ≡ true))
    by true refuses user so is = inl refl
    by false true user so is = inr ((refl, refl), so)
    by false false user so is = inl is
aborts phase dialogue_states.Confirmed d may = inl may
aborts phase dialogue_state d may = inl (or_left (is_none d) (is_user_abort d) may)

-- ---- tests

-- No portion is not misplaced in a Continue or an End.
none_misplaced : (is_asked : Bool) (d : Option Dialogue) → is_none d ≡ true → is_misplaced_in_continue is_asked d ≡ true
    → ⊥
none_misplaced is_asked d none is = grind (arith, none, is)

-- A portion that accepts a dialogue that was asked for is not misplaced.
answer_misplaced : (is_asked : Bool) (d : Option Dialogue) → is_asked ≡ true → accepts_dialogue d ≡ true
    → is_misplaced_in_continue is_asked d ≡ true → ⊥
answer_misplaced is_asked None peer_sent_from accepts is = cc
answer_misplaced is_asked (Some d) peer_sent_from accepts is = let bad : false ≡ true = rw (peer_sent_from, accepts) at is in cc

-- No portion, or a user's ABRT, is not misplaced in an Abort.
user_misplaced : (is_asked : Bool) (d : Option Dialogue) → (is_none d || is_user_abort d) ≡ true
    → is_misplaced_in_abort is_asked d ≡ true → ⊥
user_misplaced is_asked (Some (dialogues.Abort source info)) so is =
    let zero : source ≡ 0 = eqb-true source 0 so in
    let bad : false ≡ true = rw zero at is in cc
user_misplaced is_asked o so is = cc

-- A portion that refuses a dialogue that was asked for is not misplaced in an Abort.
refusal_misplaced : (is_asked : Bool) (d : Option Dialogue) → is_asked ≡ true → refuses_dialogue d ≡ true
    → is_misplaced_in_abort is_asked d ≡ true → ⊥
refusal_misplaced is_asked (Some (dialogues.Response context result diagnostic info)) peer_sent_from refuses is =
    let bad : false ≡ true = rw (peer_sent_from, refuses) at is in cc
refusal_misplaced is_asked o peer_sent_from refuses is = cc

-- A portion that passes if it is there does not fail.
only_such : {A : Type 0} (o : Option A) (passes : Bool) → (is_none o || passes) ≡ true
    → (is_some o && not passes) ≡ true → ⊥
only_such o passes may is = grind (arith, may, is)

-- ---- messages

-- A message that an end sends over a half.
module _ {table : Table} {events : List Event} {w : World} {side : Side} {message : Message} (id : List ℕ)
    (d : Option Dialogue) (it : IsSent table events w side message)
    (half : IsOver table (end_at side w) message id) where
  abbrev phase : Phase
  phase = half.kept.half.phase

  abbrev dialogue_state : DialogueState
  dialogue_state = half.kept.half.dialogue_state

  abbrev is_asked : Bool
  is_asked = list_any is_begin_with_request (peer_sent_from side id (since_quiet w.sent))

  -- A half that was asked for a dialogue got a Begin with an AARQ from its peer.
  was_asked : IsAsked phase dialogue_state → is_asked ≡ true
  was_asked (received, asked_for) =
      let (m, since, so, from) = (knows table events w side half.kept it.runs half.had).request received asked_for in
      any_has is_begin_with_request (peer_sent_from side id (since_quiet w.sent)) m
      (asked_has side id m w.sent since (from ∙ half.peer)) so

  -- A Continue or an End has a portion that its half may carry.
  going_on : may_go_on phase dialogue_state d ≡ true → is_misplaced_in_continue is_asked d ≡ true → ⊥
  going_on may is = by (goes_on phase dialogue_state d may)
    where
      by : (is_none d ≡ true) ⊎ (IsAsked phase dialogue_state × (accepts_dialogue d ≡ true)) → ⊥
      by (inl none) = none_misplaced is_asked d none is
      by (inr (so, accepts)) = answer_misplaced is_asked d (was_asked so) accepts is

  -- An Abort has a portion that its half may carry.
  aborting : may_abort phase dialogue_state d ≡ true → is_misplaced_in_abort is_asked d ≡ true → ⊥
  aborting may is = by (aborts phase dialogue_state d may)
    where
      by : ((is_none d || is_user_abort d) ≡ true) ⊎ (IsAsked phase dialogue_state × (refuses_dialogue d ≡ true)) → ⊥
      by (inl user) = user_misplaced is_asked d user is
      by (inr (so, refuses)) = refusal_misplaced is_asked d (was_asked so) refuses is

module _ (table : Table) (events : List Event) (w : World) (side : Side) where
  -- No message that an end sends has a misplaced portion.
  pub misplaced_sent : (message : Message) → IsSent table events w side message
      → is_misplaced_dialogue side (since_quiet w.sent) message ≡ true → ⊥
  misplaced_sent (Unidirectional dialogue components) it is =
      let may = needs_ok (may_be_uni dialogue) faults.WrongDialogue _ it.made it.step in
      only_such dialogue (is_uni dialogue) may.0 is
  misplaced_sent (Begin otid dialogue components) it is =
      let free = needs_ok (is_none (with_own (end_at side w) otid)) faults.IdUsed _ it.made it.step in
      let may = needs_ok (may_begin dialogue) faults.WrongDialogue _ it.made free.1 in
      only_such dialogue (is_request dialogue) may.0 is
  misplaced_sent (Continue otid dtid dialogue components) it is =
      let half = half_over dtid it refl in going_on dtid dialogue it half half.carries is
  misplaced_sent (EndMessage dtid dialogue components) it is =
      let half = half_over dtid it refl in going_on dtid dialogue it half half.carries is
  misplaced_sent (Abort dtid reason) it is =
      let half = half_over dtid it refl in aborting dtid (reason_dialogue reason) it half half.carries is
