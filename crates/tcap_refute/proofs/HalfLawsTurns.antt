-- What a step of one end changes in its halves, case by case: their phases, IDs and dialogues.
use Rattle.std.proofs.Common.{◌≡◌, ◌≢◌, ◌⊎◌, inl, inr, true, false, ℕ, List, Option, Some, None, refl, sym, subst}
use Rattle.tcap_parts.specs.declared.component.Component.{Component}
use Rattle.tcap_parts.specs.declared.dialogue.Dialogue.{Dialogue}
use Rattle.tcap_msg.specs.declared.message.Message.{Message}
use Rattle.tcap_msg.specs.declared.message.Message.TheVariants.{Begin, Continue}
use Rattle.tcap_end.specs.declared.half.Phase.TheVariants as phases
use Rattle.tcap_end.specs.declared.half.Slot.{Slot}
use Rattle.tcap_end.specs.declared.half.Slot.TheVariants.{Begun, Accepted}
use Rattle.tcap_end.specs.declared.half.DialogueState.TheVariants as dialogue_states
use Rattle.tcap_end.specs.Table.{Table}
use Rattle.tcap_end.specs.Half.{Half, is_closed}
use Rattle.tcap_end.specs.Dialogue.{answers_request, confirm, first_dialogue_state}
use Rattle.tcap_end.specs.End.{End, KeyedHalf, put, with_own, with_peer}
use Rattle.tcap_end.specs.HiddenSteps.{may_close}
use Rattle.tcap_end.specs.ReachableEnd.{HasHalf, halves_of}
use Rattle.tcap_end.proofs.EndLaws.{IsThere, put_has, put_other}
use Rattle.tcap_end.proofs.FoundLaws.{half_at}
use Rattle.tcap_model.specs.SinceMark.{ended_by}
use Rattle.tcap_model.proofs.TurnLaws.{one_place, put_there}
use Rattle.tcap_refute.specs.EarlierMessages.{ends_to}

-- ---- one half

-- What an end does: it sends a message, receives one, or takes a hidden step.
pub data Deed : Type 0 where
  Said : Message → Deed
  Heard : Message → Deed
  Internal : Deed

-- Why a half closes: a sent message ends the dialogue with its peer, a received one ends it at its own ID, or it
-- closes in a hidden step.
abbrev pub IsEnded : Table → Deed → Half → Type 0
IsEnded table (Said m) h = (id : List ℕ) × (ended_by m ≡ Some id) × (h.peer ≡ Some id)
IsEnded table (Heard m) h = (id : List ℕ) × (ends_to id m ≡ true) × (h.own ≡ Some id)
IsEnded table Internal h = may_close table h.phase ≡ true

-- The half keeps its phase, its IDs and its dialogue.
pub record Stays (h g : Half) : Type 0 where
  pub phase : g.phase ≡ h.phase
  pub own : g.own ≡ h.own
  pub peer : g.peer ≡ h.peer
  pub dialogue_state : g.dialogue_state ≡ h.dialogue_state

-- The half closes.
pub record Closes (table : Table) (deed : Deed) (h g : Half) : Type 0 where
  pub phase : g.phase ≡ phases.Closed
  pub own : g.own ≡ h.own
  pub peer : g.peer ≡ h.peer
  pub dialogue_state : g.dialogue_state ≡ dialogue_states.Without
  pub was_open : is_closed h.phase ≡ false
  pub ended : IsEnded table deed h

-- The half answers a Begin with a Continue, and chooses its own ID.
pub record Answers (deed : Deed) (h g : Half) : Type 0 where
  pub id : List ℕ
  pub to : List ℕ
  pub dialogue : Option Dialogue
  pub components : Option (List Component)
  pub deed_is : deed ≡ Said (Continue id to dialogue components)
  pub was : h.phase ≡ phases.Received
  pub own_was : h.own ≡ None
  pub peer_was : h.peer ≡ Some to
  pub phase : g.phase ≡ phases.Active
  pub own : g.own ≡ Some id
  pub peer : g.peer ≡ Some to
  pub dialogue_state : g.dialogue_state ≡ confirm h.dialogue_state

-- A Continue answers the half's Begin, and the half learns its peer's ID.
pub record Learns (deed : Deed) (h g : Half) : Type 0 where
  pub id : List ℕ
  pub from : List ℕ
  pub dialogue : Option Dialogue
  pub components : Option (List Component)
  pub deed_is : deed ≡ Heard (Continue from id dialogue components)
  pub was : h.phase ≡ phases.Sent
  pub own_was : h.own ≡ Some id
  pub peer_was : h.peer ≡ None
  pub phase : g.phase ≡ phases.Active
  pub own : g.own ≡ Some id
  pub peer : g.peer ≡ Some from
  pub dialogue_state : g.dialogue_state ≡ confirm h.dialogue_state
  pub answers : answers_request h.dialogue_state dialogue ≡ true

-- One of these four happened to the half.
pub data Turned (table : Table) (deed : Deed) (h g : Half) : Type 0 where
  stays : Stays h g → Turned table deed h g
  closes : Closes table deed h g → Turned table deed h g
  answers : Answers deed h g → Turned table deed h g
  learns : Learns deed h g → Turned table deed h g

-- The half began: the end sent a Begin from an ID that no half had.
pub record Starts (deed : Deed) (e : End) (f : KeyedHalf) : Type 0 where
  pub dialogue : Option Dialogue
  pub components : Option (List Component)
  pub deed_is : deed ≡ Said (Begin f.key dialogue components)
  pub free : with_own e f.key ≡ None
  pub slot : f.slot ≡ Begun
  pub phase : f.half.phase ≡ phases.Sent
  pub own : f.half.own ≡ Some f.key
  pub peer : f.half.peer ≡ None
  pub dialogue_state : f.half.dialogue_state ≡ first_dialogue_state dialogue

-- The half began: the end received a Begin from an ID that no half's peer had.
pub record Accepts (deed : Deed) (e : End) (f : KeyedHalf) : Type 0 where
  pub dialogue : Option Dialogue
  pub components : Option (List Component)
  pub deed_is : deed ≡ Heard (Begin f.key dialogue components)
  pub free : with_peer e f.key ≡ None
  pub slot : f.slot ≡ Accepted
  pub phase : f.half.phase ≡ phases.Received
  pub own : f.half.own ≡ None
  pub peer : f.half.peer ≡ Some f.key
  pub dialogue_state : f.half.dialogue_state ≡ first_dialogue_state dialogue

-- ---- an end

-- Each half after the step is new, or one before it became it; each half before the step became one after it.
pub record Acts (table : Table) (deed : Deed) (e next : End) : Type 0 where
  pub back : (g : KeyedHalf) → HasHalf next g
      → (Starts deed e g ⊎ Accepts deed e g) ⊎ ((h : Half) × HasHalf e (record g { half = h }) × Turned table deed h g.half)
  pub forth : (f : KeyedHalf) → HasHalf e f → (g : Half) × HasHalf next (record f { half = g }) × Turned table deed f.half g

-- A half may stay as it is.
pub turned_self : {table : Table} {deed : Deed} (h : Half) → Turned table deed h h
turned_self h = stays (record { phase = refl; own = refl; peer = refl; dialogue_state = refl })

-- All halves may stay as they are.
pub acts_nowhere : (table : Table) (deed : Deed) (e : End) → Acts table deed e e
acts_nowhere table deed e = record {
  back = λ g had. inr (g.half, had, turned_self g.half);
  forth = λ f had. (f.half, had, turned_self f.half);
}

-- One half changes.
pub put_acts : {table : Table} {deed : Deed} (e : End) (f : KeyedHalf) (h : Half) → HasHalf e f → Turned table deed f.half h
    → Acts table deed e (put e f.slot f.key h)
put_acts {table} {deed} e f h had turned = record {
  back = λ g in_g. inr (back g (put_has e f.slot f.key h g in_g));
  forth = λ g in_g. forth g in_g (one_place g f);
}
  where
    back : (g : KeyedHalf) → IsThere f.slot f.key h g ⊎ HasHalf e g
        → (was : Half) × HasHalf e (record g { half = was }) × Turned table deed was g.half
    back g (inl new) = (f.half, rw (new.0, new.1) had, rw (new.2) turned)
    back g (inr old) = (g.half, old, turned_self g.half)

    forth : (g : KeyedHalf) → HasHalf e g → ((g.slot ≡ f.slot) × (g.key ≡ f.key)) ⊎ (g.slot ≡ f.slot → g.key ≢ f.key)
        → (now : Half) × HasHalf (put e f.slot f.key h) (record g { half = now }) × Turned table deed g.half now
    forth g in_g (inl same) =
        let there : half_at (halves_of f.slot e) f.key ≡ Some g.half = rw (same.0, same.1) at in_g in
        let one : f.half ≡ g.half = cc in
        (h, rw (same.0, same.1) (put_there e f.slot f.key h), rw (← one) turned)
    forth g in_g (inr apart) = (g.half, put_other e f.slot f.key h g apart in_g, turned_self g.half)

-- Equal parts make equal halves.
same_kept : (s t : Slot) (k l : List ℕ) (h g : Half) → s ≡ t → k ≡ l → h ≡ g
    → (let f : KeyedHalf = record { slot = s; key = k; half = h } in f) ≡ record { slot = t; key = l; half = g }
same_kept s t k l h g slots keys halves = cc

-- One half begins, at a place without a half.
pub new_acts : {table : Table} {deed : Deed} (e : End) (f : KeyedHalf)
    → ((g : KeyedHalf) → HasHalf e g → g.slot ≡ f.slot → g.key ≢ f.key) → Starts deed e f ⊎ Accepts deed e f
    → Acts table deed e (put e f.slot f.key f.half)
new_acts {table} {deed} e f apart new = record {
  back = λ g in_g. back g (put_has e f.slot f.key f.half g in_g);
  forth = λ g in_g. (g.half, put_other e f.slot f.key f.half g (apart g in_g) in_g, turned_self g.half);
}
  where
    back : (g : KeyedHalf) → IsThere f.slot f.key f.half g ⊎ HasHalf e g
        → (Starts deed e g ⊎ Accepts deed e g)
        ⊎ ((was : Half) × HasHalf e (record g { half = was }) × Turned table deed was g.half)
    back g (inl there) =
        let same : f ≡ g =
        same_kept f.slot g.slot f.key g.key f.half g.half (sym there.0) (sym there.1) (sym there.2) in
        inl (subst (λ (k : KeyedHalf). Starts deed e k ⊎ Accepts deed e k) same new)
    back g (inr old) = inr (g.half, old, turned_self g.half)
