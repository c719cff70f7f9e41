-- A Continue, an End or an Abort without cause goes over an open half whose peer has the destination ID.
use Rattle.std.proofs.Common.{◌≡◌, ◌⊎◌, inl, inr, Bool, true, false, ℕ, List, Option, Some, None, Ok, is_none, not, refl, sym, ap, ◌∙◌}
use Rattle.std.specs.Prelude.{ok_or}
use Rattle.std.proofs.lemmas.Bool.{not-true}
use Rattle.tcap_parts.specs.declared.component.Component.{Component}
use Rattle.tcap_parts.specs.declared.dialogue.Dialogue.{Dialogue}
use Rattle.tcap_msg.specs.declared.message.AbortReason.{AbortReason}
use Rattle.tcap_msg.specs.declared.message.Message.{Message}
use Rattle.tcap_msg.specs.declared.message.Message.TheVariants.{Continue, End as EndMessage, Abort}
use Rattle.tcap_msg.specs.Parts.{cause_in, components_in, dialogue_in, dtid_in, items_of, reason_cause, reason_dialogue}
use Rattle.tcap_end.specs.declared.fault.EndFault.TheVariants as faults
use Rattle.tcap_end.specs.declared.half.Phase.{Phase}
use Rattle.tcap_end.specs.declared.half.Phase.TheVariants as phases
use Rattle.tcap_end.specs.declared.half.Slot.TheVariants.{Accepted}
use Rattle.tcap_end.specs.declared.half.DialogueState.{DialogueState}
use Rattle.tcap_end.specs.Table.{Table}
use Rattle.tcap_end.specs.Half.{Half, closed_half, is_closed}
use Rattle.tcap_end.specs.Dialogue.{may_abort, may_go_on}
use Rattle.tcap_end.specs.End.{End, KeyedHalf, is_id, put, with_own, with_peer}
use Rattle.tcap_end.specs.Message.{active_half, is_active, is_received, send, send_abort, send_components, send_continue, send_end, send_first_continue, send_next_continue}
use Rattle.tcap_end.specs.ReachableEnd.{HasHalf, IsEnd}
use Rattle.tcap_end.proofs.AnsweringLaws.{needs_ok, some_ok, then_ok}
use Rattle.tcap_end.proofs.ComponentLaws.{all_sends}
use Rattle.tcap_end.proofs.FoundLaws.{own_has, peer_has}
use Rattle.tcap_end.proofs.HalfLaws.{Follows, active_is, received_is}
use Rattle.tcap_end.proofs.StepLaws.{none_is}
use Rattle.tcap_model.proofs.TurnLaws.{id_is}
use Rattle.tcap_model.proofs.SentMoves.{own_is, peer_is}
use Rattle.tcap_refute.proofs.HalfLawsTurns.{Answers, Deed, Said, Turned, answers, closes, stays}

-- Whether a half in this phase may carry the message's dialogue portion.
abbrev pub may_carry : Message → Phase → DialogueState → Bool
may_carry (Abort dtid reason) phase dialogue_state = may_abort phase dialogue_state (reason_dialogue reason)
may_carry m phase dialogue_state = may_go_on phase dialogue_state (dialogue_in m)

-- A Continue goes over an active half with its originating ID; or over a half whose Begin it answers, if no half has
-- that ID.
abbrev pub Speaks : End → Message → Half → Type 0
Speaks e (Continue otid dtid dialogue components) h =
    ((h.phase ≡ phases.Active) × (h.own ≡ Some otid)) ⊎ ((h.phase ≡ phases.Received) × (with_own e otid ≡ None))
Speaks e m h = Unit {0}

-- A Continue leaves its half active, with its originating ID.
abbrev pub HasSpoken : Message → Half → Type 0
HasSpoken (Continue otid dtid dialogue components) h = (h.phase ≡ phases.Active) × (h.own ≡ Some otid)
HasSpoken m h = Unit {0}

-- The message has no cause. Its half is open and may carry its dialogue portion. Its components are sent from a half
-- with the same invocations and answers, and `now` is what the half becomes.
pub record IsOver (table : Table) (e : End) (m : Message) (id : List ℕ) : Type 0 where
  pub kept : KeyedHalf
  pub had : HasHalf e kept
  pub peer : kept.half.peer ≡ Some id
  pub is_open : is_closed kept.half.phase ≡ false
  pub carries : may_carry m kept.half.phase kept.half.dialogue_state ≡ true
  pub no_cause : cause_in m ≡ None
  pub speaks : Speaks e m kept.half
  pub start : Half
  pub out : start.out ≡ kept.half.out
  pub inn : start.inn ≡ kept.half.inn
  pub grants : start.grants ≡ kept.half.grants
  pub behind : Half
  pub sends : send_components table start (components_in m) ≡ Ok behind
  pub now : Half
  pub is_now : is_closed now.phase ≡ false → now ≡ behind
  pub turned : Turned table (Said m) kept.half now
  pub spoken : HasSpoken m now
  pub leads : send table e m ≡ Ok (put e kept.slot kept.key now)

-- Sending components leaves a half's phase, IDs and dialogue unchanged.
pub follows_stays : {table : Table} {deed : Deed} (h g : Half) → Follows h g → Turned table deed h g
follows_stays h g follows =
    stays (record { phase = follows.phase; own = follows.own; peer = follows.peer; dialogue_state = follows.dialogue_state })

-- ---- each message

module _ (table : Table) (e made : End) (sound : IsEnd e) where
  -- A Continue that answers a Begin.
  answer_over : (otid dtid : List ℕ) (dialogue : Option Dialogue) (components : Option (List Component))
      → with_own e otid ≡ None → send_first_continue table e otid dtid dialogue (items_of components) ≡ Ok made
      → IsOver table e (Continue otid dtid dialogue components) dtid
  answer_over otid dtid dialogue components none is =
      let (f, ok, step) = then_ok (ok_or (with_peer e dtid) faults.NoTransaction) _ made is in
      let found = some_ok _ _ f ok in
      let waits = needs_ok (is_received f.half.phase) faults.WrongPhase _ made step in
      let may = needs_ok (may_go_on f.half.phase f.half.dialogue_state dialogue) faults.WrongDialogue _ made waits.1 in
      let start = active_half Accepted otid f.half in
      let (g, sent, done) = then_ok (send_components table start (items_of components)) _ made may.1 in
      let had = peer_has e dtid sound f found in
      let at = received_is f.half.phase waits.0 in
      let peer = peer_is e dtid f found in
      let follows = (all_sends table (items_of components) start g sent).follows in
      let fits = rw at at (sound.halves f had).phase in
      let it : Answers (Said (Continue otid dtid dialogue components)) f.half g = record {
        id = otid;
        to = dtid;
        dialogue = dialogue;
        components = components;
        deed_is = refl;
        was = at;
        own_was = fits.0;
        peer_was = peer;
        phase = follows.phase;
        own = follows.own;
        peer = follows.peer ∙ peer;
        dialogue_state = follows.dialogue_state;
      } in
      record {
        kept = f;
        had = had;
        peer = peer;
        is_open = rw at refl;
        carries = may.0;
        no_cause = refl;
        speaks = inr (at, none);
        start = start;
        out = refl;
        inn = refl;
        grants = refl;
        behind = g;
        sends = sent;
        now = g;
        is_now = λ still. refl;
        turned = answers it;
        spoken = (follows.phase, follows.own);
        leads = ap (send_continue table e otid dtid dialogue (items_of components)) none ∙ is ∙ sym done;
      }

  -- A Continue over an active half.
  next_over : (otid dtid : List ℕ) (dialogue : Option Dialogue) (components : Option (List Component)) (f : KeyedHalf)
      → with_own e otid ≡ Some f → send_next_continue table e dtid dialogue (items_of components) f ≡ Ok made
      → IsOver table e (Continue otid dtid dialogue components) dtid
  next_over otid dtid dialogue components f found is =
      let active = needs_ok (is_active f.half.phase) faults.WrongPhase _ made is in
      let peer = needs_ok (is_id dtid f.half.peer) faults.NoTransaction _ made active.1 in
      let may = needs_ok (may_go_on f.half.phase f.half.dialogue_state dialogue) faults.WrongDialogue _ made peer.1 in
      let (g, sent, done) = then_ok (send_components table f.half (items_of components)) _ made may.1 in
      let at = active_is f.half.phase active.0 in
      let follows = (all_sends table (items_of components) f.half g sent).follows in
      record {
        kept = f;
        had = own_has e otid sound f found;
        peer = id_is dtid f.half.peer peer.0;
        is_open = rw at refl;
        carries = may.0;
        no_cause = refl;
        speaks = inl (at, own_is e otid f found);
        start = f.half;
        out = refl;
        inn = refl;
        grants = refl;
        behind = g;
        sends = sent;
        now = g;
        is_now = λ still. refl;
        turned = follows_stays f.half g follows;
        spoken = (follows.phase ∙ at, follows.own ∙ own_is e otid f found);
        leads = ap (send_continue table e otid dtid dialogue (items_of components)) found ∙ is ∙ sym done;
      }

  -- Any Continue.
  continue_over : (otid dtid : List ℕ) (dialogue : Option Dialogue) (components : Option (List Component))
      (o : Option KeyedHalf) → with_own e otid ≡ o
      → send_continue table e otid dtid dialogue (items_of components) o ≡ Ok made
      → IsOver table e (Continue otid dtid dialogue components) dtid
  continue_over otid dtid dialogue components None found is = answer_over otid dtid dialogue components found is
  continue_over otid dtid dialogue components (Some f) found is = next_over otid dtid dialogue components f found is

  -- An End.
  end_over : (dtid : List ℕ) (dialogue : Option Dialogue) (components : Option (List Component))
      → send_end table e dtid dialogue (items_of components) ≡ Ok made
      → IsOver table e (EndMessage dtid dialogue components) dtid
  end_over dtid dialogue components is =
      let (f, ok, step) = then_ok (ok_or (with_peer e dtid) faults.NoTransaction) _ made is in
      let found = some_ok _ _ f ok in
      let still = needs_ok (not (is_closed f.half.phase)) faults.WrongPhase _ made step in
      let may = needs_ok (may_go_on f.half.phase f.half.dialogue_state dialogue) faults.WrongDialogue _ made still.1 in
      let (g, sent, done) = then_ok (send_components table f.half (items_of components)) _ made may.1 in
      let follows = (all_sends table (items_of components) f.half g sent).follows in
      record {
        kept = f;
        had = peer_has e dtid sound f found;
        peer = peer_is e dtid f found;
        is_open = not-true _ still.0;
        carries = may.0;
        no_cause = refl;
        speaks = tt;
        start = f.half;
        out = refl;
        inn = refl;
        grants = refl;
        behind = g;
        sends = sent;
        now = closed_half g;
        is_now = λ still. cc;
        turned = closes (record {
          phase = refl;
          own = follows.own;
          peer = follows.peer;
          dialogue_state = refl;
          was_open = not-true _ still.0;
          ended = (dtid, refl, peer_is e dtid f found);
        });
        spoken = tt;
        leads = is ∙ sym done;
      }

  -- An Abort without cause.
  abort_over : (dtid : List ℕ) (reason : Option AbortReason) → send_abort e dtid reason ≡ Ok made
      → IsOver table e (Abort dtid reason) dtid
  abort_over dtid reason is =
      let dialogue = reason_dialogue reason in
      let user = needs_ok (is_none (reason_cause reason)) faults.WrongPhase _ made is in
      let (f, ok, step) = then_ok (ok_or (with_peer e dtid) faults.NoTransaction) _ made user.1 in
      let found = some_ok _ _ f ok in
      let still = needs_ok (not (is_closed f.half.phase)) faults.WrongPhase _ made step in
      let may = needs_ok (may_abort f.half.phase f.half.dialogue_state dialogue) faults.WrongDialogue _ made still.1 in
      record {
        kept = f;
        had = peer_has e dtid sound f found;
        peer = peer_is e dtid f found;
        is_open = not-true _ still.0;
        carries = may.0;
        no_cause = none_is (reason_cause reason) user.0;
        speaks = tt;
        start = f.half;
        out = refl;
        inn = refl;
        grants = refl;
        behind = f.half;
        sends = refl;
        now = closed_half f.half;
        is_now = λ still. cc;
        turned = closes (record {
          phase = refl;
          own = refl;
          peer = refl;
          dialogue_state = refl;
          was_open = not-true _ still.0;
          ended = (dtid, rw (user.0) refl, peer_is e dtid f found);
        });
        spoken = tt;
        leads = is ∙ sym may.1;
      }

  -- Each sent message with a destination ID goes over such a half.
  pub over : (m : Message) (id : List ℕ) → send table e m ≡ Ok made → dtid_in m ≡ Some id → IsOver table e m id
  over (Continue otid dtid dialogue components) id is to =
      let same : dtid ≡ id = cc in
      rw (← same) (continue_over otid dtid dialogue components (with_own e otid) refl is)
  over (EndMessage dtid dialogue components) id is to =
      let same : dtid ≡ id = cc in rw (← same) (end_over dtid dialogue components is)
  over (Abort dtid reason) id is to = let same : dtid ≡ id = cc in rw (← same) (abort_over dtid reason is)
  over m id is to = cc
