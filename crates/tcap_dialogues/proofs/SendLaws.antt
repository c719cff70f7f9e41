-- Sendings of an end without the halves outside a part, if the message is in the part.
use Rattle.std.proofs.Common.{◌≡◌, ℕ, Bool, true, List, [], Option, Some, None, Result, Ok, Err, is_none, refl, sym, ap, ◌∙◌}
use Rattle.std.specs.Prelude.{not, ok_or}
use Rattle.tcap_parts.specs.declared.component.Component.{Component}
use Rattle.tcap_parts.specs.declared.dialogue.Dialogue.{Dialogue}
use Rattle.tcap_msg.specs.declared.message.AbortReason.{AbortReason}
use Rattle.tcap_msg.specs.declared.message.Message.{Message}
use Rattle.tcap_msg.specs.declared.message.Message.TheVariants.{Unidirectional, Begin, Continue, End as EndMessage, Abort}
use Rattle.tcap_msg.specs.Parts.{dtid_in, items_of, otid_in, reason_dialogue}
use Rattle.tcap_end.specs.declared.fault.EndFault.{EndFault}
use Rattle.tcap_end.specs.declared.fault.EndFault.TheVariants as faults
use Rattle.tcap_end.specs.declared.half.Phase.TheVariants as phases
use Rattle.tcap_end.specs.declared.half.Slot.TheVariants.{Begun, Accepted}
use Rattle.tcap_end.specs.Step.{◌>>◌}
use Rattle.tcap_end.specs.Table.{Table}
use Rattle.tcap_end.specs.Half.{Half, closed_half, fresh, is_closed}
use Rattle.tcap_end.specs.End.{End, KeyedHalf, is_id, put, with_own, with_peer}
use Rattle.tcap_end.specs.Dialogue.{first_dialogue_state, may_abort, may_be_uni, may_go_on}
use Rattle.tcap_end.specs.Message.{active_half, is_active, is_received, send, send_abort, send_begin, send_components, send_continue, send_end, send_first_continue, send_next_continue, send_uni, send_uni_components}
use Rattle.tcap_end.specs.ReachableEnd.{IsEnd}
use Rattle.tcap_end.proofs.AnsweringLaws.{needs_ok, some_ok, then_ok}
use Rattle.tcap_end.proofs.ComponentLaws.{all_sends}
use Rattle.tcap_end.proofs.FoundLaws.{own_has, peer_has}
use Rattle.tcap_model.proofs.SentMoves.{own_is, peer_is}
use Rattle.tcap_dialogues.proofs.InsideLaws.{Agrees, Matches, Thins, found_so_on, inside, needs_so, own_place, own_same, peer_place, peer_same, then_so_on, thins_none, thins_put}

-- The IDs of a message are all inside, or all outside.
pub record Fits (of_origin of_destination : List ℕ → Bool) (k : Bool) (m : Message) : Type 0 where
  pub origin : (id : List ℕ) → otid_in m ≡ Some id → of_origin id ≡ k
  pub destination : (id : List ℕ) → dtid_in m ≡ Some id → of_destination id ≡ k

-- None is not an ID.
pub none_some : {P : Type 0} {o : Option (List ℕ)} (id : List ℕ) → o ≡ None → o ≡ Some id → P
none_some id none some = cc

-- A half with the IDs of one that agrees agrees.
pub agrees_as : (own peer : List ℕ → Bool) (h g : Half) → g.own ≡ h.own → g.peer ≡ h.peer → Agrees own peer h → Agrees own peer g
agrees_as own peer h g same_own same_peer agrees o p is_o is_p = agrees o p (sym same_own ∙ is_o) (sym same_peer ∙ is_p)

-- A half with these IDs agrees if both are inside, or both outside.
pub agrees_of : (own peer : List ℕ → Bool) (k : Bool) (g : Half) (o p : List ℕ) → g.own ≡ Some o → g.peer ≡ Some p → own o ≡ k → peer p ≡ k
    → Agrees own peer g
agrees_of own peer k g o p is_o is_p at_o at_p x y is_x is_y =
    let same_x : o ≡ x = cc in
    let same_y : p ≡ y = cc in
    ap own (sym same_x) ∙ at_o ∙ sym at_p ∙ ap peer same_y

module _ (own peer : List ℕ → Bool) (table : Table) (e : End) (k : Bool) (sound : IsEnd e) (matches : Matches own peer e) where
  -- a Begin
  begin_thins : (next : End) (otid : List ℕ) (dialogue : Option Dialogue) (components : List Component) → own otid ≡ k
      → send_begin table e otid dialogue components ≡ Ok next
      → Thins own peer k (λ x. send_begin table x otid dialogue components) e next
  begin_thins next otid dialogue components here is =
      let free = needs_ok _ _ _ next is in
      let may = needs_ok _ _ _ next free.1 in
      let (g, made, putting) = then_ok (send_components table start components) _ next may.1 in
      let follows = (all_sends table components start g made).follows in
      thins_put own peer e next Begun otid g sound matches putting here (λ o p is_o is_p. none_some p follows.peer is_p)
      (λ inside_it. needs_so _ (ap is_none (own_same own peer e otid sound matches (here ∙ inside_it)) ∙ free.0)
      (needs_so _ may.0 (then_so_on _ g made refl)))
    where
      start : Half
      start = fresh phases.Sent (Some otid) None (first_dialogue_state dialogue)

  -- the first Continue
  first_thins : (next : End) (otid dtid : List ℕ) (dialogue : Option Dialogue) (components : List Component) → own otid ≡ k → peer dtid ≡ k
      → send_first_continue table e otid dtid dialogue components ≡ Ok next
      → Thins own peer k (λ x. send_first_continue table x otid dtid dialogue components) e next
  first_thins next otid dtid dialogue components here there is =
      let (f, ok, step) = then_ok (ok_or (with_peer e dtid) faults.NoTransaction) _ next is in
      let found = some_ok _ _ f ok in
      let waits = needs_ok (is_received f.half.phase) faults.WrongPhase _ next step in
      let may = needs_ok (may_go_on f.half.phase f.half.dialogue_state dialogue) faults.WrongDialogue _ next waits.1 in
      let (g, made, putting) = then_ok (send_components table (active_half Accepted otid f.half) components) (λ half. Ok (put e f.slot f.key half))
      next may.1 in
      let follows = (all_sends table components (active_half Accepted otid f.half) g made).follows in
      let of_peer = peer_is e dtid f found in
      thins_put own peer e next f.slot f.key g sound matches putting
      (peer_place own peer e f dtid sound matches (peer_has e dtid sound f found) of_peer ∙ there)
      (agrees_of own peer k g otid dtid follows.own (follows.peer ∙ of_peer) here there)
      (λ inside_it. found_so_on _ _ f (peer_same own peer e dtid sound matches (there ∙ inside_it) ∙ found)
      (needs_so faults.WrongPhase waits.0 (needs_so faults.WrongDialogue may.0
      (then_so_on (λ half. Ok (put (inside own peer e) f.slot f.key half)) g made refl))))

  -- a later Continue
  next_thins : (next : End) (otid dtid : List ℕ) (dialogue : Option Dialogue) (components : List Component) (f : KeyedHalf) → own otid ≡ k
      → with_own e otid ≡ Some f → send_next_continue table e dtid dialogue components f ≡ Ok next
      → Thins own peer k (λ x. send_next_continue table x dtid dialogue components f) e next
  next_thins next otid dtid dialogue components f here found is =
      let active = needs_ok (is_active f.half.phase) faults.WrongPhase _ next is in
      let peers = needs_ok (is_id dtid f.half.peer) faults.NoTransaction _ next active.1 in
      let may = needs_ok (may_go_on f.half.phase f.half.dialogue_state dialogue) faults.WrongDialogue _ next peers.1 in
      let (g, made, putting) = then_ok (send_components table f.half components) (λ half. Ok (put e f.slot f.key half)) next may.1 in
      let follows = (all_sends table components f.half g made).follows in
      let had = own_has e otid sound f found in
      thins_put own peer e next f.slot f.key g sound matches putting
      (own_place own peer e f otid sound matches had (own_is e otid f found) ∙ here)
      (agrees_as own peer f.half g follows.own follows.peer (matches.agree f had))
      (λ inside_it. needs_so faults.WrongPhase active.0 (needs_so faults.NoTransaction peers.0 (needs_so faults.WrongDialogue may.0
      (then_so_on (λ half. Ok (put (inside own peer e) f.slot f.key half)) g made refl))))

  -- a Continue
  continue_thins : (next : End) (otid dtid : List ℕ) (dialogue : Option Dialogue) (components : List Component) → own otid ≡ k → peer dtid ≡ k
      → send_continue table e otid dtid dialogue components (with_own e otid) ≡ Ok next
      → Thins own peer k (λ x. send_continue table x otid dtid dialogue components (with_own x otid)) e next
  continue_thins next otid dtid dialogue components here there is = by (with_own e otid) refl is
    where
      same : k ≡ true → with_own (inside own peer e) otid ≡ with_own e otid
      same inside_it = own_same own peer e otid sound matches (here ∙ inside_it)

      by : (o : Option KeyedHalf) → with_own e otid ≡ o → send_continue table e otid dtid dialogue components o ≡ Ok next
          → Thins own peer k (λ x. send_continue table x otid dtid dialogue components (with_own x otid)) e next
      by None found is =
          let thins = first_thins next otid dtid dialogue components here there is in
          record {
            matches = thins.matches;
            kept = λ inside_it. rw (same inside_it ∙ found) (thins.kept inside_it);
            apart = thins.apart;
          }
      by (Some f) found is =
          let thins = next_thins next otid dtid dialogue components f here found is in
          record {
            matches = thins.matches;
            kept = λ inside_it. rw (same inside_it ∙ found) (thins.kept inside_it);
            apart = thins.apart;
          }

  -- an End
  end_thins : (next : End) (dtid : List ℕ) (dialogue : Option Dialogue) (components : List Component) → peer dtid ≡ k
      → send_end table e dtid dialogue components ≡ Ok next
      → Thins own peer k (λ x. send_end table x dtid dialogue components) e next
  end_thins next dtid dialogue components there is =
      let (f, ok, step) = then_ok (ok_or (with_peer e dtid) faults.NoTransaction) _ next is in
      let found = some_ok _ _ f ok in
      let had = peer_has e dtid sound f found in
      let open_one = needs_ok (not (is_closed f.half.phase)) faults.WrongPhase _ next step in
      let may = needs_ok (may_go_on f.half.phase f.half.dialogue_state dialogue) faults.WrongDialogue _ next open_one.1 in
      let (g, made, putting) = then_ok (send_components table f.half components) (λ half. Ok (put e f.slot f.key (closed_half half))) next may.1 in
      let follows = (all_sends table components f.half g made).follows in
      thins_put own peer e next f.slot f.key (closed_half g) sound matches putting
      (peer_place own peer e f dtid sound matches had (peer_is e dtid f found) ∙ there)
      (agrees_as own peer f.half (closed_half g) follows.own follows.peer (matches.agree f had))
      (λ inside_it. found_so_on _ _ f (peer_same own peer e dtid sound matches (there ∙ inside_it) ∙ found)
      (needs_so faults.WrongPhase open_one.0 (needs_so faults.WrongDialogue may.0
      (then_so_on (λ half. Ok (put (inside own peer e) f.slot f.key (closed_half half))) g made refl))))

  -- an Abort
  abort_thins : (next : End) (dtid : List ℕ) (reason : Option AbortReason) → peer dtid ≡ k → send_abort e dtid reason ≡ Ok next
      → Thins own peer k (λ x. send_abort x dtid reason) e next
  abort_thins next dtid reason there is =
      let user = needs_ok _ _ _ next is in
      let (f, ok, step) = then_ok (ok_or (with_peer e dtid) faults.NoTransaction) _ next user.1 in
      let found = some_ok _ _ f ok in
      let had = peer_has e dtid sound f found in
      let open_one = needs_ok (not (is_closed f.half.phase)) faults.WrongPhase _ next step in
      let may = needs_ok (may_abort f.half.phase f.half.dialogue_state (reason_dialogue reason)) faults.WrongDialogue _ next open_one.1 in
      thins_put own peer e next f.slot f.key (closed_half f.half) sound matches may.1
      (peer_place own peer e f dtid sound matches had (peer_is e dtid f found) ∙ there)
      (agrees_as own peer f.half (closed_half f.half) refl refl (matches.agree f had))
      (λ inside_it. needs_so _ user.0 (found_so_on _ _ f (peer_same own peer e dtid sound matches (there ∙ inside_it) ∙ found)
      (needs_so faults.WrongPhase open_one.0 (needs_so faults.WrongDialogue may.0 refl))))

  -- a Unidirectional
  uni_thins : (next : End) (dialogue : Option Dialogue) (components : List Component) → send_uni table e dialogue components ≡ Ok next
      → Thins own peer k (λ x. send_uni table x dialogue components) e next
  uni_thins next dialogue components is =
      let may = needs_ok _ _ _ next is in
      by (send_uni_components table [] components) refl may.0 may.1
    where
      by : (r : Result (Unit {0}) EndFault) → send_uni_components table [] components ≡ r → may_be_uni dialogue ≡ true
          → (r >> Ok e) ≡ Ok next → Thins own peer k (λ x. send_uni table x dialogue components) e next
      by (Ok done) made may is = thins_none own peer e next matches is (λ inside_it. needs_so _ may (rw made refl))
      by (Err reason) made may is = cc

  -- any message
  pub send_thins : (next : End) (m : Message) → Fits own peer k m → send table e m ≡ Ok next → Thins own peer k (λ x. send table x m) e next
  send_thins next m fits is = by m fits is
    where
      by : (m : Message) → Fits own peer k m → send table e m ≡ Ok next → Thins own peer k (λ x. send table x m) e next
      by (Unidirectional dialogue components) fits is = uni_thins next dialogue components is
      by (Begin otid dialogue components) fits is = begin_thins next otid dialogue (items_of components) (fits.origin otid refl) is
      by (Continue otid dtid dialogue components) fits is =
          continue_thins next otid dtid dialogue (items_of components) (fits.origin otid refl) (fits.destination dtid refl) is
      by (EndMessage dtid dialogue components) fits is = end_thins next dtid dialogue (items_of components) (fits.destination dtid refl) is
      by (Abort dtid reason) fits is = abort_thins next dtid reason (fits.destination dtid refl) is
