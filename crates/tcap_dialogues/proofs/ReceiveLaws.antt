-- Deliveries, provider's replies and hidden steps of an end, without the halves outside a part.
use Rattle.std.proofs.Common.{◌≡◌, ℕ, ℤ, Bool, true, false, cond, List, Option, Some, None, Result, Ok, is_none, refl, ap, ◌∙◌}
use Rattle.std.specs.Prelude.{not, ok_or}
use Rattle.std.proofs.lemmas.Bool.{and_parts}
use Rattle.tcap_parts.specs.declared.component.Component.{Component}
use Rattle.tcap_parts.specs.declared.dialogue.Dialogue.{Dialogue}
use Rattle.tcap_msg.specs.declared.message.Message.{Message}
use Rattle.tcap_msg.specs.declared.message.Message.TheVariants.{Unidirectional, Begin, Continue, End as EndMessage, Abort}
use Rattle.tcap_msg.specs.Parts.{items_of}
use Rattle.tcap_end.specs.declared.fault.EndFault.{EndFault}
use Rattle.tcap_end.specs.declared.fault.EndFault.TheVariants as faults
use Rattle.tcap_end.specs.declared.half.HalfName.{HalfName}
use Rattle.tcap_end.specs.declared.half.Phase.{Phase}
use Rattle.tcap_end.specs.declared.half.Phase.TheVariants as phases
use Rattle.tcap_end.specs.declared.half.Slot.TheVariants.{Begun, Accepted}
use Rattle.tcap_end.specs.Table.{Table}
use Rattle.tcap_end.specs.Half.{Half, closed_half, fresh, is_closed}
use Rattle.tcap_end.specs.Component.{own_invocation}
use Rattle.tcap_end.specs.End.{End, KeyedHalf, all_closed, named, nothing, put, quiet, with_own, with_peer}
use Rattle.tcap_end.specs.Dialogue.{first_dialogue_state}
use Rattle.tcap_end.specs.Message.{active_half, receive, receive_begin, receive_components, receive_continue, receive_end, receive_over}
use Rattle.tcap_end.specs.HiddenSteps.{close, expire, may_close, may_expire, without_invocation}
use Rattle.tcap_end.specs.ReachableEnd.{HasHalf, IsEnd}
use Rattle.tcap_end.proofs.AnsweringLaws.{needs_ok, some_ok, then_ok}
use Rattle.tcap_end.proofs.ComponentLaws.{Receives, all_receives}
use Rattle.tcap_end.proofs.FoundLaws.{named_has, own_has}
use Rattle.tcap_model.specs.Run.{reply_to}
use Rattle.tcap_model.proofs.SentMoves.{own_is}
use Rattle.tcap_dialogues.proofs.ThinLaws.{closed_thin}
use Rattle.tcap_dialogues.proofs.InsideLaws.{Matches, Thins, found_so_on, inside, named_in, named_place, named_same, needs_so, own_place, own_same, peer_same, thins_none, thins_put}
use Rattle.tcap_dialogues.proofs.SendLaws.{Fits, agrees_as, agrees_of, none_some}

module _ (own peer : List ℕ → Bool) (table : Table) (e : End) (k : Bool) (sound : IsEnd e) (matches : Matches own peer e) where
  -- ---- receiving

  -- a Begin
  begin_thins : (next : End) (otid : List ℕ) (dialogue : Option Dialogue) (components : List Component) → peer otid ≡ k
      → receive_begin table e otid dialogue components ≡ Ok next
      → Thins own peer k (λ x. receive_begin table x otid dialogue components) e next
  begin_thins next otid dialogue components there is =
      let free = needs_ok _ _ _ next is in
      thins_put own peer e next Accepted otid _ sound matches free.1 there
      (λ o p is_o is_p. none_some o comes.follows.own is_o)
      (λ inside_it. needs_so _ (ap is_none (peer_same own peer e otid sound matches (there ∙ inside_it)) ∙ free.0) refl)
    where
      start : Half
      start = fresh phases.Received None (Some otid) (first_dialogue_state dialogue)

      comes : Receives start (receive_components table start components)
      comes = all_receives table components start

  -- a Continue that reaches a half
  over_thins : (next : End) (otid dtid : List ℕ) (dialogue : Option Dialogue) (components : List Component) (f : KeyedHalf)
      → peer otid ≡ k → own dtid ≡ k → HasHalf e f → f.half.own ≡ Some dtid → (p : Phase)
      → receive_over table e otid dialogue components f p ≡ Ok next
      → Thins own peer k (λ x. receive_over table x otid dialogue components f p) e next
  over_thins next otid dtid dialogue components f there here had of_own phases.Sent is =
      let free = needs_ok _ _ _ next is in
      let asked = needs_ok _ _ _ next free.1 in
      let follows = (all_receives table components (active_half Begun otid f.half)).follows in
      thins_put own peer e next f.slot f.key (receive_components table (active_half Begun otid f.half) components) sound matches asked.1
      (own_place own peer e f dtid sound matches had of_own ∙ here)
      (agrees_of own peer k (receive_components table (active_half Begun otid f.half) components) dtid otid (follows.own ∙ of_own) follows.peer here there)
      (λ inside_it. needs_so _ (ap is_none (peer_same own peer e otid sound matches (there ∙ inside_it)) ∙ free.0) (needs_so _ asked.0 refl))
  over_thins next otid dtid dialogue components f there here had of_own phases.Active is =
      let peers = needs_ok _ _ _ next is in
      let follows = (all_receives table components f.half).follows in
      thins_put own peer e next f.slot f.key (receive_components table f.half components) sound matches peers.1
      (own_place own peer e f dtid sound matches had of_own ∙ here)
      (agrees_as own peer f.half (receive_components table f.half components) follows.own follows.peer (matches.agree f had))
      (λ inside_it. needs_so _ peers.0 refl)
  over_thins next otid dtid dialogue components f there here had of_own phases.Received is = cc
  over_thins next otid dtid dialogue components f there here had of_own phases.Closed is = cc

  -- a Continue
  continue_thins : (next : End) (otid dtid : List ℕ) (dialogue : Option Dialogue) (components : List Component) → peer otid ≡ k → own dtid ≡ k
      → receive_continue table e otid dtid dialogue components ≡ Ok next
      → Thins own peer k (λ x. receive_continue table x otid dtid dialogue components) e next
  continue_thins next otid dtid dialogue components there here is =
      let (f, ok, step) = then_ok (ok_or (with_own e dtid) faults.NoTransaction) _ next is in
      let found = some_ok _ _ f ok in
      let over = over_thins next otid dtid dialogue components f there here (own_has e dtid sound f found) (own_is e dtid f found)
      f.half.phase step in
      record {
        matches = over.matches;
        kept = λ inside_it. found_so_on _ _ f (own_same own peer e dtid sound matches (here ∙ inside_it) ∙ found) (over.kept inside_it);
        apart = over.apart;
      }

  -- an End or an Abort
  end_thins : (next : End) (dtid : List ℕ) → own dtid ≡ k
      → (let r : Result End EndFault = Ok (receive_end e (with_own e dtid)) in r) ≡ Ok next
      → Thins own peer k (λ x. Ok (receive_end x (with_own x dtid))) e next
  end_thins next dtid here is = by (with_own e dtid) refl is
    where
      same : k ≡ true → with_own (inside own peer e) dtid ≡ with_own e dtid
      same inside_it = own_same own peer e dtid sound matches (here ∙ inside_it)

      at : (f : KeyedHalf) → with_own e dtid ≡ Some f → (b : Bool) → is_closed f.half.phase ≡ b
          → (let r : Result End EndFault = Ok (cond b e (put e f.slot f.key (closed_half f.half))) in r) ≡ Ok next
          → Thins own peer k (λ x. Ok (receive_end x (with_own x dtid))) e next
      at f found true shut is = thins_none own peer e next matches is (λ inside_it. rw (same inside_it ∙ found, shut) refl)
      at f found false shut is =
          let had = own_has e dtid sound f found in
          thins_put own peer e next f.slot f.key (closed_half f.half) sound matches is
          (own_place own peer e f dtid sound matches had (own_is e dtid f found) ∙ here)
          (agrees_as own peer f.half (closed_half f.half) refl refl (matches.agree f had))
          (λ inside_it. rw (same inside_it ∙ found, shut) refl)

      by : (o : Option KeyedHalf) → with_own e dtid ≡ o
          → (let r : Result End EndFault = Ok (receive_end e o) in r) ≡ Ok next
          → Thins own peer k (λ x. Ok (receive_end x (with_own x dtid))) e next
      by None found is = thins_none own peer e next matches is (λ inside_it. rw (same inside_it ∙ found) refl)
      by (Some f) found is = at f found (is_closed f.half.phase) refl is

  -- any message
  pub receive_thins : (next : End) (m : Message) → Fits peer own k m → receive table e m ≡ Ok next
      → Thins own peer k (λ x. receive table x m) e next
  receive_thins next m fits is = by m fits is
    where
      by : (m : Message) → Fits peer own k m → receive table e m ≡ Ok next → Thins own peer k (λ x. receive table x m) e next
      by (Unidirectional dialogue components) fits is = thins_none own peer e next matches is (λ inside_it. refl)
      by (Begin otid dialogue components) fits is = begin_thins next otid dialogue (items_of components) (fits.origin otid refl) is
      by (Continue otid dtid dialogue components) fits is =
          continue_thins next otid dtid dialogue (items_of components) (fits.origin otid refl) (fits.destination dtid refl) is
      by (EndMessage dtid dialogue components) fits is = end_thins next dtid (fits.destination dtid refl) is
      by (Abort dtid reason) fits is = end_thins next dtid (fits.destination dtid refl) is

  -- ---- expiries and closings

  -- an expiry
  pub expire_thins : (next : End) (name : HalfName) (id : ℤ) → named_in own peer name ≡ k → expire table e name id ≡ Ok next
      → Thins own peer k (λ x. expire table x name id) e next
  expire_thins next name id here is =
      let (f, ok, step) = then_ok (ok_or (named e name) faults.CannotExpire) _ next is in
      let found = some_ok _ _ f ok in
      let open_one = needs_ok (not (is_closed f.half.phase)) faults.CannotExpire _ next step in
      let may = needs_ok (may_expire table (own_invocation f.half id)) faults.CannotExpire _ next open_one.1 in
      thins_put own peer e next f.slot f.key (without_invocation id f.half) sound matches may.1
      (named_place own peer e name f sound matches found ∙ here)
      (agrees_as own peer f.half (without_invocation id f.half) refl refl (matches.agree f (named_has e name sound f found)))
      (λ inside_it. found_so_on _ _ f (named_same own peer e name sound matches (here ∙ inside_it) ∙ found)
      (needs_so faults.CannotExpire open_one.0 (needs_so faults.CannotExpire may.0 refl)))

  -- a closing
  pub close_thins : (next : End) (name : HalfName) → named_in own peer name ≡ k → close table e name ≡ Ok next
      → Thins own peer k (λ x. close table x name) e next
  close_thins next name here is =
      let (f, ok, step) = then_ok (ok_or (named e name) faults.CannotClose) _ next is in
      let found = some_ok _ _ f ok in
      let may = needs_ok (may_close table f.half.phase) faults.CannotClose _ next step in
      thins_put own peer e next f.slot f.key (closed_half f.half) sound matches may.1
      (named_place own peer e name f sound matches found ∙ here)
      (agrees_as own peer f.half (closed_half f.half) refl refl (matches.agree f (named_has e name sound f found)))
      (λ inside_it. found_so_on _ _ f (named_same own peer e name sound matches (here ∙ inside_it) ∙ found)
      (needs_so faults.CannotClose may.0 refl))

module _ (own peer : List ℕ → Bool) (e : End) (sound : IsEnd e) (matches : Matches own peer e) where
  -- ---- a provider

  -- The provider's answer is the same.
  pub reply_same : (m : Message) → Fits peer own true m → reply_to (inside own peer e) m ≡ reply_to e m
  reply_same (Unidirectional dialogue components) fits = refl
  reply_same (Begin otid dialogue components) fits =
      let same : with_peer (inside own peer e) otid ≡ with_peer e otid = peer_same own peer e otid sound matches (fits.origin otid refl) in
      rw same refl
  reply_same (Continue otid dtid dialogue components) fits =
      let same : with_own (inside own peer e) dtid ≡ with_own e dtid = own_same own peer e dtid sound matches (fits.destination dtid refl) in
      rw same refl
  reply_same (EndMessage dtid dialogue components) fits = refl
  reply_same (Abort dtid reason) fits = refl

-- ---- quiet marks

-- If an end is quiet, so is its part.
pub quiet_thins : (own peer : List ℕ → Bool) (e : End) → quiet e ≡ Ok nothing → quiet (inside own peer e) ≡ Ok nothing
quiet_thins own peer e is =
    let all = and_parts (all_closed e.begun) (all_closed e.accepted) (needs_ok _ faults.StillOpen _ nothing is).0 in
    rw (closed_thin own e.begun all.0, closed_thin peer e.accepted all.1) refl
