-- No reply of a provider has F14: it answers something that is left (Q.774 3.3).
use Rattle.std.proofs.Common.{◌≡◌, ◌⊎◌, inl, inr, ℕ, ◌+◌, ◌<◌, ◌≤◌, arith, Bool, true, false, cond, List, [], ◌∷◌, Option, Some, None, not, refl, ap, ◌∙◌}
use Rattle.std.specs.Prelude.{Contains, ◌&&◌, ◌||◌, nat_lt}
use Rattle.std.proofs.lemmas.Bool.{and_from, and_parts, both_ways, ltb-true, not-true, or_cases}
use Rattle.tcap_msg.specs.declared.kind.Kind.TheVariants as forms
use Rattle.tcap_msg.specs.declared.message.Message.{Message}
use Rattle.tcap_msg.specs.Parts.{dtid_in, otid_in}
use Rattle.tcap_record.specs.declared.entry.End.{End as Side}
use Rattle.tcap_end.specs.declared.half.Phase.TheVariants as phases
use Rattle.tcap_end.specs.declared.half.Slot.TheVariants as slots
use Rattle.tcap_end.specs.Table.{Table}
use Rattle.tcap_end.specs.Half.{is_closed}
use Rattle.tcap_end.specs.End.{End, KeyedHalf, is_id, with_own, with_peer}
use Rattle.tcap_end.specs.Reply.{is_open}
use Rattle.tcap_end.specs.ReachableEnd.{HasHalf, IsEnd}
use Rattle.tcap_end.proofs.FoundLaws.{none_own, none_peer, own_has, is_that_id}
use Rattle.tcap_record.specs.Ends.{other}
use Rattle.tcap_model.specs.World.{Item}
use Rattle.tcap_refute.specs.EarlierMessages.{peer_sent_from, has_a, is_a, sent_by}
use Rattle.tcap_model.proofs.UsedLaws.{one_half}
use Rattle.tcap_refute.proofs.Members.{any_has, filter_has, has_first}
use Rattle.tcap_model.proofs.SentMoves.{own_is}
use Rattle.tcap_faults.specs.ClosedHalves.{all_go_to_open, is_surely_open}
use Rattle.tcap_faults.specs.Counts.{count, is_nothing}
use Rattle.tcap_faults.specs.SentToId.{is_abort_with, outgoing, was_refused}
use Rattle.tcap_faults.specs.declared.dialogue.half_origin.HalfOrigin.TheVariants.{Accepted, Begun, Refused, Unanswered}
use Rattle.tcap_faults.specs.Fault.{count_received, is_wrong_reply}
use Rattle.tcap_faults.specs.HalfKinds.{is_accepted}
use Rattle.tcap_faults.specs.HalfByPeerId.{begun_from, half_by, half_of}
use Rattle.tcap_faults.proofs.list_laws.CountLaws.{any_counts, one}
use Rattle.tcap_faults.proofs.view_laws.AskedLaws.{OfBegins, OfContinues, all_paid, comes_from, taken_head}
use Rattle.tcap_faults.proofs.view_laws.BegunHalfLaws.{outgoing_half}
use Rattle.tcap_faults.proofs.view_laws.ActiveHalfLaws.{surely_open}
use Rattle.tcap_faults.proofs.view_laws.ViewLaws.{View, view_comes, view_sound}
use Rattle.tcap_faults.proofs.kind_laws.HalfFacts.{either_slot, stands_so}

-- ---- how a half began

not_accepted_either : (b : Bool) → is_accepted (cond b Unanswered Begun) ≡ false
not_accepted_either b = grind arith

-- A half is accepted exactly if the peer sent a Begin and the provider did not refuse it.
pub accepted_stands : (side : Side) (items : List Item) (id : List ℕ)
    → is_accepted (half_of side items id).origin
    ≡ (has_a forms.Begin (peer_sent_from side id items) && not (was_refused side id items))
accepted_stands side items id = by (has_a forms.Begin (peer_sent_from side id items)) (begun_from side items id)
  where
    refused_or : (r : Bool) → is_accepted (cond r Refused Accepted) ≡ not r
    refused_or r = grind arith

    by : (b : Bool) (own : Option (List ℕ))
        → is_accepted (half_by side items id b own).origin ≡ (b && not (was_refused side id items))
    by true own = refused_or (was_refused side id items)
    by false None = refl
    by false (Some own) = not_accepted_either _

-- ---- a reply

-- A list that is not empty has an element.
some_there : {A : Type 0} (xs : List A) → not (is_nothing xs) ≡ true → (x : A) × Contains xs x
some_there [] is = cc
some_there (x ∷ xs) is = (x, has_first x xs)

-- No Continue counts as received, or something was sent and no Begin is accepted.
received_or : (b c : Bool) → (let n : ℕ = cond (b || c) 0 1 in n ≡ 0) ⊎ ((not b ≡ true) × (c ≡ false))
received_or true c = inl refl
received_or false true = inl refl
received_or false false = inr (refl, refl)

-- At most one Continue counts as received.
received_most : (b c : Bool) → cond (b || c) 0 1 ≤ 1
received_most b c = grind arith

-- A provider of an end replies with an Abort to a message that is on its way.
module _ {table : Table} {side : Side} {e : End} {coming : List Message} {items : List Item} (m : Message)
    (view : View table side e (m ∷ coming) items) where
  is_end : IsEnd e
  is_end = view_sound view

  -- If something was sent to an ID, the end has a half with this peer.
  half_outgoing : (id : List ℕ) → not (is_nothing (outgoing side id items)) ≡ true
      → (f : KeyedHalf) × HasHalf e f × (f.half.peer ≡ Some id)
  half_outgoing id some = let (n, has) = some_there (outgoing side id items) some in outgoing_half view n id has

  -- The message is among those that the peer sent from its ID.
  was_asked : (id : List ℕ) → otid_in m ≡ Some id → Contains (peer_sent_from side id items) m
  was_asked id from =
      filter_has (λ n. is_id id (otid_in n)) (sent_by (other side) items) m (view_comes m view)
      (is_that_id id (otid_in m) from)

  -- ---- a Begin that is refused

  pub begin_left : (id : List ℕ) → is_a forms.Begin m ≡ true → otid_in m ≡ Some id → with_peer e id ≡ None
      → count (is_a forms.Begin) (peer_sent_from side id items) < 2
      → is_wrong_reply table side id items (half_of side items id) 4 ≡ true → ⊥
  begin_left id begins from none few is = by (or_cases (not (is_accepted (half_of side items id).origin)) _ is)
    where
      not_refused : (b : Bool) → was_refused side id items ≡ b → not b ≡ true
      not_refused true refused =
          let paid = (all_paid view OfBegins id).all in
          let head = taken_head side OfBegins id coming items m in
          let here : one (comes_from OfBegins id m) ≡ 1 =
          ap one (and_from (is_a forms.Begin m) _ begins (is_that_id id (otid_in m) from)) in
          let before = any_counts (is_abort_with 4 id) (sent_by side items) refused in absurd (omega arith)
      not_refused false refused = refl

      accepts : is_accepted (half_of side items id).origin ≡ true
      accepts =
          accepted_stands side items id
          ∙ and_from (has_a forms.Begin (peer_sent_from side id items)) _
          (any_has (is_a forms.Begin) (peer_sent_from side id items) m (was_asked id from) begins)
          (not_refused (was_refused side id items) refl)

      by : (not (is_accepted (half_of side items id).origin) ≡ true) ⊎ (not (is_nothing (outgoing side id items)) ≡ true) → ⊥
      by (inl never) = both_ways (is_accepted (half_of side items id).origin) (not-true _ never) accepts
      by (inr some) = let (f, had, peer) = half_outgoing id some in none_peer e id f none had peer

  -- ---- a Continue that is refused

  -- At most as many Continues are answered or received as were sent.
  not_more : (id : List ℕ) → is_a forms.Continue m ≡ true → otid_in m ≡ Some id
      → count (is_a forms.Begin) (peer_sent_from side id items) < 2
      → count (is_a forms.Continue) (peer_sent_from side id items)
      < count (is_abort_with 1 id) (sent_by side items) + 1 + count_received side id items (half_of side items id) → ⊥
  not_more id goes from few more = by (received_or (is_nothing (outgoing side id items)) (is_accepted (half_of side items id).origin))
    where
      here : one (comes_from OfContinues id m) ≡ 1
      here = ap one (and_from (is_a forms.Continue m) _ goes (is_that_id id (otid_in m) from))

      begun : not (is_nothing (outgoing side id items)) ≡ true → is_accepted (half_of side items id).origin ≡ false → ⊥
      begun some never =
          let (f, had, peer) = half_outgoing id some in of f had peer (either_slot f.slot)
        where
          of : (f : KeyedHalf) → HasHalf e f → f.half.peer ≡ Some id → (f.slot ≡ slots.Begun) ⊎ (f.slot ≡ slots.Accepted) → ⊥
          of f had peer (inl slot) =
              let paid = (all_paid view OfContinues id).half f had (slot, peer) in
              let head = taken_head side OfContinues id coming items m in
              let counted = here in
              let most = received_most (is_nothing (outgoing side id items)) (is_accepted (half_of side items id).origin) in
              absurd (omega arith)
          of f had peer (inr slot) =
              let (begun, kept) = stands_so view id f had peer few slot in
              both_ways (is_accepted (half_of side items id).origin) never
              (accepted_stands side items id ∙ and_from (has_a forms.Begin (peer_sent_from side id items)) _ begun (ap not kept))

      by : (count_received side id items (half_of side items id) ≡ 0)
          ⊎ ((not (is_nothing (outgoing side id items)) ≡ true) × (is_accepted (half_of side items id).origin ≡ false)) → ⊥
      by (inl none) =
          let paid = (all_paid view OfContinues id).all in
          let head = taken_head side OfContinues id coming items m in
          let counted = here in absurd (omega arith)
      by (inr (some, never)) = begun some never

  -- Not all Continues go to halves that are open.
  not_open : (id to : List ℕ) → is_a forms.Continue m ≡ true → otid_in m ≡ Some id → dtid_in m ≡ Some to
      → is_open (with_own e to) ≡ false → all_go_to_open table side items (peer_sent_from side id items) ≡ true → ⊥
  not_open id to goes from dtid shut all =
      by (is_surely_open table side items to) refl
    where
      active : is_surely_open table side items to ≡ true → ⊥
      active sure =
          let (f, had, own, at) = surely_open view to sure in of (with_own e to) refl shut f had own at
        where
          of : (o : Option KeyedHalf) → with_own e to ≡ o → is_open o ≡ false → (f : KeyedHalf) → HasHalf e f
              → f.half.own ≡ Some to → f.half.phase ≡ phases.Active → ⊥
          of None none shut f had own at = none_own e to f none had own
          of (Some g) found shut f had own at =
              let in_g = own_has e to is_end g found in
              let same = one_half e f g had in_g (is_end.one_own f g to had in_g own (own_is e to g found)) in
              let still : not (is_closed g.half.phase) ≡ true = rw (same, at) refl in
              both_ways (not (is_closed g.half.phase)) shut still

      by : (b : Bool) → is_surely_open table side items to ≡ b → ⊥
      by true sure = active sure
      by false sure =
          let (some, none) = and_parts (has_a forms.Continue (peer_sent_from side id items)) _ all in
          both_ways _ (not-true _ none)
          (any_has _ (peer_sent_from side id items) m (was_asked id from)
          (and_from (is_a forms.Continue m) _ goes (rw (dtid, sure) refl)))

  pub continue_left : (id to : List ℕ) → is_a forms.Continue m ≡ true → otid_in m ≡ Some id → dtid_in m ≡ Some to
      → is_open (with_own e to) ≡ false → count (is_a forms.Begin) (peer_sent_from side id items) < 2
      → is_wrong_reply table side id items (half_of side items id) 1 ≡ true → ⊥
  continue_left id to goes from dtid shut few is =
      by (or_cases (nat_lt (count (is_a forms.Continue) (peer_sent_from side id items))
      (count (is_abort_with 1 id) (sent_by side items) + 1 + count_received side id items (half_of side items id))
      || all_go_to_open table side items (peer_sent_from side id items)) false is)
    where
      first : (nat_lt (count (is_a forms.Continue) (peer_sent_from side id items))
          (count (is_abort_with 1 id) (sent_by side items) + 1 + count_received side id items (half_of side items id)) ≡ true)
          ⊎ (all_go_to_open table side items (peer_sent_from side id items) ≡ true) → ⊥
      first (inl more) = not_more id goes from few (ltb-true _ _ more)
      first (inr all) = not_open id to goes from dtid shut all

      by : ((nat_lt (count (is_a forms.Continue) (peer_sent_from side id items))
          (count (is_abort_with 1 id) (sent_by side items) + 1 + count_received side id items (half_of side items id))
          || all_go_to_open table side items (peer_sent_from side id items)) ≡ true) ⊎ (false ≡ true) → ⊥
      by (inl wrong) = first (or_cases (nat_lt _ _) _ wrong)
      by (inr never) = cc
