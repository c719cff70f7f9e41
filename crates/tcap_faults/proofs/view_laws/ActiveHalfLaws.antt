-- A half that sent a Continue is open until its dialogue is ended by a message in the list, or by prearrangement.
use Rattle.std.proofs.Common.{◌≡◌, ◌⊎◌, inl, inr, Bool, true, false, ℕ, List, [], ◌∷◌, Option, Some, None, not, refl, sym, ap, subst, ◌∙◌}
use Rattle.std.specs.Prelude.{Contains, ◌&&◌}
use Rattle.std.specs.List.{find, list_any}
use Rattle.std.proofs.lemmas.Bool.{and_parts, both_ways, not-true}
use Rattle.std.proofs.lemmas.List.Elements.{Contains-append_cases, Contains-append_right}
use Rattle.tcap_msg.specs.declared.kind.Kind.TheVariants as forms
use Rattle.tcap_msg.specs.declared.message.Message.{Message}
use Rattle.tcap_msg.specs.declared.message.Message.TheVariants.{Continue, End as EndMessage, Abort}
use Rattle.tcap_msg.specs.Parts.{dtid_in, otid_in}
use Rattle.tcap_record.specs.declared.entry.End.{End as Side}
use Rattle.tcap_end.specs.declared.half.Phase.TheVariants as phases
use Rattle.tcap_end.specs.Table.{Table}
use Rattle.tcap_end.specs.Half.{Half}
use Rattle.tcap_end.specs.End.{End, KeyedHalf, is_id}
use Rattle.tcap_end.specs.HiddenSteps.{may_close}
use Rattle.tcap_end.specs.ReachableEnd.{HasHalf}
use Rattle.tcap_record.specs.Ends.{other}
use Rattle.tcap_model.specs.World.{Item}
use Rattle.tcap_model.specs.SinceMark.{ended_by}
use Rattle.tcap_model.proofs.TurnLaws.{id_is}
use Rattle.tcap_refute.specs.EarlierMessages.{ends_to, is_a, sent_by}
use Rattle.tcap_end.proofs.FoundLaws.{is_that_id}
use Rattle.tcap_refute.proofs.Members.{any_has, has_first, has_not}
use Rattle.tcap_refute.proofs.HalfLawsTurns.{Deed, Heard, IsEnded, Said, Turned, Internal, answers, closes, learns, stays}
use Rattle.tcap_faults.specs.ClosedHalves.{is_surely_open}
use Rattle.tcap_faults.specs.SentToId.{has_ended}
use Rattle.tcap_faults.proofs.view_laws.ActLaws.{IsActiveFor, keeps_own, keeps_peer}
use Rattle.tcap_faults.proofs.view_laws.AdvanceLaws.{Advance, advances_keep}
use Rattle.tcap_faults.proofs.list_laws.FindLaws.{any_is, find_has}
use Rattle.tcap_faults.proofs.view_laws.GrowthLaws.{mine_still, theirs_still}
use Rattle.tcap_faults.proofs.view_laws.ViewLaws.{View}

-- A dialogue with these IDs may be ended: by prearrangement, by a message from the peer, or by one to the peer.
abbrev IsShut : Table → Side → List Item → List ℕ → List ℕ → Type 0
IsShut table side items own to =
    (table.prearranged ≡ true)
    ⊎ ((list_any (ends_to own) (sent_by (other side) items) ≡ true)
    ⊎ (has_ended side items to ≡ true))

-- The half is active; or it is closed, and its dialogue may be ended.
abbrev IsOpenOrShut : Table → Side → List Item → List ℕ → List ℕ → Half → Type 0
IsOpenOrShut table side items own to h =
    (h.phase ≡ phases.Active) ⊎ ((h.phase ≡ phases.Closed) × IsShut table side items own to)

-- A Continue that was sent has such a half.
abbrev HasOpened : Table → Side → End → List Item → Message → Type 0
HasOpened table side e items (Continue own to dialogue components) =
    (f : KeyedHalf) × HasHalf e f × (f.half.own ≡ Some own) × (f.half.peer ≡ Some to)
    × IsOpenOrShut table side items own to f.half
HasOpened table side e items m = Unit {0}

abbrev AllOpened : Table → Side → End → List Item → Type 0
AllOpened table side e items = (m : Message) → Contains (sent_by side items) m → HasOpened table side e items m

-- ---- one step

module _ {table : Table} {side : Side} (e next : End) (items after : List Item)
    (step : Advance table side e next items after) (own to : List ℕ) where
  -- A message that ended a dialogue is still in the list.
  still_shut : IsShut table side items own to → IsShut table side after own to
  still_shut (inl prearranged) = inl prearranged
  still_shut (inr (inl theirs)) =
      let (m, has, ends) = any_is (ends_to own) (sent_by (other side) items) theirs in
      inr (inl (any_has (ends_to own) (sent_by (other side) after) m (theirs_still step.grows m has) ends))
  still_shut (inr (inr mine)) =
      let (m, has, ends) = any_is (λ m. is_id to (ended_by m)) (sent_by side items) mine in
      inr (inr (any_has (λ m. is_id to (ended_by m)) (sent_by side after) m (mine_still step.grows m has) ends))

  -- A half that closes was ended so.
  now_shut : (h : Half) → h.phase ≡ phases.Active → h.own ≡ Some own → h.peer ≡ Some to → IsEnded table step.deed h
      → IsShut table side after own to
  now_shut h active of_own of_peer ended = by step.deed refl ended
    where
      by : (deed : Deed) → step.deed ≡ deed → IsEnded table deed h → IsShut table side after own to
      by (Said m) is (id, ends, peer) =
          let same : Some id ≡ Some to = sym peer ∙ of_peer in
          let has : Contains (sent_by side after) m =
          rw (step.grows.mine_is, step.said m is)
          (Contains-append_right (sent_by side items) (m ∷ []) m (has_first m [])) in
          inr (inr (any_has (λ n. is_id to (ended_by n)) (sent_by side after) m has
          (is_that_id to (ended_by m) (ends ∙ same))))
      by (Heard m) is (id, ends, history_of_id) =
          let same : id ≡ own = let both : Some id ≡ Some own = sym history_of_id ∙ of_own in cc in
          let has = theirs_still step.grows m (step.incoming m is) in
          inr (inl (any_has (ends_to own) (sent_by (other side) after) m has (rw (← same) ends)))
      by Internal is may = let prearranged : may_close table phases.Active ≡ true = rw (← active) may in inl prearranged

  turned_open : (h g : Half) → Turned table step.deed h g → h.own ≡ Some own → h.peer ≡ Some to
      → IsOpenOrShut table side items own to h → IsOpenOrShut table side after own to g
  turned_open h g (stays it) of_own of_peer (inl active) = inl (it.phase ∙ active)
  turned_open h g (closes it) of_own of_peer (inl active) =
      inr (it.phase, now_shut h active of_own of_peer it.ended)
  turned_open h g (answers it) of_own of_peer (inl active) = let bad = sym active ∙ it.was in cc
  turned_open h g (learns it) of_own of_peer (inl active) = let bad = sym active ∙ it.was in cc
  turned_open h g (stays it) of_own of_peer (inr (closed, shut)) = inr (it.phase ∙ closed, still_shut shut)
  turned_open h g (closes it) of_own of_peer (inr (closed, shut)) = inr (it.phase, still_shut shut)
  turned_open h g (answers it) of_own of_peer (inr (closed, shut)) = let bad = sym closed ∙ it.was in cc
  turned_open h g (learns it) of_own of_peer (inr (closed, shut)) = let bad = sym closed ∙ it.was in cc

module _ {table : Table} {side : Side} (e next : End) (items after : List Item)
    (step : Advance table side e next items after) where
  still_opened : (m : Message) → HasOpened table side e items m → HasOpened table side next after m
  still_opened (Continue own to dialogue components) (f, had, of_own, of_peer, so) =
      let (g, there, turned) = step.acts.forth f had in (
        record f { half = g },
        there,
        keeps_own own turned of_own,
        keeps_peer to turned of_peer,
        turned_open e next items after step own to f.half g turned of_own of_peer so,
      )
  still_opened m opened = tt

  new_opened : (m : Message) → IsActiveFor next m → HasOpened table side next after m
  new_opened (Continue own to dialogue components) (f, had, of_own, of_peer, active) =
      (f, had, of_own, of_peer, inl active)
  new_opened m active = tt

  opened_then : AllOpened table side e items → AllOpened table side next after
  opened_then held m has =
      by (Contains-append_cases (sent_by side items) step.grows.mine m (rw (← step.grows.mine_is) has))
    where
      by : Contains (sent_by side items) m ⊎ Contains step.grows.mine m → HasOpened table side next after m
      by (inl was) = still_opened m (held m was)
      by (inr new) = new_opened m (step.uses m new).1

all_opened : {table : Table} {side : Side} {e : End} {coming : List Message} {items : List Item}
    → View table side e coming items → (m : Message) → Contains (sent_by side items) m → HasOpened table side e items m
all_opened {table} {side} {e} {coming} {items} view =
    advances_keep table side (AllOpened table side) (λ m has. has_not m has)
    (λ e next coming items after view step. opened_then e next items after step) e coming items view

-- ---- halves that are surely open

-- The half with this own ID is active.
abbrev pub IsActiveAt : End → List ℕ → Type 0
IsActiveAt e own = (f : KeyedHalf) × HasHalf e f × (f.half.own ≡ Some own) × (f.half.phase ≡ phases.Active)

-- A conjunction with a part that is false does not hold.
never : {P : Type 0} (a b : Bool) → (a && false && b) ≡ true → P
never a b is = let no = and_parts a false (and_parts (a && false) b is).0 in cc

module _ {table : Table} {side : Side} {e : End} {coming : List Message} {items : List Item}
    (view : View table side e coming items) (own : List ℕ) where
  -- A half is active if the list has no end of its dialogue.
  is_active : (m : Message) (to : List ℕ) → Contains (sent_by side items) m → is_a forms.Continue m ≡ true
      → otid_in m ≡ Some own → dtid_in m ≡ Some to → (IsShut table side items own to → ⊥) → IsActiveAt e own
  is_active (Continue id peer dialogue components) to has goes_on from dtid none =
      let (f, had, of_own, of_peer, so) = all_opened view (Continue id peer dialogue components) has in
      let same : id ≡ own = cc in
      let same_to : peer ≡ to = cc in
      by f had (of_own ∙ ap Some same)
      (subst (λ (i : List ℕ). IsOpenOrShut table side items i to f.half) same
      (subst (λ (i : List ℕ). IsOpenOrShut table side items id i f.half) same_to so))
    where
      by : (f : KeyedHalf) → HasHalf e f → f.half.own ≡ Some own → IsOpenOrShut table side items own to f.half
          → IsActiveAt e own
      by f had of_own (inl active) = (f, had, of_own, active)
      by f had of_own (inr (closed, shut)) = absurd (none shut)
  is_active (EndMessage dtid dialogue components) to has goes_on from of_dtid none = cc
  is_active (Abort dtid reason) to has goes_on from of_dtid none = cc
  is_active m to has goes_on from dtid none = cc

  -- Whether a message is a Continue from this ID.
  abbrev is_from : Message → Bool
  is_from m = is_a forms.Continue m && is_id own (otid_in m)

  pub surely_open : is_surely_open table side items own ≡ true → IsActiveAt e own
  surely_open is = by (find is_from (sent_by side items)) refl is
    where
      of : (m : Message) (to : List ℕ) → find is_from (sent_by side items) ≡ Some m → dtid_in m ≡ Some to
          → (not table.prearranged && not (list_any (λ n. is_id to (ended_by n)) (sent_by side items))
          && not (list_any (ends_to own) (sent_by (other side) items))) ≡ true → IsActiveAt e own
      of m to found dtid is =
          let (has, passes) = find_has is_from (sent_by side items) m found in
          let (goes_on, from) = and_parts (is_a forms.Continue m) (is_id own (otid_in m)) passes in
          let (first, theirs) = and_parts _ (not (list_any (ends_to own) (sent_by (other side) items))) is in
          let (prearranged, mine) = and_parts (not table.prearranged) _ first in
          is_active m to has goes_on (id_is own (otid_in m) from) dtid (none prearranged mine theirs)
        where
          none : not table.prearranged ≡ true → not (list_any (λ n. is_id to (ended_by n)) (sent_by side items)) ≡ true
              → not (list_any (ends_to own) (sent_by (other side) items)) ≡ true → IsShut table side items own to → ⊥
          none prearranged mine theirs (inl may) = both_ways table.prearranged (not-true _ prearranged) may
          none prearranged mine theirs (inr (inl ended)) = both_ways _ (not-true _ theirs) ended
          none prearranged mine theirs (inr (inr ended)) = both_ways _ (not-true _ mine) ended

      to_some : (m : Message) → find is_from (sent_by side items) ≡ Some m → (o : Option (List ℕ)) → dtid_in m ≡ o
          → is_surely_open table side items own ≡ true → IsActiveAt e own
      to_some m found None dtid is =
          never (not table.prearranged) (not (list_any (ends_to own) (sent_by (other side) items)))
          (rw (found, dtid) at is)
      to_some m found (Some to) dtid is = of m to found dtid (rw (found, dtid) at is)

      by : (o : Option Message) → find is_from (sent_by side items) ≡ o → is_surely_open table side items own ≡ true
          → IsActiveAt e own
      by None found is =
          never (not table.prearranged) (not (list_any (ends_to own) (sent_by (other side) items))) (rw found at is)
      by (Some m) found is = to_some m found (dtid_in m) refl is
