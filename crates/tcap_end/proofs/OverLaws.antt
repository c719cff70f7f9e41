-- A half that was found: whether it is open, and its state; and new halves.
use Rattle.std.proofs.Common.{◌≡◌, List, ℕ, true, false, Option, Some, None, is_none, is_some, refl, sym, ap, subst, ◌∙◌}
use Rattle.std.specs.Borrow.{Bor}
use Rattle.std.specs.Option.{MatchOption}
use Rattle.tcap_end.specs.declared.half.HalfName.{HalfName}
use Rattle.tcap_end.specs.declared.half.Slot.{Slot}
use Rattle.tcap_end.specs.declared.half.Slot.TheVariants.{Begun, Accepted}
use Rattle.tcap_end.specs.declared.half.DialogueState.{DialogueState}
use Rattle.tcap_end.specs.declared.half_state.HalfState.{HalfState}
use Rattle.tcap_end.specs.declared.halves.Halves.{Halves}
use Rattle.tcap_end.specs.declared.halves.Place.{Place}
use Rattle.tcap_end.specs.declared.halves.Place.TheVariants.{Open, Closed}
use Rattle.tcap_end.specs.declared.halves.HalfKey.{HalfKey}
use Rattle.tcap_end.specs.End.{End, KeyedHalf, named, with_own, with_peer}
use Rattle.tcap_end.specs.Begins.{fresh_in}
use Rattle.tcap_end.specs.Half.{Half, is_closed}
use Rattle.tcap_end.specs.HalfState.{half_of, other_id}
use Rattle.tcap_end.specs.Halves.{HasOpen, IsNew, end_of, half_at, keyed_half, name_in, places_of}
use Rattle.tcap_end.specs.ReachableEnd.{HasHalf, IsEnd, IsHalfKey}
use Rattle.tcap_end.specs.Table.{octets_cmp}
use Rattle.tcap_end.proofs.FindLaws.{closed_there, has_there, none_there}
use Rattle.tcap_end.proofs.FoundLaws.{named_has, none_own, none_peer, own_has, peer_has}
use Rattle.tcap_lists.proofs.MapLaws.{kept_at}
use Rattle.tcap_end.proofs.HalfLaws.{Follows}

-- ---- whether a half is open

-- If the end keeps an open half, its place is open.
pub open_where : (s : Halves) (slot : Slot) (key : List ℕ) (h : Half) → HasHalf (end_of s) (keyed_half slot key h) → is_closed h.phase ≡ false
    → HasOpen slot key s
open_where s slot key h had is_open = by (kept_at octets_cmp (places_of slot s) key) refl
  where
    by : (o : Option Place) → kept_at octets_cmp (places_of slot s) key ≡ o → HasOpen slot key s
    by None none = none_there s slot key h none had
    by (Some (Open k)) there = (k, there)
    by (Some (Closed other)) there = let shut = closed_there s slot key other h there had in cc

-- what a lookup of the state of a half shows
abbrev pub Shows : Half → Option (Bor HalfState) → Type 0
Shows h r = MatchOption r (is_closed h.phase ≡ true) (λ half. (half_of half.now ≡ h) × (is_closed h.phase ≡ false))

pub shown_open : (h : Half) (r : Option (Bor HalfState)) → is_some r ≡ true → Shows h r → is_closed h.phase ≡ false
shown_open h None some shown = cc
shown_open h (Some half) some shown = shown.1

pub shown_closed : (h : Half) (r : Option (Bor HalfState)) → is_some r ≡ false → Shows h r → is_closed h.phase ≡ true
shown_closed h None none shown = shown
shown_closed h (Some half) none shown = cc

-- ---- whether a half was found

-- a half was found at this place
abbrev pub IsFound : Option KeyedHalf → HalfKey → Type 0
IsFound o found = (h : Half) × (o ≡ Some (keyed_half found.slot found.key h))

-- what a search for a half shows
abbrev pub Tells : Option KeyedHalf → Option HalfKey → Type 0
Tells o r = MatchOption r (o ≡ None) (IsFound o)

pub told_none : (o : Option KeyedHalf) (r : Option HalfKey) → is_some r ≡ false → Tells o r → o ≡ None
told_none o None none told = told
told_none o (Some found) none told = cc

pub told_some : (o : Option KeyedHalf) (r : Option HalfKey) → is_some r ≡ true → Tells o r → is_none o ≡ false
told_some o None some told = cc
told_some o (Some found) some told = rw (told.1) refl

-- A half found by its own ID, its peer's ID or its name is kept by the end.
pub own_there : (e : End) (id : List ℕ) (found : HalfKey) → IsEnd e → (it : IsFound (with_own e id) found)
    → HasHalf e (keyed_half found.slot found.key it.0)
own_there e id found sound it = own_has e id sound (keyed_half found.slot found.key it.0) it.1

pub peer_there : (e : End) (id : List ℕ) (found : HalfKey) → IsEnd e → (it : IsFound (with_peer e id) found)
    → HasHalf e (keyed_half found.slot found.key it.0)
peer_there e id found sound it = peer_has e id sound (keyed_half found.slot found.key it.0) it.1

pub named_there : (e : End) (name : HalfName) (found : HalfKey) → IsEnd e → (it : IsFound (named e name) found)
    → HasHalf e (keyed_half found.slot found.key it.0)
named_there e name found sound it = named_has e name sound (keyed_half found.slot found.key it.0) it.1

-- ---- the open half that was found

abbrev pub over_half : HalfKey → HalfState → KeyedHalf
over_half found half = keyed_half found.slot found.key (half_of half)

-- The half that was found is open, with this state.
pub record Over (o : Option KeyedHalf) (s : Halves) (found : HalfKey) (half : HalfState) : Type 0 where
  pub is : o ≡ Some (over_half found half)
  pub had : HasHalf (end_of s) (over_half found half)
  pub is_open : is_closed half.phase ≡ false
  pub there : HasOpen found.slot found.key s

-- the state of the half that is kept there
abbrev pub IsShown : Halves → HalfKey → HalfState → Type 0
IsShown s found half =
    (h : Half) → HasHalf (end_of s) (keyed_half found.slot found.key h) → (half_of half ≡ h) × (is_closed h.phase ≡ false)

over : (o : Option KeyedHalf) (s : Halves) (found : HalfKey) (half : HalfState) (it : IsFound o found)
    → HasHalf (end_of s) (keyed_half found.slot found.key it.0) → IsShown s found half → Over o s found half
over o s found half it has shown = let same = shown it.0 has in record {
  is = it.1 ∙ ap (λ (h : Half). Some (keyed_half found.slot found.key h)) (sym same.0);
  had = subst (λ (h : Half). HasHalf (end_of s) (keyed_half found.slot found.key h)) (sym same.0) has;
  is_open = ap (λ (h : Half). is_closed h.phase) same.0 ∙ same.1;
  there = open_where s found.slot found.key it.0 has same.1;
}

pub over_own : (s : Halves) (id : List ℕ) (found : HalfKey) (half : HalfState) → IsEnd (end_of s) → IsFound (with_own (end_of s) id) found
    → IsShown s found half → Over (with_own (end_of s) id) s found half
over_own s id found half sound it shown = over (with_own (end_of s) id) s found half it (own_there (end_of s) id found sound it) shown

pub over_peer : (s : Halves) (id : List ℕ) (found : HalfKey) (half : HalfState) → IsEnd (end_of s) → IsFound (with_peer (end_of s) id) found
    → IsShown s found half → Over (with_peer (end_of s) id) s found half
over_peer s id found half sound it shown = over (with_peer (end_of s) id) s found half it (peer_there (end_of s) id found sound it) shown

pub over_named : (s : Halves) (name : HalfName) (found : HalfKey) (half : HalfState) → IsEnd (end_of s)
    → IsFound (named (end_of s) name) found → IsShown s found half → Over (named (end_of s) name) s found half
over_named s name found half sound it shown =
    over (named (end_of s) name) s found half it (named_there (end_of s) name found sound it) shown

-- ---- a new half

-- If the end keeps no half by an ID, no place has the ID.
none_placed : (s : Halves) (slot : Slot) (key : List ℕ) → ((h : Half) → HasHalf (end_of s) (keyed_half slot key h) → true ≡ false)
    → kept_at octets_cmp (places_of slot s) key ≡ None
none_placed s slot key none = by (kept_at octets_cmp (places_of slot s) key) refl
  where
    by : (o : Option Place) → kept_at octets_cmp (places_of slot s) key ≡ o → kept_at octets_cmp (places_of slot s) key ≡ None
    by None is = is
    by (Some place) is =
        let bad = none (half_at s.slab slot key place) (has_there s slot key place is) in cc

-- A half that follows from a fresh one is new.
new_half : (s : Halves) (slot : Slot) (key : List ℕ) (h : HalfState) (start : Half) → Follows start (half_of h) → h.slot ≡ slot
    → is_closed start.phase ≡ false → IsHalfKey slot key start → other_id slot start ≡ None
    → kept_at octets_cmp (places_of slot s) key ≡ None → IsNew key h s
new_half s slot key h start follows slot_is is_open kept alone free = record {
  free = subst (λ (x : Slot). kept_at octets_cmp (places_of x s) key ≡ None) (sym slot_is) free;
  open_half = ap is_closed follows.phase ∙ is_open;
  kept = subst (λ (x : Slot). IsHalfKey x key (half_of h)) (sym slot_is) (is_kept slot kept);
  alone = subst (λ (x : Slot). other_id x (half_of h) ≡ None) (sym slot_is) (is_alone slot alone);
}
  where
    is_kept : (x : Slot) → IsHalfKey x key start → IsHalfKey x key (half_of h)
    is_kept Begun own = follows.own ∙ own
    is_kept Accepted peer = follows.peer ∙ peer

    is_alone : (x : Slot) → other_id x start ≡ None → other_id x (half_of h) ≡ None
    is_alone Begun peer = follows.peer ∙ peer
    is_alone Accepted own = follows.own ∙ own

-- Its end sends or receives the Begin, with an ID that no half has.
pub new_by : (s : Halves) (slot : Slot) (key : List ℕ) (h : HalfState) (dialogue_state : DialogueState) → IsEnd (end_of s)
    → named (end_of s) (name_in slot key) ≡ None → h.slot ≡ slot → Follows (fresh_in slot key dialogue_state) (half_of h) → IsNew key h s
new_by s Begun key h dialogue_state sound none slot_is follows =
    new_half s Begun key h (fresh_in Begun key dialogue_state) follows slot_is refl refl refl
    (none_placed s Begun key (λ x had. none_own (end_of s) key (keyed_half Begun key x) none had (sound.kept (keyed_half Begun key x) had)))
new_by s Accepted key h dialogue_state sound none slot_is follows =
    new_half s Accepted key h (fresh_in Accepted key dialogue_state) follows slot_is refl refl refl
    (none_placed s Accepted key
    (λ x had. none_peer (end_of s) key (keyed_half Accepted key x) none had (sound.kept (keyed_half Accepted key x) had)))
