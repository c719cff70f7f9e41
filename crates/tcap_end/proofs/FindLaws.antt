-- The stored places lead to the halves of an end, and each ID leads to the one half that has it.
use Rattle.std.proofs.Common.{◌≡◌, ℕ, Bool, true, false, cond, List, [], ◌∷◌, Option, Some, None, is_some, ◌⊎◌, inl, inr, refl, sym, ap, subst, ◌∙◌}
use Rattle.std.specs.Borrow.{Bor}
use Rattle.std.specs.Option.{MatchOption, option_copied, option_map}
use Rattle.std.specs.BTreeMap.{is_at}
use Rattle.std.proofs.lemmas.Map.Lookups.{exact_bytes}
use Rattle.std.proofs.lemmas.Map.Views.{tells_apart}
use Rattle.std.proofs.lemmas.Slice.Eq.{bytes_eq-Decides}
use Rattle.slab.specs.Slab.{Slab, get}
use Rattle.tcap_end.specs.declared.half.Slot.{Slot}
use Rattle.tcap_end.specs.declared.half.Slot.TheVariants.{Begun, Accepted}
use Rattle.tcap_end.specs.declared.half_state.HalfState.{HalfState}
use Rattle.tcap_end.specs.declared.halves.Halves.{Halves}
use Rattle.tcap_end.specs.declared.halves.HalfKey.{HalfKey}
use Rattle.tcap_end.specs.declared.halves.Place.{Place}
use Rattle.tcap_end.specs.declared.halves.Place.TheVariants.{Open, Closed}
use Rattle.tcap_end.specs.Table.{octets_cmp}
use Rattle.tcap_end.specs.Half.{Half, is_closed}
use Rattle.tcap_end.specs.HalfState.{half_of, kept_id}
use Rattle.tcap_end.specs.End.{End, KeyedHalf, first_half, half_where, is_id, named}
use Rattle.tcap_end.specs.ReachableEnd.{HasHalf, IsEnd, IsHalfKey, IsSame, halves_of}
use Rattle.tcap_end.specs.Halves.{Indexes, IsAt, IsNumbered, IsHeld, IsOpen, closed_at, end_of, half_at, half_in, halves_at, index_of, keyed_half, name_in, other_slot, places_of}
use Rattle.tcap_lists.proofs.MapLaws.{kept_at}
use Rattle.tcap_end.proofs.FoundLaws.{none_own, none_peer, own_has, peer_has}

-- ---- places

-- The half that is kept by a key is that of the key's place.
halves_there : (slab : Slab HalfState) (slot : Slot) (key : List ℕ) (es : List (List ℕ × Place))
    → kept_at octets_cmp (halves_at slab slot es) key ≡ option_map (half_at slab slot key) (kept_at octets_cmp es key)
halves_there slab slot key [] = refl
halves_there slab slot key (e ∷ es) = by (is_at (octets_cmp key) e.0) refl (halves_there slab slot key es)
  where
    by : (b : Bool) → is_at (octets_cmp key) e.0 ≡ b
        → kept_at octets_cmp (halves_at slab slot es) key ≡ option_map (half_at slab slot key) (kept_at octets_cmp es key)
        → cond b (Some (half_at slab slot e.0 e.1)) (kept_at octets_cmp (halves_at slab slot es) key)
        ≡ option_map (half_at slab slot key) (cond b (Some e.1) (kept_at octets_cmp es key))
    by true same rest = rw (tells_apart exact_bytes key e.0 same) refl
    by false other rest = rest

pub half_there : (s : Halves) (slot : Slot) (key : List ℕ)
    → kept_at octets_cmp (halves_of slot (end_of s)) key ≡ option_map (half_at s.slab slot key) (kept_at octets_cmp (places_of slot s) key)
half_there s Begun key = halves_there s.slab Begun key s.begun.entries
half_there s Accepted key = halves_there s.slab Accepted key s.accepted.entries

-- The half of each place is kept by the end.
pub has_there : (s : Halves) (slot : Slot) (key : List ℕ) (place : Place)
    → IsAt slot key place s → HasHalf (end_of s) (keyed_half slot key (half_at s.slab slot key place))
has_there s slot key place there = half_there s slot key ∙ ap (option_map (half_at s.slab slot key)) there

-- A half that the end keeps is that of its place.
pub had_there : (s : Halves) (slot : Slot) (key : List ℕ) (place : Place) (h : Half)
    → IsAt slot key place s → HasHalf (end_of s) (keyed_half slot key h) → h ≡ half_at s.slab slot key place
had_there s slot key place h there had = let one = sym had ∙ has_there s slot key place there in cc

-- Without a place, the end keeps no half.
pub none_there : {P : Type 0} (s : Halves) (slot : Slot) (key : List ℕ) (h : Half)
    → kept_at octets_cmp (places_of slot s) key ≡ None → HasHalf (end_of s) (keyed_half slot key h) → P
none_there s slot key h none had =
    let bad = sym had ∙ half_there s slot key ∙ ap (option_map (half_at s.slab slot key)) none in cc

-- a found place is in the map
pub found_open : (s : Halves) (found : HalfKey) (k : ℕ) → found.number ≡ Some k → IsAt found.slot found.key (Open k) s → IsNumbered found s
unfolding IsNumbered
found_open s found k is there = rw is there

pub found_closed : (s : Halves) (found : HalfKey) (other : Option (List ℕ)) → found.number ≡ None
    → IsAt found.slot found.key (Closed other) s → IsNumbered found s
unfolding IsNumbered
found_closed s found other is there = rw is (other, there)

pub is_open_there : (s : Halves) (found : HalfKey) (k : ℕ) → found.number ≡ Some k → IsNumbered found s → IsAt found.slot found.key (Open k) s
unfolding IsNumbered
is_open_there s found k is there = rw is at there

pub is_closed_there : (s : Halves) (found : HalfKey) → found.number ≡ None → IsNumbered found s
    → (other : Option (List ℕ)) × IsAt found.slot found.key (Closed other) s
unfolding IsNumbered
is_closed_there s found is there = rw is at there

-- A found place stays found if the maps do not change.
pub still_numbered : (s t : Halves) (found : HalfKey) → t.begun ≡ s.begun → t.accepted ≡ s.accepted → IsNumbered found s → IsNumbered found t
unfolding IsNumbered
still_numbered s t found begun accepted is = subst kept (sym (same found.slot)) is
  where
    kept : List (List ℕ × Place) → Type 0
    kept es = MatchOption found.number ((other : Option (List ℕ)) × (kept_at octets_cmp es found.key ≡ Some (Closed other)))
        (λ k. kept_at octets_cmp es found.key ≡ Some (Open k))

    same : (slot : Slot) → places_of slot t ≡ places_of slot s
    same Begun = ap (λ m. m.entries) begun
    same Accepted = ap (λ m. m.entries) accepted

-- the state under the number of an open place
pub open_there : (s : Halves) (slot : Slot) (key : List ℕ) (k : ℕ) (h : Half) (r : Option (Bor HalfState)) → IsHeld s
    → IsAt slot key (Open k) s → option_copied r ≡ get s.slab k → HasHalf (end_of s) (keyed_half slot key h)
    → MatchOption r (is_closed h.phase ≡ true) (λ half. (half_of half.now ≡ h) × (is_closed h.phase ≡ false))
open_there s slot key k h r held there is had = by r (is ∙ state.1)
  where
    state : IsOpen slot key k s
    state = held.places slot key k there

    same : h ≡ half_of state.0
    same = had_there s slot key (Open k) h there had ∙ ap half_in state.1

    by : (r : Option (Bor HalfState)) → option_copied r ≡ Some state.0
        → MatchOption r (is_closed h.phase ≡ true) (λ half. (half_of half.now ≡ h) × (is_closed h.phase ≡ false))
    by None bad = cc
    by (Some half) one = let it : half.now ≡ state.0 = cc in (ap half_of it ∙ sym same, rw same state.3)

closed_is : (slot : Slot) (key : List ℕ) (other : Option (List ℕ)) → is_closed (closed_at slot key other).phase ≡ true
closed_is Begun key other = refl
closed_is Accepted key other = refl

pub closed_there : (s : Halves) (slot : Slot) (key : List ℕ) (other : Option (List ℕ)) (h : Half)
    → IsAt slot key (Closed other) s → HasHalf (end_of s) (keyed_half slot key h) → is_closed h.phase ≡ true
closed_there s slot key other h there had = rw (had_there s slot key (Closed other) h there had) (closed_is slot key other)

-- ---- the half that is found passes the test

first_passes : (passes : Half → Bool) (slot : Slot) (es : List (List ℕ × Half)) (f : KeyedHalf)
    → first_half passes slot es ≡ Some f → passes f.half ≡ true
first_passes passes slot [] f is = cc
first_passes passes slot ((key, half) ∷ es) f is = by (passes half) refl is (first_passes passes slot es f)
  where
    first : KeyedHalf
    first = record { slot = slot; key = key; half = half }

    by : (b : Bool) → passes half ≡ b → cond b (Some first) (first_half passes slot es) ≡ Some f
        → (first_half passes slot es ≡ Some f → passes f.half ≡ true) → passes f.half ≡ true
    by true so is rest = let same : first ≡ f = cc in rw (← same) so
    by false so is rest = rest is

found_passes : (passes : Half → Bool) (e : End) (f : KeyedHalf) → half_where passes e ≡ Some f → passes f.half ≡ true
found_passes passes e f is = by (first_half passes Begun e.begun) refl
  where
    by : (o : Option KeyedHalf) → first_half passes Begun e.begun ≡ o → passes f.half ≡ true
    by None none = first_passes passes Accepted e.accepted f (rw none at is)
    by (Some g) some = first_passes passes Begun e.begun f (let same = rw some at is in some ∙ same)

same_id : (id : List ℕ) (o : Option (List ℕ)) → is_id id o ≡ true → o ≡ Some id
same_id id None is = cc
same_id id (Some other) is = ap Some (sym ((bytes_eq-Decides id other).0 is))

-- ---- the half that has an ID

-- At most one half has the ID, and the search finds it.
pub record Finds (id_in : Half → Option (List ℕ)) (e : End) (id : List ℕ) (found : Option KeyedHalf) : Type 0 where
  pub had : (g : KeyedHalf) → found ≡ Some g → HasHalf e g × (id_in g.half ≡ Some id)
  pub one : (f : KeyedHalf) → HasHalf e f → id_in f.half ≡ Some id → (h : Half) × (found ≡ Some (keyed_half f.slot f.key h))

module _ (id_in : Half → Option (List ℕ)) (e : End) (id : List ℕ) where
  abbrev found : Option KeyedHalf
  found = half_where (λ h. is_id id (id_in h)) e

  finds : ((g : KeyedHalf) → found ≡ Some g → HasHalf e g)
      → ((f : KeyedHalf) → found ≡ None → HasHalf e f → id_in f.half ≡ Some id → true ≡ false)
      → ((f g : KeyedHalf) (id : List ℕ) → HasHalf e f → HasHalf e g → id_in f.half ≡ Some id → id_in g.half ≡ Some id → IsSame f g)
      → Finds id_in e id found
  finds has none unique = record { had = had; one = λ f there its. by f there its found refl }
    where
      had : (g : KeyedHalf) → found ≡ Some g → HasHalf e g × (id_in g.half ≡ Some id)
      had g is = (has g is, same_id id (id_in g.half) (found_passes (λ h. is_id id (id_in h)) e g is))

      by : (f : KeyedHalf) → HasHalf e f → id_in f.half ≡ Some id → (o : Option KeyedHalf) → found ≡ o
          → (h : Half) × (found ≡ Some (keyed_half f.slot f.key h))
      by f there its None nothing = let bad = none f nothing there its in cc
      by f there its (Some g) some =
          let same = unique f g id there (has g some) its (had g some).1 in (g.half, some ∙ rw (same.0, same.1) refl)

pub id_finds : (slot : Slot) (e : End) (id : List ℕ) → IsEnd e → Finds (kept_id slot) e id (named e (name_in slot id))
id_finds Begun e id sound = finds (λ h. h.own) e id (own_has e id sound) (λ f. none_own e id f) sound.one_own
id_finds Accepted e id sound = finds (λ h. h.peer) e id (peer_has e id sound) (λ f. none_peer e id f) sound.one_peer

-- A half has the ID by which it is kept.
pub is_its : (slot : Slot) (key : List ℕ) (h : Half) → IsHalfKey slot key h → kept_id slot h ≡ Some key
is_its Begun key h own = own
is_its Accepted key h peer = peer

-- ---- places and indexes agree with the search

-- If a place has this ID, its half is found.
pub at_place : (id_in : Half → Option (List ℕ)) (s : Halves) (slot : Slot) (id : List ℕ) (o : Option KeyedHalf)
    → Finds id_in (end_of s) id o → ((h : Half) → HasHalf (end_of s) (keyed_half slot id h) → id_in h ≡ Some id)
    → is_some (kept_at octets_cmp (places_of slot s) id) ≡ true → (h : Half) × (o ≡ Some (keyed_half slot id h))
at_place id_in s slot id o law kept some = by (kept_at octets_cmp (places_of slot s) id) refl some
  where
    by : (p : Option Place) → kept_at octets_cmp (places_of slot s) id ≡ p → is_some p ≡ true
        → (h : Half) × (o ≡ Some (keyed_half slot id h))
    by None there is = cc
    by (Some place) there is =
        let had = has_there s slot id place there in
        law.one (keyed_half slot id (half_at s.slab slot id place)) had (kept (half_at s.slab slot id place) had)

-- If the index has this ID, the half that it leads to is found.
pub led_on : (id_in : Half → Option (List ℕ)) (e : End) (slot : Slot) (id key : List ℕ) (o : Option KeyedHalf)
    (index : List (List ℕ × List ℕ)) → Finds id_in e id o → Indexes index slot id_in e → kept_at octets_cmp index id ≡ Some key
    → (h : Half) × (o ≡ Some (keyed_half slot key h))
led_on id_in e slot id key o index law leads is = let it = (leads id key).0 is in law.one (keyed_half slot key it.0) it.1 it.2

-- If neither the places nor the index have this ID, no half is found.
pub nowhere : (id_in : Half → Option (List ℕ)) (s : Halves) (slot other : Slot) (id : List ℕ) (o : Option KeyedHalf)
    (index : List (List ℕ × List ℕ))
    → Finds id_in (end_of s) id o → Indexes index other id_in (end_of s)
    → ((f : KeyedHalf) → HasHalf (end_of s) f → id_in f.half ≡ Some id → ((f.slot ≡ slot) × (f.key ≡ id)) ⊎ (f.slot ≡ other))
    → is_some (kept_at octets_cmp (places_of slot s) id) ≡ false → kept_at octets_cmp index id ≡ None → o ≡ None
nowhere id_in s slot other id o index law leads parts unkept unled = by o refl
  where
    no_place : (p : Option Place) → is_some p ≡ false → p ≡ None
    no_place None is = refl
    no_place (Some place) is = cc

    no_half : (f : KeyedHalf) → HasHalf (end_of s) f → id_in f.half ≡ Some id → ((f.slot ≡ slot) × (f.key ≡ id)) ⊎ (f.slot ≡ other) → o ≡ None
    no_half f had its (inl kept) =
        none_there s slot id f.half (no_place (kept_at octets_cmp (places_of slot s) id) unkept) (rw (kept.0, kept.1) at had)
    no_half f had its (inr led) = let bad = sym unled ∙ (leads id f.key).1 (f.half, rw led at had, its) in cc

    by : (p : Option KeyedHalf) → o ≡ p → o ≡ None
    by None is = is
    by (Some f) is = let it = law.had f is in no_half f it.0 it.1 (parts f it.0 it.1)

-- A found place is in the map.
pub found_some : (s : Halves) (slot : Slot) (key : List ℕ) (f : HalfKey) → (f.slot ≡ slot) × (f.key ≡ key) × IsNumbered f s
    → is_some (kept_at octets_cmp (places_of slot s) key) ≡ true
unfolding IsNumbered
found_some s slot key f told = rw (told.0, told.1) at (by f.number told.2)
  where
    by : (o : Option ℕ) → MatchOption o ((other : Option (List ℕ)) × IsAt f.slot f.key (Closed other) s) (λ k. IsAt f.slot f.key (Open k) s)
        → is_some (kept_at octets_cmp (places_of f.slot s) f.key) ≡ true
    by None it = ap is_some it.1
    by (Some k) it = ap is_some it

-- If the index has the ID, a place is found.
pub led_found : (id_in : Half → Option (List ℕ)) (s : Halves) (slot : Slot) (id key : List ℕ) (o : Option KeyedHalf) (r : Option HalfKey)
    → Finds id_in (end_of s) id o → (h : Half) × (o ≡ Some (keyed_half slot key h))
    → MatchOption r (kept_at octets_cmp (places_of slot s) key ≡ None) (λ f. (f.slot ≡ slot) × (f.key ≡ key) × IsNumbered f s)
    → MatchOption r (o ≡ None) (λ f. (h : Half) × (o ≡ Some (keyed_half f.slot f.key h)))
led_found id_in s slot id key o None law led none = none_there s slot key led.0 none (law.had (keyed_half slot key led.0) led.1).0
led_found id_in s slot id key o (Some f) law led told = rw (told.0, told.1) led

-- The index of the other slot leads to its halves.
pub index_serves : (slot : Slot) (s : Halves) → IsHeld s
    → Indexes (index_of (other_slot slot) s) (other_slot slot) (kept_id slot) (end_of s)
index_serves Begun s held = held.by_own
index_serves Accepted s held = held.by_peer

-- A half with such an ID is kept by it, or in the other slot.
pub id_parts : (slot : Slot) (e : End) (id : List ℕ) → IsEnd e → (f : KeyedHalf) → HasHalf e f → kept_id slot f.half ≡ Some id
    → ((f.slot ≡ slot) × (f.key ≡ id)) ⊎ (f.slot ≡ other_slot slot)
id_parts slot e id sound f had its = by slot f.slot (sound.kept f had) its
  where
    by : (slot at : Slot) → IsHalfKey at f.key f.half → kept_id slot f.half ≡ Some id
        → ((at ≡ slot) × (f.key ≡ id)) ⊎ (at ≡ other_slot slot)
    by Begun Begun kept its = inl (refl, cc)
    by Begun Accepted kept its = inr refl
    by Accepted Begun kept its = inr refl
    by Accepted Accepted kept its = inl (refl, cc)
