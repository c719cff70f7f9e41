-- How an end is stored: open halves in a slab under numbers, closed halves as their IDs only.
use Rattle.std.specs.Prelude.{◌≡◌, ◌↔◌, ℕ, suc, false, List, [], ◌∷◌, Option, Some, None, MatchOption, Result, Ok, cond, option_map}
use Rattle.std.specs.Map.{lookup}
use Rattle.std.specs.BTreeMap.{is_at}
use Rattle.slab.specs.Slab.{Slab, get}
use Rattle.tcap_end.specs.declared.fault.EndFault.{EndFault}
use Rattle.tcap_end.specs.declared.half.HalfName.{HalfName}
use Rattle.tcap_end.specs.declared.half.HalfName.TheVariants as names
use Rattle.tcap_end.specs.declared.half.Phase.TheVariants as phases
use Rattle.tcap_end.specs.declared.half.DialogueState.TheVariants as dialogue_states
use Rattle.tcap_end.specs.declared.half.Slot.{Slot}
use Rattle.tcap_end.specs.declared.half.Slot.TheVariants.{Begun, Accepted}
use Rattle.tcap_end.specs.declared.half_state.HalfState.{HalfState}
use Rattle.tcap_end.specs.declared.halves.Halves.{Halves}
use Rattle.tcap_end.specs.declared.halves.HalfKey.{HalfKey}
use Rattle.tcap_end.specs.declared.halves.Place.{Place}
use Rattle.tcap_end.specs.declared.halves.Place.TheVariants.{Open, Closed}
use Rattle.tcap_end.specs.Table.{Table, octets_cmp}
use Rattle.tcap_end.specs.Half.{Half, fresh, is_closed}
use Rattle.tcap_end.specs.Step.{AnswersInMemory, ◌>>=◌}
use Rattle.tcap_end.specs.HalfState.{half_of, other_id}
use Rattle.tcap_end.specs.End.{End, KeyedHalf, put}
use Rattle.tcap_end.specs.HiddenSteps.{may_close}
use Rattle.tcap_end.specs.ReachableEnd.{HasHalf, IsHalfKey, Rises}

-- the half in an entry of the slab; an empty entry reads as a closed half without IDs
abbrev pub half_in : Option HalfState → Half
half_in None = fresh phases.Closed None None dialogue_states.Without
half_in (Some h) = half_of h

-- the entry of the slab for a place, or None if the place is that of a closed half
abbrev pub open_at : Slab HalfState → Place → Option HalfState
open_at slab (Open k) = get slab k
open_at slab (Closed other) = None

-- a closed half with this key, and its other ID
abbrev pub closed_at : Slot → List ℕ → Option (List ℕ) → Half
closed_at Begun key other = fresh phases.Closed (Some key) other dialogue_states.Without
closed_at Accepted key other = fresh phases.Closed other (Some key) dialogue_states.Without

-- the half at a place
abbrev pub half_at : Slab HalfState → Slot → List ℕ → Place → Half
half_at slab slot key (Open k) = half_in (get slab k)
half_at slab slot key (Closed other) = closed_at slot key other

-- the halves at the places of a slot, by their keys
abbrev pub halves_at : Slab HalfState → Slot → List (List ℕ × Place) → List (List ℕ × Half)
halves_at slab slot [] = []
halves_at slab slot (e ∷ more) = (e.0, half_at slab slot e.0 e.1) ∷ halves_at slab slot more

-- the end that is stored
abbrev pub end_of : Halves → End
end_of s =
    record { begun = halves_at s.slab Begun s.begun.entries; accepted = halves_at s.slab Accepted s.accepted.entries }

-- the places of a slot
abbrev pub places_of : Slot → Halves → List (List ℕ × Place)
places_of Begun s = s.begun.entries
places_of Accepted s = s.accepted.entries

-- the half with this key is at this place
abbrev pub IsAt : Slot → List ℕ → Place → Halves → Type 0
IsAt slot key place s = lookup (is_at (octets_cmp key)) (places_of slot s) ≡ Some place

-- The slab has an open half under this number, and this ID is its key.
abbrev pub IsOpen : Slot → List ℕ → ℕ → Halves → Type 0
IsOpen slot key k s =
    (h : HalfState) × (get s.slab k ≡ Some h) × (h.slot ≡ slot) × (is_closed h.phase ≡ false)
    × IsHalfKey slot key (half_of h)

-- a half with its slot and its key
abbrev pub keyed_half : Slot → List ℕ → Half → KeyedHalf
keyed_half slot key h = record { slot = slot; key = key; half = h }

-- An index maps each ID that `id_in` finds in a half of this slot to the key of that half. It maps no other ID.
abbrev pub Indexes : List (List ℕ × List ℕ) → Slot → (Half → Option (List ℕ)) → End → Type 0
Indexes index slot id_in e = (id key : List ℕ)
    → (lookup (is_at (octets_cmp id)) index ≡ Some key)
    ↔ ((h : Half) × HasHalf e (keyed_half slot key h) × (id_in h ≡ Some id))

-- What holds for each stored end: the maps are sorted, each open place leads to an open half, and the indexes are
-- exact.
pub record IsHeld (s : Halves) : Type 0 where
  pub begun : Rises octets_cmp s.begun.entries
  pub accepted : Rises octets_cmp s.accepted.entries
  pub places : (slot : Slot) (key : List ℕ) (k : ℕ) → IsAt slot key (Open k) s → IsOpen slot key k s
  pub by_own : Indexes s.by_own.entries Accepted (λ h. h.own) (end_of s)
  pub by_peer : Indexes s.by_peer.entries Begun (λ h. h.peer) (end_of s)

-- The half with this key is open.
abbrev pub HasOpen : Slot → List ℕ → Halves → Type 0
HasOpen slot key s = (k : ℕ) × IsAt slot key (Open k) s

-- The half with this key was changed as `change` says. Nothing else changed.
abbrev pub Becomes : Slot → List ℕ → (Half → Half) → Halves → Halves → Type 0
Becomes slot key change s next = (h : Half) → HasHalf (end_of s) (keyed_half slot key h)
    → end_of next ≡ put (end_of s) slot key (change h)

-- A call over the half with this key returns what the step on that half gives, unless memory ran out. On Ok the half
-- after the step is stored there, and nothing else changed.
abbrev pub AnswersOver : Slot → List ℕ → (Half → Result Half EndFault) → Result (Unit {0}) EndFault → Halves → Halves
    → Type 0
AnswersOver slot key step result s next = (h : Half) → HasHalf (end_of s) (keyed_half slot key h)
    → AnswersInMemory (step h >>= λ g. Ok (put (end_of s) slot key g)) result (end_of next)

-- A found half is at its place: open under its number, or closed if it has none.
unfoldable pub IsNumbered : HalfKey → Halves → Type 0
IsNumbered found s = MatchOption found.number ((other : Option (List ℕ)) × IsAt found.slot found.key (Closed other) s)
    (λ k. IsAt found.slot found.key (Open k) s)

-- the name of the half of a slot with this key
abbrev pub name_in : Slot → List ℕ → HalfName
name_in Begun = names.Own
name_in Accepted = names.Peer

-- the slot that is not this one
abbrev pub other_slot : Slot → Slot
other_slot Begun = Accepted
other_slot Accepted = Begun

-- the index of a slot: from the other IDs of its halves to their keys
abbrev pub index_of : Slot → Halves → List (List ℕ × List ℕ)
index_of Begun s = s.by_peer.entries
index_of Accepted s = s.by_own.entries

-- A half that is not yet kept. It is open and knows only the ID that will be its key. No half of its slot has this key.
pub record IsNew (key : List ℕ) (h : HalfState) (s : Halves) : Type 0 where
  pub free : lookup (is_at (octets_cmp key)) (places_of h.slot s) ≡ None
  pub open_half : is_closed h.phase ≡ false
  pub kept : IsHalfKey h.slot key (half_of h)
  pub alone : other_id h.slot (half_of h) ≡ None

-- Each half in the slab has a place that leads to it.
abbrev pub AllPlaced : Halves → Type 0
AllPlaced s = (k : ℕ) (h : HalfState) → get s.slab k ≡ Some h → (key : List ℕ) × IsAt h.slot key (Open k) s

-- the number of open halves, or None if one of them may not close without a message
abbrev pub closing : Table → List (List ℕ × Half) → Option ℕ
closing table [] = Some 0
closing table ((key, half) ∷ more) = cond (is_closed half.phase) (closing table more)
    (cond (may_close table half.phase) (option_map suc (closing table more)) None)
