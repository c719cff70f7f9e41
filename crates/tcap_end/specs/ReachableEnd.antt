-- What holds for every end that steps can reach.
use Rattle.std.specs.Prelude.{◌≡◌, ◌≢◌, ℕ, ℤ, List, [], Some, None, IsSome}
use Rattle.std.specs.List.{AllByRecursion}
use Rattle.std.specs.Map.{lookup}
use Rattle.std.specs.BTreeMap.{is_at}
use Rattle.std.specs.Ordering.{int_cmp}
pub use Rattle.tcap_lists.specs.Items.{Rises}
use Rattle.tcap_end.specs.declared.half.Phase.{Phase}
use Rattle.tcap_end.specs.declared.half.Phase.TheVariants as phases
use Rattle.tcap_end.specs.declared.half.DialogueState.TheVariants as dialogue_states
use Rattle.tcap_end.specs.declared.half.Slot.{Slot}
use Rattle.tcap_end.specs.declared.half.Slot.TheVariants.{Begun, Accepted}
use Rattle.tcap_end.specs.Table.{octets_cmp}
use Rattle.tcap_end.specs.Half.{Half}
use Rattle.tcap_end.specs.End.{End, KeyedHalf}

-- No invoke ID has an empty list.
abbrev pub HasItems : {A : Type 0} → List (ℤ × List A) → Type 0
HasItems items = AllByRecursion (λ e. e.1 ≢ []) items

-- What a half has in each phase.
abbrev pub FitsPhase : Phase → Half → Type 0
FitsPhase phases.Sent h = IsSome h.own × (h.peer ≡ None) × (h.dialogue_state ≢ dialogue_states.Confirmed) × (h.inn ≡ [])
    × (h.grants ≡ [])
FitsPhase phases.Received h =
    (h.own ≡ None) × IsSome h.peer × (h.dialogue_state ≢ dialogue_states.Confirmed) × (h.out ≡ [])
FitsPhase phases.Active h = IsSome h.own × IsSome h.peer × (h.dialogue_state ≢ dialogue_states.Requested)
FitsPhase phases.Closed h = (h.dialogue_state ≡ dialogue_states.Without) × (h.out ≡ []) × (h.inn ≡ []) × (h.grants ≡ [])

-- What holds for a half: its state fits its phase, and its lists are sorted and without empty entries.
pub record IsHalf (h : Half) : Type 0 where
  pub phase : FitsPhase h.phase h
  pub out : Rises int_cmp h.out
  pub inn : Rises int_cmp h.inn × HasItems h.inn
  pub grants : Rises int_cmp h.grants × HasItems h.grants

-- the halves of a slot
abbrev pub halves_of : Slot → End → List (List ℕ × Half)
halves_of Begun e = e.begun
halves_of Accepted e = e.accepted

-- The end keeps that half in that slot with that key.
abbrev pub HasHalf : End → KeyedHalf → Type 0
HasHalf e found = lookup (is_at (octets_cmp found.key)) (halves_of found.slot e) ≡ Some found.half

-- The key of a half whose end sent the Begin is its own transaction ID, that of any other half the peer's ID.
abbrev pub IsHalfKey : Slot → List ℕ → Half → Type 0
IsHalfKey Begun key h = h.own ≡ Some key
IsHalfKey Accepted key h = h.peer ≡ Some key

-- Two halves have the same slot and the same key.
abbrev pub IsSame : KeyedHalf → KeyedHalf → Type 0
IsSame f g = (f.slot ≡ g.slot) × (f.key ≡ g.key)

-- What holds for an end: its halves are sorted by their keys and sound, and each has the right key.
pub record IsEnd (e : End) : Type 0 where
  pub begun : Rises octets_cmp e.begun
  pub accepted : Rises octets_cmp e.accepted
  pub halves : (f : KeyedHalf) → HasHalf e f → IsHalf f.half
  pub kept : (f : KeyedHalf) → HasHalf e f → IsHalfKey f.slot f.key f.half
  -- No two halves have the same own transaction ID, and no two the same peer's ID.
  pub one_own : (f g : KeyedHalf) (id : List ℕ) → HasHalf e f → HasHalf e g
      → f.half.own ≡ Some id → g.half.own ≡ Some id → IsSame f g
  pub one_peer : (f g : KeyedHalf) (id : List ℕ) → HasHalf e f → HasHalf e g
      → f.half.peer ≡ Some id → g.half.peer ≡ Some id → IsSame f g
