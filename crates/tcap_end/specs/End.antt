-- What one end is: the halves of its transactions (Q.774 3.3, transaction sub-layer).
use Rattle.std.specs.Prelude.{ℕ, Bool, true, false, List, [], ◌∷◌, Option, Some, None, Result, Ok, ◌&&◌, cond}
use Rattle.std.specs.Str.{bytes_eq}
use Rattle.std.specs.BTreeMap.{insert_entry}
use Rattle.tcap_end.specs.declared.fault.EndFault.{EndFault}
use Rattle.tcap_end.specs.declared.fault.EndFault.TheVariants as faults
use Rattle.tcap_end.specs.declared.half.HalfName.{HalfName}
use Rattle.tcap_end.specs.declared.half.HalfName.TheVariants as names
use Rattle.tcap_end.specs.declared.half.Slot.{Slot}
use Rattle.tcap_end.specs.declared.half.Slot.TheVariants.{Begun, Accepted}
use Rattle.tcap_end.specs.Step.{needs, ◌>>◌}
use Rattle.tcap_end.specs.Table.{octets_cmp}
use Rattle.tcap_end.specs.Half.{Half, is_closed}

-- The halves whose Begin this end sent, by their own transaction IDs, and those whose Begin it received, by the peer's
-- IDs. Closed halves are kept, because no transaction ID of either side is used twice: this profile's choice.
pub record End : Type 0 where
  pub begun : List (List ℕ × Half)
  pub accepted : List (List ℕ × Half)

-- an end without halves, as before its first message
abbrev pub nothing : End
nothing = record { begun = []; accepted = [] }

-- a half, with the list in which the end keeps it, and the ID that the list has it by: its key
pub record KeyedHalf : Type 0 where
  pub slot : Slot
  pub key : List ℕ
  pub half : Half

-- whether `other` is this transaction ID
abbrev pub is_id : List ℕ → Option (List ℕ) → Bool
is_id id None = false
is_id id (Some other) = bytes_eq id other

-- the first half in a list that passes a test, with its ID there
abbrev pub first_half : (Half → Bool) → Slot → List (List ℕ × Half) → Option KeyedHalf
first_half passes slot [] = None
first_half passes slot ((key, half) ∷ more) =
    cond (passes half) (Some (record { slot = slot; key = key; half = half })) (first_half passes slot more)

-- the first half of an end that passes a test, with the place where it is kept
abbrev pub half_where : (Half → Bool) → End → Option KeyedHalf
half_where passes e = by_begun (first_half passes Begun e.begun)
  where
    by_begun : Option KeyedHalf → Option KeyedHalf
    by_begun None = first_half passes Accepted e.accepted
    by_begun (Some kept) = Some kept

-- the half with that own transaction ID
abbrev pub with_own : End → List ℕ → Option KeyedHalf
with_own e id = half_where (λ h. is_id id h.own) e

-- the half with that peer's transaction ID
abbrev pub with_peer : End → List ℕ → Option KeyedHalf
with_peer e id = half_where (λ h. is_id id h.peer) e

-- the half with that name
abbrev pub named : End → HalfName → Option KeyedHalf
named e (names.Own id) = with_own e id
named e (names.Peer id) = with_peer e id

-- the end with this half added, or put in the place of the half with this ID
abbrev pub put : End → Slot → List ℕ → Half → End
put e Begun key half = record e { begun = insert_entry octets_cmp e.begun key half }
put e Accepted key half = record e { accepted = insert_entry octets_cmp e.accepted key half }

-- whether all halves of a list are closed
abbrev pub all_closed : List (List ℕ × Half) → Bool
all_closed [] = true
all_closed ((key, half) ∷ more) = cond (is_closed half.phase) (all_closed more) false

-- A quiet mark requires that all halves are closed. After it there are no halves and no used IDs.
abbrev pub quiet : End → Result End EndFault
quiet e = do
  needs (all_closed e.begun && all_closed e.accepted) faults.StillOpen
  Ok nothing
