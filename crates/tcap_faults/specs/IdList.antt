-- Which transaction IDs are kept of a list? Each is kept in order, except one that repeats the ID before it.
use Rattle.std.specs.Prelude.{◌≡◌, ℕ, Bool, List, [], ◌∷◌, Contains, Option, Some, None, not}
use Rattle.std.specs.List.{find}
use Rattle.tcap_faults.specs.Counts.{is_nothing}
use Rattle.tcap_faults.specs.declared.transaction.id_list.Ids.{Ids}
use Rattle.tcap_faults.specs.TangledIds.{two_differ}

-- The first ID of a list.
abbrev pub ids_first : List (List ℕ) → Option (List ℕ)
ids_first [] = None
ids_first (id ∷ more) = Some id

-- The IDs that are kept.
abbrev pub ids_kept : Option (List ℕ) → List (List ℕ) → List (List ℕ)
ids_kept None more = []
ids_kept (Some id) more = id ∷ more

-- `kept` represents this list: both have the same first ID and the same members, a search finds the same ID in both,
-- and more than one ID is kept exactly if two IDs of the list differ.
pub record AreIds (ids : List (List ℕ)) (kept : Ids) : Type 0 where
  pub first : kept.first ≡ ids_first ids
  pub there : (id : List ℕ) → Contains ids id → Contains (ids_kept kept.first kept.more.items) id
  pub back : (id : List ℕ) → Contains (ids_kept kept.first kept.more.items) id → Contains ids id
  pub found : (passes : List ℕ → Bool) → find passes (ids_kept kept.first kept.more.items) ≡ find passes ids
  pub several : not (is_nothing kept.more.items) ≡ two_differ ids

-- Both lists have the same members, in any order.
pub record AreSame (xs ys : List (List ℕ)) : Type 0 where
  pub there : (id : List ℕ) → Contains xs id → Contains ys id
  pub back : (id : List ℕ) → Contains ys id → Contains xs id

-- `kept` represents a list with the same members as this list, in some order; None represents an empty list.
abbrev pub AreAmong : List (List ℕ) → Option Ids → Type 0
AreAmong ids None = ids ≡ []
AreAmong ids (Some kept) = (those : List (List ℕ)) × AreIds those kept × AreSame those ids

-- The ID is a member of this list; None means that the list is empty.
abbrev pub IsOneOf : List (List ℕ) → Option (List ℕ) → Type 0
IsOneOf ids None = ids ≡ []
IsOneOf ids (Some id) = Contains ids id
