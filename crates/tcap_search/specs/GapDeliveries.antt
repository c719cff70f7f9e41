-- Which entries are delivered in each gap.
use Rattle.std.specs.Prelude.{ℕ, List, [], slice_get, Option, Some, None, Vec}

-- the numbers of a list, or none if there is no list
abbrev pub numbers_of : {A : Type 0} → Option (Vec ℕ A) → List ℕ
numbers_of None = []
numbers_of (Some numbers) = numbers.items

-- the numbers kept for a gap
abbrev pub due_at : {A : Type 0} → ℕ → List (Vec ℕ A) → List ℕ
due_at gap lists = numbers_of (slice_get lists gap)
