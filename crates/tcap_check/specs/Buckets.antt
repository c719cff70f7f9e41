-- Which items does a `Buckets` hold for each number?
use Rattle.std.specs.Prelude.{ℕ, List, [], length, slice_get, Option, Some, None, Vec}
use Rattle.tcap_check.specs.declared.buckets.Buckets.{Buckets}

-- the items of a list, or none if there is no list
abbrev pub items_of : {T A : Type 0} → Option (Vec T A) → List T
items_of None = []
items_of (Some list) = list.items

-- the items of this number, in the order in which they were added
abbrev pub list_at : {T : Type 0} → ℕ → Buckets T → List T
list_at n b = items_of (slice_get b.lists.items n)

-- the count of numbers that have a list
abbrev pub count_lists : {T : Type 0} → Buckets T → ℕ
count_lists b = length b.lists.items
