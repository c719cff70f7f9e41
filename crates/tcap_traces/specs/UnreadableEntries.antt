-- Which unreadable entries of a segment are noted, and which one is the first after an entry?
use Rattle.std.specs.Prelude.{ℕ, Bool, true, false, List, [], ◌∷◌, ◌++◌, nat_lt, Option, Some, None, slice_get}
use Rattle.std.specs.List.{find}
use Rattle.tcap_traces.specs.declared.unreadable_entries.Unread.{Unread}

-- the noted numbers; and true if a dialogue with IDs began since the last of them, or if there is none yet
abbrev pub Notes : Type 0
Notes = List ℕ × Bool

abbrev pub notes_in : Unread → Notes
notes_in u = (u.numbers.items, u.has_begun)

-- The notes after the entry with this number, given whether it is unreadable, and whether a dialogue with IDs begins
-- with it. Of several unreadable entries without such a beginning between them, only the first is noted.
abbrev pub after_entry : ℕ → Bool → Bool → Notes → Notes
after_entry number unreadable true (numbers, begun) = (numbers, true)
after_entry number true false (numbers, true) = (numbers ++ number ∷ [], false)
after_entry number unreadable begins notes = notes

-- the first noted number above this one, or the first of all
abbrev pub first_above : Option ℕ → List ℕ → Option ℕ
first_above None numbers = slice_get numbers 0
first_above (Some number) numbers = find (λ other. nat_lt number other) numbers
