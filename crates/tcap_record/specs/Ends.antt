-- The two ends of a record, and their letters.
use Rattle.std.specs.Prelude.{ℕ, Bool, true, false, List, Option, Some, None, codes}
use Rattle.tcap_record.specs.declared.entry.End.{End}
use Rattle.tcap_record.specs.declared.entry.End.TheVariants as ends

-- the other end
abbrev pub other : End → End
other ends.A = ends.B
other ends.B = ends.A

-- whether both are the same end
abbrev pub is_side : End → End → Bool
is_side ends.A ends.A = true
is_side ends.B ends.B = true
is_side _ _ = false

-- whether an entry has a sender, and it is this end
abbrev pub is_entry_of : End → Option End → Bool
is_entry_of side None = false
is_entry_of side (Some sender) = is_side side sender

-- the letter of an end
abbrev pub letter : End → List ℕ
letter ends.A = codes "A"
letter ends.B = codes "B"
