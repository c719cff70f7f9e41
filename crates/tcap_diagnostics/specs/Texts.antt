-- What do functions that append words leave of a text?
use Rattle.std.specs.Prelude.{◌≡◌, ℕ, List, ◌++◌}
use Rattle.tcap_diagnostics.specs.declared.rules.BrokenRule.{BrokenRule}

-- the new text is the old one, with text appended
abbrev pub Extends : List ℕ → List ℕ → Type 0
Extends old new = (appended : List ℕ) × (new ≡ old ++ appended)

-- the column of a broken rule
abbrev pub column_of : BrokenRule → ℕ
column_of broken = broken.column
