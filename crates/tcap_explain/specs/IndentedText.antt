-- What is a text with indented lines?
use Rattle.std.specs.Prelude.{ℕ, Bool, true, List, [], ◌∷◌, ◌++◌, ◌==◌, cond, codes}
use Rattle.tcap_record.specs.Lines.{line_end}

-- The rest of a text, from the start of a line (`true`) or from within one. Two spaces come before each line, and the
-- last line is ended.
abbrev pub indented_at : Bool → List ℕ → List ℕ
indented_at starts [] = cond starts [] line_end
indented_at starts (c ∷ more) = cond starts (codes "  ") [] ++ c ∷ indented_at (c == 10) more

-- the text with two spaces before each line
abbrev pub indented : List ℕ → List ℕ
indented text = indented_at true text
