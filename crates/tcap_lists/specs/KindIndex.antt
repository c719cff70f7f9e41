-- Which kinds of places the index of a row knows.
use Rattle.std.specs.Prelude.{ℕ, List, [], Option, Some, None}
use Rattle.std.specs.Global.{Box}
use Rattle.tcap_lists.specs.declared.kind_index.IndexParts.{IndexParts}
use Rattle.tcap_lists.specs.Chains.{kinds_in}

-- the kinds of the known places, from the first place on; none if the index was not made
abbrev pub indexed_kinds : Option (Box IndexParts) → List ℕ
indexed_kinds None = []
indexed_kinds (Some box) = kinds_in box.value.chains.marks.items
