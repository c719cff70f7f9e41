-- Which kind each place of a row has, and which places of a kind come before others.
use Rattle.std.specs.Prelude.{◌≡◌, ℕ, ◌<◌, List, Option, Some, None, map, slice_index_or}
use Rattle.std.specs.List.{slice_get}
use Rattle.tcap_lists.specs.declared.chains.Mark.{Mark}

-- the number of the kind of each place
abbrev pub kinds_in : List Mark → List ℕ
kinds_in marks = map (λ mark. mark.kind) marks

-- Each mark's `before` is greater than all earlier places of its kind.
abbrev pub AreBefore : List Mark → Type 0
AreBefore marks =
    (n at : ℕ) (mark other : Mark) → slice_get marks at ≡ Some mark → slice_get marks n ≡ Some other → n < at
    → other.kind ≡ mark.kind → n < mark.before

-- The end of each kind is greater than all its places.
abbrev pub AreEnds : List Mark → List ℕ → Type 0
AreEnds marks ends = (at : ℕ) (mark : Mark) → slice_get marks at ≡ Some mark → at < slice_index_or ends mark.kind 0

-- An item in a place has the kind that is known for the place.
abbrev pub AreMarked : List (Option ℕ) → List ℕ → Type 0
AreMarked places kinds =
    (at kind known : ℕ) → slice_index_or places at None ≡ Some kind → slice_get kinds at ≡ Some known → known ≡ kind
