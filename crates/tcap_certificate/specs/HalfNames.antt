-- Which runs differ only in the names of halves: a half has its own transaction ID and its peer's as names.
use Rattle.std.specs.Prelude.{◌≡◌, List, [], ◌∷◌, Some}
use Rattle.tcap_record.specs.declared.entry.End.{End as Side}
use Rattle.tcap_end.specs.declared.half.HalfName.{HalfName}
use Rattle.tcap_end.specs.End.{named}
use Rattle.tcap_end.specs.Table.{Table}
use Rattle.tcap_model.specs.World.{Item, World, empty, end_at}
use Rattle.tcap_model.specs.Run.{Event, Expires, Closes, after}
use Rattle.tcap_certificate.specs.Certificate.{Certificate}
use Rattle.tcap_certificate.specs.DescribedRun.{Follows}

-- Both names identify the same half of an end, or none.
abbrev pub NamesSame : World → Side → HalfName → HalfName → Type 0
NamesSame w side name other = named (end_at side w) name ≡ named (end_at side w) other

-- The events are equal, except that they may name the same half in two ways.
abbrev pub IsSameEvent : World → Event → Event → Type 0
IsSameEvent w (Expires side name id) event =
    (other : HalfName) × (event ≡ Expires side other id) × NamesSame w side name other
IsSameEvent w (Closes side name) event = (other : HalfName) × (event ≡ Closes side other) × NamesSame w side name other
IsSameEvent w event other = event ≡ other

-- From this world on, the events are equal one by one, except that they may name the same half in two ways.
abbrev pub AreSameEvents : Table → World → List Event → List Event → Type 0
AreSameEvents table w [] others = others ≡ []
AreSameEvents table w (event ∷ events) others =
    (first : Event) × (rest : List Event) × (others ≡ first ∷ rest) × IsSameEvent w event first
    × ((next : World) → after table event w ≡ Some next → AreSameEvents table next events rest)

-- The certificate describes these events for these items, no matter which names the events use for halves.
abbrev pub IsDescribedBy : Table → Certificate → List Item → List Event → Type 0
IsDescribedBy table certificate items events =
    (others : List Event) × AreSameEvents table empty events others × Follows certificate items others
