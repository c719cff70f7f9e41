-- What is kept of the entries before one entry of a record, and in which of them did an end use an own ID again?
use Rattle.std.specs.Prelude.{◌≡◌, ℕ, List, map, take}
use Rattle.tcap_record.specs.declared.entry.End.{End as Side}
use Rattle.tcap_record.specs.declared.entry.Entry.{Entry}
use Rattle.tcap_end.specs.Table.{Table}
use Rattle.tcap_model.specs.World.{Item}
use Rattle.tcap_model.specs.Entries.{item_of}
use Rattle.tcap_faults.specs.declared.verdict.earlier_entries.Replay.{Replay}
use Rattle.tcap_faults.specs.SearchState.{AreCounted, IsHalfKey}
use Rattle.tcap_faults.specs.FaultSubject.{items_among}
use Rattle.tcap_faults.specs.Unblamed.{again_among}

-- The items among the first `number` entries.
abbrev pub items_up_to : List Entry → ℕ → List Item
items_up_to entries number = items_among (map item_of (take number entries))

-- The replay is of the first `number` entries, for this end.
pub record IsReplayed (table : Table) (side : Side) (entries : List Entry) (number : ℕ) (replay : Replay) : Type 0 where
  pub are : IsHalfKey table (items_up_to entries number) replay.kept
  pub counted : AreCounted (items_up_to entries number) number
  pub again : replay.again ≡ again_among table side entries number
