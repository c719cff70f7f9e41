-- What it means that one end alone is found lawful.
use Rattle.std.specs.Prelude.{ℕ, List, length, Option, Some, None}
use Rattle.std.specs.Io.KnownBytes.{Appends}
use Rattle.tcap_record.specs.declared.entry.End.{End as Side}
use Rattle.tcap_end.specs.Table.{Table}
use Rattle.tcap_model.specs.World.{Item}
use Rattle.tcap_certificate.specs.LossCounts.{IsLawfulUnheard}
use Rattle.tcap_judge.specs.declared.outcome.Outcome.TheVariants.{LawfulFor}
use Rattle.tcap_judge.specs.Device.{Device}
use Rattle.tcap_judge.specs.LawfulRecord.{FindsLawful, ReadsItems}
use Rattle.tcap_judge.specs.Outcome.{outcome_line}

-- The readers returned a record and an operation table. Some run, in which this end keeps the rules and its peer may do
-- anything, sends the items of the record in this order. It loses `unheard` messages of the peer, which this end does
-- not receive. The writer took the line `LAWFUL COUNT unheard NUMBER`, with the number of the items and `unheard`.
pub record FindsLawfulFor (side : Side) (entries table : Device) (taken taken' : Option (List ℕ)) : Type 0 where
  pub operations : Table
  pub items : List Item
  pub unheard : ℕ
  pub returned : ReadsItems entries table operations items
  pub lawful : IsLawfulUnheard side items operations unheard
  pub line : Appends taken taken' (outcome_line (LawfulFor (length items) unheard))

-- Both ends are found lawful together (`None`), or the given end alone.
abbrev pub FindsLawfulBy : Option Side → Device → Device → Option (List ℕ) → Option (List ℕ) → Type 0
FindsLawfulBy None entries table taken taken' = FindsLawful entries table taken taken'
FindsLawfulBy (Some side) entries table taken taken' = FindsLawfulFor side entries table taken taken'
