-- What it means that a record is found lawful, in terms of the standard and of runs alone. It does not mention
-- certificates, their replay or entries.
use Rattle.std.specs.Prelude.{◌≡◌, ℕ, List, [], ◌∷◌, ◌++◌, length, Option, Ok, codes}
use Rattle.std.specs.Fmt.{decimal}
use Rattle.std.specs.Io.KnownBytes.{Appends, Consumes, IsAtEnd}
use Rattle.tcap_msg.specs.Message.{Spells}
use Rattle.tcap_record.specs.RecordOctets.{octet_of, quiet_octet}
use Rattle.tcap_record.specs.Lines.{line_end}
use Rattle.tcap_end.specs.Table.{Table}
use Rattle.tcap_end.specs.TableText.{IsTableOf}
use Rattle.tcap_model.specs.World.{Item, Sent}
use Rattle.tcap_model.specs.Run.{IsLawful}
use Rattle.tcap_judge.specs.Device.{Device}

-- The octets spell these items, one after the other, with no octet left over. A message is spelled by the octet of the
-- end that sent it and a spelling of the message. A quiet mark is spelled by its octet.
abbrev pub SpellsRecord : List Item → List ℕ → Type 0
SpellsRecord [] octets = octets ≡ []
SpellsRecord (Sent side message ∷ items) octets =
    (element others : List ℕ) × (octets ≡ octet_of side ∷ element ++ others) × Spells message element
    × SpellsRecord items others
SpellsRecord (Item.Quiet ∷ items) octets =
    (others : List ℕ) × (octets ≡ quiet_octet ∷ others) × SpellsRecord items others

-- The reader returned these octets, up to its end.
abbrev pub ReadsAllOctets : Device → List ℕ → Type 0
ReadsAllOctets d octets = Consumes d.before d.after octets × IsAtEnd d.after

-- Two readers returned the octets of a record and the text of an operation table, both up to their ends, and the octets
-- spell these items.
pub record ReadsItems (entries table : Device) (operations : Table) (items : List Item) : Type 0 where
  pub octets : List ℕ
  pub text : List ℕ
  pub tells : ReadsAllOctets entries octets
  pub tells_table : ReadsAllOctets table text
  pub is_table : IsTableOf text (Ok operations)
  pub spells : SpellsRecord items octets

-- the line `LAWFUL COUNT`
abbrev pub lawful_line : ℕ → List ℕ
lawful_line count = codes "LAWFUL " ++ decimal count ++ line_end

-- The readers returned a record and an operation table. Two lawful ends may have sent the items of the record, in this
-- order: a run of `moves` steps sends them. The writer took the line `LAWFUL COUNT`, with the number of the items.
-- `taken` and `taken'` are the octets that the writer took before the call and after it, if they are known.
pub record FindsLawful (entries table : Device) (taken taken' : Option (List ℕ)) : Type 0 where
  pub operations : Table
  pub items : List Item
  pub moves : ℕ
  pub returned : ReadsItems entries table operations items
  pub lawful : IsLawful items operations moves
  pub line : Appends taken taken' (lawful_line (length items))
