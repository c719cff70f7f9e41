-- Which entry is lent from the front of octets?
use Rattle.std.specs.Prelude.{ℕ, ◌≤◌, List, [], length, take}
use Rattle.tcap_record.specs.declared.entry.Entry.{Entry}
use Rattle.tcap_record.specs.RecordOctets.{IsEntry}
use Rattle.tcap_record.specs.PartialRecord.{IsWhole}

-- The first n octets are exactly this entry, at this place of the record.
pub record IsLent (place : ℕ) (octets : List ℕ) (entry : Entry) (n : ℕ) : Type 0 where
  pub most : n ≤ length octets
  pub is_whole : IsWhole (take n octets)
  pub is_entry : IsEntry place entry (take n octets) []
