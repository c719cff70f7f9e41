-- How are the lines of a record written as its octets come?
use Rattle.std.specs.Prelude.{◌≡◌, ℕ, ⊤, Bool, List, ◌++◌, Option, Result, Ok, Err}
use Rattle.std.specs.List.{list_any}
use Rattle.std.specs.Io.KnownBytes.{Appends, Consumes}
use Rattle.tcap_record.specs.declared.entry.Entry.{Entry}
use Rattle.tcap_record.specs.declared.fault.FeedFault.{FeedFault}
use Rattle.tcap_record.specs.PartialRecord.{FramerState, IsFramedSoFar}
use Rattle.tcap_record.specs.Lines.{lines_of}
use Rattle.tcap_record.specs.Reading.{IsReadAs, EndsOnlyAtEnd, FailsOnlyByReader}
use Rattle.tcap_lines.specs.ShowRun.{is_bad}
use Rattle.tcap_lines.specs.declared.stop.Stop.{Stop}
use Rattle.tcap_lines.specs.declared.stop.Stop.TheVariants as stops

-- The octets taken are these entries and the octets held. The lines of the entries were written, and `bad` says whether
-- one of them is not a message.
pub record ShownSoFar (returned : List ℕ) (entries : List Entry) (held : FramerState) (bad : Bool)
    (taken taken' : Option (List ℕ)) : Type 0 where
  pub fed : IsFramedSoFar returned entries held
  pub written : Appends taken taken' (lines_of entries)
  pub bad_is : bad ≡ list_any is_bad entries

-- If `ShownSoFar` holds before these octets are taken, it holds after them, of those entries and perhaps more.
abbrev pub Leads : FramerState → Bool → Option (List ℕ) → List ℕ → FramerState → Bool → Option (List ℕ) → Type 0
Leads old_held old_bad old_taken octets held bad taken =
    (returned : List ℕ) (entries : List Entry) (start : Option (List ℕ))
    → ShownSoFar returned entries old_held old_bad start old_taken
    → (shown : List Entry) × ShownSoFar (returned ++ octets) shown held bad start taken

-- The octets read are these entries, whose lines were written, and this end.
pub record ShowsAll (remaining remaining' : Option (List ℕ)) (failures failures' : ℕ) (bad : Bool)
    (taken taken' : Option (List ℕ)) (end : Result (Unit {0}) FeedFault) : Type 0 where
  pub returned : List ℕ
  pub entries : List Entry
  pub tells : Consumes remaining remaining' returned
  pub is_read : IsReadAs entries end returned
  pub ended : EndsOnlyAtEnd remaining' end
  pub failed : FailsOnlyByReader failures failures' end
  pub written : Appends taken taken' (lines_of entries)
  pub bad_is : bad ≡ list_any is_bad entries

-- the predicate for the end of the record, unless the writer failed
abbrev pub UnlessWrite : (Result (Unit {0}) FeedFault → Type 0) → Result (Unit {0}) Stop → Type 0
UnlessWrite Holds (Ok x) = Holds (Ok tt)
UnlessWrite Holds (Err (stops.Fault f)) = Holds (Err f)
UnlessWrite Holds (Err stops.Write) = ⊤
