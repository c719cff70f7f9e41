-- What does a run print of a record?
use Rattle.std.specs.Prelude.{◌≡◌, ℕ, ◌⊎◌, Bool, true, false, List, [], ◌++◌, take, Option, Result, Ok, Err, codes, if◌then◌else◌}
use Rattle.std.specs.List.{list_any}
use Rattle.std.specs.Io.KnownBytes.{Appends, Consumes}
use Rattle.tcap_record.specs.declared.entry.Entry.{Entry}
use Rattle.tcap_record.specs.declared.entry.Body.{Body}
use Rattle.tcap_record.specs.declared.entry.Body.TheVariants.{Good, Bad, Quiet}
use Rattle.tcap_record.specs.declared.fault.FeedFault.{FeedFault}
use Rattle.tcap_record.specs.FaultNumber.{feed_number_of}
use Rattle.tcap_record.specs.Reading.{IsReadAs, EndsOnlyAtEnd, FailsOnlyByReader}
use Rattle.tcap_record.specs.Lines.{fault_line, line_end, lines_of}
use Rattle.tcap_lines.specs.declared.status.Status.{Status}
use Rattle.tcap_lines.specs.declared.status.Status.TheVariants as statuses

-- the exit status of the program
abbrev pub status_number : Status → ℕ
status_number statuses.Fine = 0
status_number statuses.Refuted = 1
status_number statuses.NotShown = 2
status_number statuses.Fault = 3

-- the line of a fault of the record
abbrev pub feed_fault_line : FeedFault → List ℕ
feed_fault_line fault = fault_line (feed_number_of fault.reason) fault.place

-- the line that is printed if memory runs out
abbrev pub memory_line : List ℕ
memory_line = codes "FAULT 99 0" ++ line_end

-- the last line, if the record has a fault
abbrev pub end_line : Result (Unit {0}) FeedFault → List ℕ
end_line (Ok _) = []
end_line (Err fault) = feed_fault_line fault

-- the entry is not a message and not a quiet mark
abbrev pub is_bad : Entry → Bool
is_bad entry = is_bad_body entry.body
  where
    is_bad_body : Body → Bool
    is_bad_body (Good m) = false
    is_bad_body (Bad f) = true
    is_bad_body Quiet = false

-- there is a fault line among the lines of the entries, or after them
abbrev pub has_fault : List Entry → Result (Unit {0}) FeedFault → Bool
has_fault entries (Ok _) = list_any is_bad entries
has_fault entries (Err fault) = true

-- The text and the status for these entries and this end: their lines and the fault's. If memory ran out, the lines of
-- the first entries and the memory line.
abbrev pub Prints : List Entry → Result (Unit {0}) FeedFault → List ℕ → Status → Type 0
Prints entries end text status =
    ((text ≡ lines_of entries ++ end_line end)
    × (status ≡ (if has_fault entries end then statuses.Fault else statuses.Fine)))
    ⊎ ((count : ℕ) × (text ≡ lines_of (take count entries) ++ memory_line) × (status ≡ statuses.Fault))

-- The octets read are these entries and this end, which agrees with the reader's own end or failure. The writer took
-- what is printed of them.
pub record Shows (remaining remaining' : Option (List ℕ)) (failures failures' : ℕ) (taken taken' : Option (List ℕ))
    (status : Status)
    : Type 0 where
  pub returned : List ℕ
  pub entries : List Entry
  pub end : Result (Unit {0}) FeedFault
  pub text : List ℕ
  pub tells : Consumes remaining remaining' returned
  pub is_read : IsReadAs entries end returned
  pub ended : EndsOnlyAtEnd remaining' end
  pub failed : FailsOnlyByReader failures failures' end
  pub prints : Prints entries end text status
  pub takes : Appends taken taken' text
