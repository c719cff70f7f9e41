-- What `run_check` prints: the outcome of replaying a certificate over a record, for both ends or for one alone.
use Rattle.std.specs.Prelude.{◌≡◌, ℕ, ◌⊎◌, List, length, Option, None, Result, Ok, Err}
use Rattle.std.specs.Io.KnownBytes.{Appends, Consumes}
use Rattle.tcap_record.specs.declared.entry.End.{End as Side}
use Rattle.tcap_record.specs.declared.entry.Entry.{Entry}
use Rattle.tcap_record.specs.declared.fault.FeedFault.{FeedFault}
use Rattle.tcap_record.specs.declared.fault.FeedReason.TheVariants as feed
use Rattle.tcap_record.specs.FaultNumber.{feed_number_of}
use Rattle.tcap_record.specs.Reading.{IsReadAs, EndsOnlyAtEnd, FailsOnlyByReader}
use Rattle.tcap_end.specs.declared.table.TableFault.{TableFault}
use Rattle.tcap_end.specs.Fault.{table_number_of}
use Rattle.tcap_end.specs.Table.{Table}
use Rattle.tcap_end.specs.TableText.{IsTableOf}
use Rattle.tcap_certificate.specs.declared.fault.CheckFault.{CheckFault}
use Rattle.tcap_model.specs.Entries.{AreItems}
use Rattle.tcap_model.specs.Run.{Event, IsRunOf}
use Rattle.tcap_model.specs.World.{Item}
use Rattle.tcap_certificate.specs.Certificate.{Certificate}
use Rattle.tcap_certificate.specs.HalfNames.{IsDescribedBy}
use Rattle.tcap_check.specs.GivenRun.{ShowsReason}
use Rattle.tcap_certificate_text.specs.CertificateText.{IsCertificateText}
use Rattle.tcap_judge.specs.declared.text_reading.TextFault.{TextFault}
use Rattle.tcap_judge.specs.declared.text_reading.TextFault.TheVariants as faults
use Rattle.tcap_judge.specs.declared.outcome.Outcome.{Outcome}
use Rattle.tcap_judge.specs.declared.outcome.Outcome.TheVariants.{Lawful, NotShown, Faulty}
use Rattle.tcap_lines.specs.declared.status.Status.{Status}
use Rattle.tcap_judge.specs.Device.{Device, IsUntouched}
use Rattle.tcap_judge.specs.LawfulOutcome.{IsShown, lawful_by, replayed_by}
use Rattle.tcap_judge.specs.Outcome.{IsOutcomeLine}
use Rattle.tcap_judge.specs.Text.{ReadsText}

-- the outcome if memory ran out
abbrev pub out_of_memory : Outcome
out_of_memory = Faulty 99 0

-- ---- texts

-- the greatest length of a text, in octets
abbrev pub text_limit : ℕ
text_limit = 67108864

-- the outcome if a text could not be read; its number is `too_long` if the text is too long
abbrev pub text_fault_outcome : ℕ → TextFault → Outcome
text_fault_outcome too_long faults.TooLong = Faulty too_long 0
text_fault_outcome too_long (faults.Read place) = Faulty (feed_number_of feed.Read) place
text_fault_outcome too_long faults.Memory = out_of_memory

-- the table, or the outcome if it has a fault
abbrev pub table_or_outcome : Result Table TableFault → Result Table Outcome
table_or_outcome (Ok table) = Ok table
table_or_outcome (Err fault) = Err (Faulty (table_number_of fault.reason) fault.place)

-- The table that a text is, or the outcome if there is no table.
abbrev pub IsTableGiven : Result (List ℕ) TextFault → Result Table Outcome → Type 0
IsTableGiven (Ok octets) given =
    (result : Result Table TableFault) × IsTableOf octets result × (given ≡ table_or_outcome result)
IsTableGiven (Err fault) given = given ≡ Err (text_fault_outcome 30 fault)

-- The certificate that a text is, or the outcome if there is no certificate.
abbrev pub IsCertificateGiven : Result (List ℕ) TextFault → Result Certificate Outcome → Type 0
IsCertificateGiven (Ok octets) (Ok c) = IsCertificateText octets c
IsCertificateGiven (Ok octets) (Err reported) =
    (reported ≡ Faulty 60 0) × ((c : Certificate) → IsCertificateText octets c → ⊥)
IsCertificateGiven (Err fault) given = given ≡ Err (text_fault_outcome 60 fault)

-- The reader returned the text of this table, or there is no table for this reason; or memory ran out.
pub record ReadsTable (d : Device) (given : Result Table Outcome) : Type 0 where
  pub text : Result (List ℕ) TextFault
  pub reads : ReadsText text_limit d.before d.after d.failed_before d.failed_after text
  pub is : (given ≡ Err out_of_memory) ⊎ IsTableGiven text given

-- The reader returned the text of this certificate, or there is no certificate for this reason; or memory ran out.
pub record ReadsCertificate (d : Device) (given : Result Certificate Outcome) : Type 0 where
  pub text : Result (List ℕ) TextFault
  pub reads : ReadsText text_limit d.before d.after d.failed_before d.failed_after text
  pub is : (given ≡ Err out_of_memory) ⊎ IsCertificateGiven text given

-- ---- the record

-- the outcome of a replay over this many entries
abbrev pub replay_outcome : Option Side → ℕ → Result (List Event) CheckFault → Outcome
replay_outcome judged count (Ok events) = lawful_by judged count events
replay_outcome judged count (Err fault) = NotShown fault

-- the outcome of these entries, or the fault of the record that ends them
abbrev pub record_outcome : Option Side → Table → Certificate → List Entry → Result (Unit {0}) FeedFault → Outcome
record_outcome judged table c entries (Ok end) =
    replay_outcome judged (length entries) (replayed_by judged table c entries)
record_outcome judged table c entries (Err fault) = Faulty (feed_number_of fault.reason) fault.place

-- The reader returned these entries, and this end after them. The reader is at its end if the record ends, even within
-- an entry. It failed once if the end is its failure.
pub record ReadsRecord (d : Device) (entries : List Entry) (end : Result (Unit {0}) FeedFault) : Type 0 where
  pub returned : List ℕ
  pub tells : Consumes d.before d.after returned
  pub is_read : IsReadAs entries end returned
  pub ended : EndsOnlyAtEnd d.after end
  pub failed : FailsOnlyByReader d.failed_before d.failed_after end

-- If the outcome is that the certificate does not show the record lawful, the certificate and the entries show the
-- reason.
abbrev pub IsReasoned : Option Side → Table → Certificate → List Entry → Outcome → Type 0
IsReasoned judged table c entries (NotShown fault) = ShowsReason judged table c entries fault
IsReasoned judged table c entries outcome = Unit {0}

-- If the certificate describes a run of two ends that sends exactly the items of the record, the outcome is lawful.
abbrev pub SaysOfDescribed : Table → Certificate → List Entry → Result (Unit {0}) FeedFault → Outcome → Type 0
SaysOfDescribed table c entries end outcome =
    (items : List Item) (events : List Event) → end ≡ Ok tt → AreItems entries items
    → IsRunOf items table events → IsDescribedBy table c items events → outcome ≡ Lawful (length items)

-- The reader returned these entries, and this end after them. The outcome is that of the entries, and it holds.
pub record SaysOfRecord (judged : Option Side) (table : Table) (c : Certificate) (d : Device) (outcome : Outcome)
    : Type 0 where
  pub entries : List Entry
  pub end : Result (Unit {0}) FeedFault
  pub reads : ReadsRecord d entries end
  pub says : outcome ≡ record_outcome judged table c entries end
  pub shown : IsShown judged table entries outcome
  pub reasoned : IsReasoned judged table c entries outcome
  pub described : judged ≡ None → SaysOfDescribed table c entries end outcome

-- `SaysOfRecord` holds, or memory ran out.
abbrev pub JudgesRecord : Option Side → Table → Certificate → Device → Outcome → Type 0
JudgesRecord judged table c d outcome = (outcome ≡ out_of_memory) ⊎ SaysOfRecord judged table c d outcome

-- ---- record, table and certificate

-- If the certificate has a fault, the outcome is this fault, and nothing of the record is read.
abbrev pub JudgesBy : Option Side → Table → Result Certificate Outcome → Device → Outcome → Type 0
JudgesBy judged table (Ok c) entries outcome = JudgesRecord judged table c entries outcome
JudgesBy judged table (Err reported) entries outcome = (outcome ≡ reported) × IsUntouched entries

-- If the table has a fault, the outcome is this fault, and nothing of the certificate and the record is read.
abbrev pub JudgesWith : Option Side → Result Table Outcome → Device → Device → Outcome → Type 0
JudgesWith judged (Ok table) certificate entries outcome =
    (given : Result Certificate Outcome) × ReadsCertificate certificate given
    × JudgesBy judged table given entries outcome
JudgesWith judged (Err reported) certificate entries outcome =
    (outcome ≡ reported) × IsUntouched certificate × IsUntouched entries

-- The outcome is that of what the three readers returned.
abbrev pub Judges : Option Side → Device → Device → Device → Outcome → Type 0
Judges judged entries table certificate outcome =
    (given : Result Table Outcome) × ReadsTable table given × JudgesWith judged given certificate entries outcome

-- The three readers returned a record, a table and a certificate with this outcome, and the writer took its line. Or
-- memory ran out.
pub record Checks (judged : Option Side) (entries table certificate : Device) (taken taken' : Option (List ℕ))
    (status : Status) : Type 0 where
  pub outcome : Outcome
  pub line : List ℕ
  pub judges : Judges judged entries table certificate outcome
  pub says : IsOutcomeLine outcome line status
  pub takes : Appends taken taken' line
