-- What `run_judge` prints: the verdict on a record, for both ends or for one alone. The record is refuted, lawful by
-- the proposed certificate, or undecided.
use Rattle.std.specs.Prelude.{◌≡◌, ℕ, ◌⊎◌, Bool, true, false, List, [], ◌++◌, length, map, slice_get, Option, Some, None, Result, Ok, Err}
use Rattle.std.specs.Io.KnownBytes.{Appends}
use Rattle.serde_json.specs.Written.{compact_text}
use Rattle.tcap_record.specs.declared.entry.End.{End as Side}
use Rattle.tcap_record.specs.declared.entry.Entry.{Entry}
use Rattle.tcap_record.specs.declared.fault.FeedFault.{FeedFault}
use Rattle.tcap_record.specs.FaultNumber.{feed_number_of}
use Rattle.tcap_record.specs.Lines.{line_end}
use Rattle.tcap_record.specs.Reading.{IsReadAs}
use Rattle.tcap_end.specs.Table.{Table}
use Rattle.tcap_end.specs.TableText.{IsTableOf}
use Rattle.tcap_certificate.specs.declared.fault.CheckFault.{CheckFault}
use Rattle.tcap_certificate.specs.Certificate.{Certificate}
use Rattle.tcap_certificate_text.specs.CertificateText.{certificate_data}
use Rattle.tcap_model.specs.Entries.{item_of}
use Rattle.tcap_model.specs.Run.{Event}
use Rattle.tcap_refute.specs.declared.kind.Kind.TheVariants as kinds
use Rattle.tcap_refute.specs.declared.kind.Refutation.{Refutation}
use Rattle.tcap_refute.specs.Kind.{refuted}
use Rattle.tcap_refute.specs.Unsendable.{IsAtFault}
use Rattle.tcap_faults.specs.BlameMeaning.{HasNoMessage, IsAtFaultOf}
use Rattle.tcap_faults.specs.Fault.{blamed}
use Rattle.tcap_search.specs.ProposedCertificate.{proposed, proposed_for}
use Rattle.tcap_judge.specs.declared.outcome.Outcome.{Outcome}
use Rattle.tcap_judge.specs.declared.outcome.Outcome.TheVariants.{Lawful, LawfulFor, Refuted, Undecided, Faulty}
use Rattle.tcap_lines.specs.declared.status.Status.{Status}
use Rattle.tcap_judge.specs.LawfulOutcome.{IsShown, lawful_by, replayed_by}
use Rattle.tcap_judge.specs.Outcome.{IsOutcomeText, refuted_line}
use Rattle.tcap_judge.specs.CheckOutcome.{ReadsRecord, ReadsTable, out_of_memory}
use Rattle.tcap_judge.specs.Device.{Device, IsUntouched}
use Rattle.tcap_judge.specs.LawfulEnd.{FindsLawfulBy}
use Rattle.tcap_judge.specs.LawfulRecord.{ReadsAllOctets}

-- the entry at fault: the first that `refuted` finds for both ends, or that `blamed` finds for one end
abbrev pub refutation_by : Option Side → Table → List Entry → Option Refutation
refutation_by None table entries = refuted table (map item_of entries)
refutation_by (Some side) table entries = blamed table side entries

-- the proposed certificate
abbrev pub proposed_by : Option Side → List Entry → Certificate
proposed_by None entries = proposed entries
proposed_by (Some side) entries = proposed_for side entries

-- refuted if there is an entry at fault, else lawful if the certificate gives a run, else undecided
abbrev pub verdict_by : Option Side → ℕ → Option Refutation → Result (List Event) CheckFault → Outcome
verdict_by judged count (Some r) replay = Refuted r
verdict_by judged count None (Ok events) = lawful_by judged count events
verdict_by judged count None (Err fault) = Undecided fault

-- the verdict on these entries, for both ends or for one alone
abbrev pub verdict_of : Option Side → Table → List Entry → Outcome
verdict_of judged table entries =
    verdict_by judged (length entries) (refutation_by judged table entries)
    (replayed_by judged table (proposed_by judged entries) entries)

-- the verdict on both ends
abbrev pub verdict : Table → List Entry → Outcome
verdict table entries = verdict_of None table entries

-- the verdict on this end alone
abbrev pub verdict_for : Side → Table → List Entry → Outcome
verdict_for side table entries = verdict_of (Some side) table entries

-- the verdict on these entries, or the fault of the record that ends them
abbrev pub record_verdict : Option Side → Table → List Entry → Result (Unit {0}) FeedFault → Outcome
record_verdict judged table entries (Ok end) = verdict_of judged table entries
record_verdict judged table entries (Err fault) = Faulty (feed_number_of fault.reason) fault.place

-- a certificate on its own line
abbrev pub line_of_certificate : Certificate → List ℕ
line_of_certificate c = compact_text (certificate_data c) ++ line_end

-- the certificate's line if it is requested
abbrev pub line_asked : Bool → Certificate → List ℕ
line_asked true c = line_of_certificate c
line_asked false c = []

-- the text after the line of an outcome: if it is lawful, the proposed certificate, if requested
abbrev pub certificate_line : Option Side → Bool → List Entry → Outcome → List ℕ
certificate_line judged with_certificate entries (Lawful count) =
    line_asked with_certificate (proposed_by judged entries)
certificate_line judged with_certificate entries (LawfulFor count unheard) =
    line_asked with_certificate (proposed_by judged entries)
certificate_line judged with_certificate entries outcome = []

-- The outcome is the verdict on these entries, and it holds; the certificate follows if requested.
abbrev pub IsVerdict : Option Side → Table → Bool → List Entry → Outcome → List ℕ → Type 0
IsVerdict judged table with_certificate entries outcome after =
    (outcome ≡ verdict_of judged table entries)
    × (after ≡ certificate_line judged with_certificate entries outcome) × IsShown judged table entries outcome

-- the verdict if no entry is found at fault: lawful by the proposed certificate, or undecided
abbrev pub verdict_by_search : Option Side → Table → List Entry → Outcome
verdict_by_search judged table entries =
    verdict_by judged (length entries) None (replayed_by judged table (proposed_by judged entries) entries)

-- The outcome is `verdict_by_search`, and it holds; the certificate follows if requested.
abbrev pub IsVerdictBySearch : Option Side → Table → Bool → List Entry → Outcome → List ℕ → Type 0
IsVerdictBySearch judged table with_certificate entries outcome after =
    (outcome ≡ verdict_by_search judged table entries)
    × (after ≡ certificate_line judged with_certificate entries outcome) × IsShown judged table entries outcome

-- The reader returned these entries, and this end after them. The outcome is the verdict on them, and it holds; the
-- certificate follows if requested.
pub record SaysVerdict (judged : Option Side) (table : Table) (with_certificate : Bool) (d : Device) (outcome : Outcome)
    (after : List ℕ) : Type 0 where
  pub entries : List Entry
  pub end : Result (Unit {0}) FeedFault
  pub reads : ReadsRecord d entries end
  pub says : outcome ≡ record_verdict judged table entries end
  pub after_is : after ≡ certificate_line judged with_certificate entries outcome
  pub shown : IsShown judged table entries outcome

-- `SaysVerdict` holds, or memory ran out.
abbrev pub GivesVerdict : Option Side → Table → Bool → Device → Outcome → List ℕ → Type 0
GivesVerdict judged table with_certificate d outcome after =
    ((outcome ≡ out_of_memory) × (after ≡ [])) ⊎ SaysVerdict judged table with_certificate d outcome after

-- If the table has a fault, the outcome is this fault, and nothing of the record is read.
abbrev pub GivesVerdictWith : Option Side → Result Table Outcome → Bool → Device → Outcome → List ℕ → Type 0
GivesVerdictWith judged (Ok table) with_certificate entries outcome after =
    GivesVerdict judged table with_certificate entries outcome after
GivesVerdictWith judged (Err reported) with_certificate entries outcome after =
    (outcome ≡ reported) × (after ≡ []) × IsUntouched entries

-- The outcome, and the text after its line, are those of what the two readers returned.
abbrev pub IsJudged : Option Side → Bool → Device → Device → Outcome → List ℕ → Type 0
IsJudged judged with_certificate entries table outcome after =
    (given : Result Table Outcome) × ReadsTable table given
    × GivesVerdictWith judged given with_certificate entries outcome after

-- The two readers returned a record and a table with this outcome, and the writer took its line, then the certificate's
-- line if requested. Or memory ran out.
pub record PrintsVerdict (judged : Option Side) (with_certificate : Bool) (entries table : Device)
    (taken taken' : Option (List ℕ)) (status : Status) : Type 0 where
  pub outcome : Outcome
  pub after : List ℕ
  pub text : List ℕ
  pub given : IsJudged judged with_certificate entries table outcome after
  pub says : IsOutcomeText outcome after text status
  pub takes : Appends taken taken' text

-- ---- what the lines mean

-- The line is that of a certificate if requested, else it is empty.
abbrev pub IsCertificateLine : Bool → List ℕ → Type 0
IsCertificateLine true line = (c : Certificate) × (line ≡ line_of_certificate c)
IsCertificateLine false line = line ≡ []

-- The record is lawful, for both ends or for this end alone, and the writer took the line that reports this, then a
-- certificate's line if requested.
abbrev pub FindsLawfulThen : Option Side → Bool → Device → Device → Option (List ℕ) → Option (List ℕ) → Type 0
FindsLawfulThen judged with_certificate entries table taken taken' =
    (there : Option (List ℕ)) × (after : List ℕ) × FindsLawfulBy judged entries table taken there
    × Appends there taken' after × IsCertificateLine with_certificate after

-- The entry is at fault: it is no message, or no run has it there in which its sender keeps the rules (for both ends),
-- or in which this end keeps them (for one end alone).
abbrev pub IsAtFaultBy : Option Side → Table → List Entry → Refutation → Type 0
IsAtFaultBy None table entries r = IsAtFault table (map item_of entries) r
IsAtFaultBy (Some side) table entries r = IsAtFaultOf table side entries r

-- At the place of the entry with this number, after the octet of its end, the octets have an element that spells no
-- message.
pub record SpellsNothing (read : List Entry) (number : ℕ) (octets : List ℕ) : Type 0 where
  pub entry : Entry
  pub side : Side
  pub there : slice_get read number ≡ Some entry
  pub side_is : entry.side ≡ Some side
  pub none : HasNoMessage side entry.place octets

-- The two readers returned the octets of a record and the text of an operation table, both up to their ends. One of the
-- entries of the octets is at fault, and if its kind is F1, it spells no message. The writer took the line with this
-- entry and kind.
pub record FindsFault (judged : Option Side) (entries table : Device) (taken taken' : Option (List ℕ)) : Type 0 where
  pub octets : List ℕ
  pub text : List ℕ
  pub operations : Table
  pub read : List Entry
  pub refutation : Refutation
  pub tells : ReadsAllOctets entries octets
  pub tells_table : ReadsAllOctets table text
  pub is_table : IsTableOf text (Ok operations)
  pub is_read : IsReadAs read (Ok tt) octets
  pub at_fault : IsAtFaultBy judged operations read refutation
  pub spells_nothing : refutation.kind ≡ kinds.BadMessage → SpellsNothing read refutation.entry octets
  pub line : Appends taken taken' (refuted_line refutation)
