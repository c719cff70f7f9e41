-- Which lines follow the verdict on a record? After LAWFUL, they are the run that the certificate gives, or the runs of
-- both ends.
use Rattle.std.specs.Prelude.{◌≡◌, ℕ, ◌⊎◌, List, [], ◌++◌, map, Option, Some, None, Result, Ok, Err}
use Rattle.std.specs.Io.KnownBytes.{Appends}
use Rattle.tcap_record.specs.declared.entry.End.{End as Side}
use Rattle.tcap_record.specs.declared.entry.End.TheVariants as sides
use Rattle.tcap_record.specs.declared.entry.Entry.{Entry}
use Rattle.tcap_record.specs.declared.fault.FeedFault.{FeedFault}
use Rattle.tcap_end.specs.Table.{Table}
use Rattle.tcap_certificate.specs.declared.fault.CheckFault.{CheckFault}
use Rattle.tcap_certificate.specs.Certificate.{Certificate}
use Rattle.tcap_check.specs.declared.step.Step.{Step}
use Rattle.tcap_certificate.specs.Replay.{discards_by}
use Rattle.tcap_check.specs.ReportedSteps.{discards_of, events_of}
use Rattle.tcap_model.specs.Entries.{item_of}
use Rattle.tcap_judge.specs.declared.outcome.Outcome.{Outcome}
use Rattle.tcap_judge.specs.declared.outcome.Outcome.TheVariants.{Lawful, LawfulFor, NotShown, Refuted, Undecided, Faulty}
use Rattle.tcap_lines.specs.declared.status.Status.{Status}
use Rattle.tcap_judge.specs.LawfulOutcome.{IsShown, replayed_by}
use Rattle.tcap_judge.specs.Outcome.{IsOutcomeText}
use Rattle.tcap_judge.specs.CheckOutcome.{ReadsCertificate, ReadsRecord, ReadsTable, out_of_memory, record_outcome}
use Rattle.tcap_judge.specs.Device.{Device, IsUntouched}
use Rattle.tcap_judge.specs.Verdict.{proposed_by}
use Rattle.tcap_judge.specs.declared.findings.Ends.{Ends}
use Rattle.tcap_judge.specs.BlameOutcome.{finding, finding_line, joint_record_verdict}
use Rattle.tcap_explain.specs.Faults.{IsFaultBehind}
use Rattle.tcap_explain.specs.IndentedText.{indented}
use Rattle.tcap_explain.specs.RefutedLines.{findings_text, ends_judged, refuted_lines}
use Rattle.tcap_explain.specs.StepLines.{run_lines}

-- The certificate gives a run for these entries, of both ends or of the judged end. The lines are those of its steps,
-- in which a discard has its reason.
abbrev pub AreLines : Option Side → Table → Certificate → List Entry → List ℕ → Type 0
AreLines judged table c entries lines =
    (steps : List Step) × (replayed_by judged table c entries ≡ Ok (events_of steps))
    × (discards_by judged table c (map item_of entries) ≡ Ok (discards_of steps)) × (lines ≡ run_lines judged steps)

-- The text is some indented lines, then the findings on these ends with the reasons.
abbrev pub EndsWithEnds : Table → List Entry → Option Ends → List ℕ → Type 0
EndsWithEnds table entries ends after =
    (lines : List ℕ) × (after ≡ indented lines ++ findings_text table entries ends)

-- the line of the finding on an end, and the run that the certificate proposed for this end gives
abbrev pub AreLinesOf : Table → List Entry → Side → List ℕ → Type 0
AreLinesOf table entries side text = (lines : List ℕ) × (text ≡ finding_line side (finding table entries side) ++ lines)
    × AreLines (Some side) table (proposed_by (Some side) entries) entries lines

-- the lines of A, then those of B
abbrev pub AreLinesOfBoth : Table → List Entry → List ℕ → Type 0
AreLinesOfBoth table entries text =
    (a b : List ℕ) × (text ≡ a ++ b) × AreLinesOf table entries sides.A a × AreLinesOf table entries sides.B b

-- The certificate gives no run of both ends. The text has the lines and the run of each end.
abbrev pub AreLinesOfEnds : Table → Certificate → List Entry → List ℕ → Type 0
AreLinesOfEnds table c entries text =
    ((fault : CheckFault) × (replayed_by None table c entries ≡ Err fault)) × AreLinesOfBoth table entries text

-- What the text after a verdict is. LAWFUL: the run, or the runs of both ends. REFUTED: the rule that the entry breaks,
-- and the entries that show it. UNDECIDED or NOT SHOWN: indented lines, then the findings on each end if both are
-- judged. A fault: the file that has it.
abbrev pub IsExplanation : Option Side → Table → Certificate → List Entry → Outcome → List ℕ → Type 0
IsExplanation judged table c entries (Lawful count) after =
    AreLines judged table c entries after ⊎ AreLinesOfEnds table c entries after
IsExplanation judged table c entries (LawfulFor count unheard) after = AreLines judged table c entries after
IsExplanation judged table c entries (Faulty number place) after = IsFaultBehind (Faulty number place) after
IsExplanation judged table c entries (Refuted r) after = after ≡ refuted_lines judged table entries r
IsExplanation judged table c entries (Undecided fault) after =
    EndsWithEnds table entries (ends_judged judged table entries) after
IsExplanation judged table c entries (NotShown fault) after =
    EndsWithEnds table entries (ends_judged judged table entries) after

-- ---- without a certificate: by the proposed one

-- The reader returned these entries and this end of the record. The outcome is the joint verdict on them, it holds, and
-- the text gives the reasons.
pub record ExplainsVerdict (judged : Option Side) (table : Table) (d : Device) (outcome : Outcome) (after : List ℕ)
    : Type 0 where
  pub entries : List Entry
  pub end : Result (Unit {0}) FeedFault
  pub reads : ReadsRecord d entries end
  pub says : outcome ≡ joint_record_verdict judged table entries end
  pub shown : IsShown judged table entries outcome
  pub why : IsExplanation judged table (proposed_by judged entries) entries outcome after

-- The outcome is explained, or memory ran out.
abbrev pub GivesExplanation : Option Side → Table → Device → Outcome → List ℕ → Type 0
GivesExplanation judged table d outcome after =
    ((outcome ≡ out_of_memory) × (after ≡ [])) ⊎ ExplainsVerdict judged table d outcome after

-- If there is no table, nothing of the record is read.
abbrev pub GivesExplanationWith : Option Side → Result Table Outcome → Device → Outcome → List ℕ → Type 0
GivesExplanationWith judged (Ok table) entries outcome after = GivesExplanation judged table entries outcome after
GivesExplanationWith judged (Err said) entries outcome after =
    (outcome ≡ said) × IsFaultBehind said after × IsUntouched entries

-- The octets of the two readers lead to this outcome and this text.
abbrev pub IsExplained : Option Side → Device → Device → Outcome → List ℕ → Type 0
IsExplained judged entries table outcome after =
    (given : Result Table Outcome) × ReadsTable table given × GivesExplanationWith judged given entries outcome after

-- The octets of the two readers lead to an outcome, and the writer took its line and the text after it.
pub record Explains (judged : Option Side) (entries table : Device) (taken taken' : Option (List ℕ)) (status : Status)
    : Type 0 where
  pub outcome : Outcome
  pub after : List ℕ
  pub text : List ℕ
  pub given : IsExplained judged entries table outcome after
  pub says : IsOutcomeText outcome after text status
  pub takes : Appends taken taken' text

-- ---- with a certificate

-- The reader returned these entries and this end of the record. The outcome is that of the certificate's replay, it
-- holds, and the text gives the reasons.
pub record ExplainsReplay (judged : Option Side) (table : Table) (c : Certificate) (d : Device) (outcome : Outcome)
    (after : List ℕ) : Type 0 where
  pub entries : List Entry
  pub end : Result (Unit {0}) FeedFault
  pub reads : ReadsRecord d entries end
  pub says : outcome ≡ record_outcome judged table c entries end
  pub shown : IsShown judged table entries outcome
  pub why : IsExplanation judged table c entries outcome after

-- The outcome is explained, or memory ran out. If there is no certificate, nothing of the record is read.
abbrev pub GivesExplanationBy : Option Side → Table → Result Certificate Outcome → Device → Outcome → List ℕ → Type 0
GivesExplanationBy judged table (Ok c) entries outcome after =
    ((outcome ≡ out_of_memory) × (after ≡ [])) ⊎ ExplainsReplay judged table c entries outcome after
GivesExplanationBy judged table (Err said) entries outcome after =
    (outcome ≡ said) × IsFaultBehind said after × IsUntouched entries

-- If there is no table, nothing of the certificate and the record is read. If there is no certificate, nothing of the
-- record is.
abbrev pub GivesExplanationByWith : Option Side → Result Table Outcome → Device → Device → Outcome → List ℕ → Type 0
GivesExplanationByWith judged (Ok table) certificate entries outcome after =
    (given : Result Certificate Outcome) × ReadsCertificate certificate given
    × GivesExplanationBy judged table given entries outcome after
GivesExplanationByWith judged (Err said) certificate entries outcome after =
    (outcome ≡ said) × IsFaultBehind said after × IsUntouched certificate × IsUntouched entries

-- The octets of the three readers lead to this outcome and this text.
abbrev pub IsExplainedBy : Option Side → Device → Device → Device → Outcome → List ℕ → Type 0
IsExplainedBy judged entries table certificate outcome after = (given : Result Table Outcome) × ReadsTable table given
    × GivesExplanationByWith judged given certificate entries outcome after

-- The octets of the three readers lead to an outcome, and the writer took its line and the text after it.
pub record ExplainsBy (judged : Option Side) (entries table certificate : Device) (taken taken' : Option (List ℕ))
    (status : Status) : Type 0 where
  pub outcome : Outcome
  pub after : List ℕ
  pub text : List ℕ
  pub given : IsExplainedBy judged entries table certificate outcome after
  pub says : IsOutcomeText outcome after text status
  pub takes : Appends taken taken' text
