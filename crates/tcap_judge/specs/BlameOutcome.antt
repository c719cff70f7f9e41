-- What `run_blame` prints: the verdict on the record, and then for each end whether an entry is blamed on it, or
-- whether it may have sent its part.
use Rattle.std.specs.Prelude.{◌≡◌, ℕ, ◌⊎◌, ◌+◌, Bool, true, false, List, [], ◌∷◌, ◌++◌, length, map, nat_lt, cond, ◌&&◌, ◌||◌, Option, Some, None, Result, Ok, Err, codes}
use Rattle.std.specs.Fmt.{decimal}
use Rattle.std.specs.Io.KnownBytes.{Appends}
use Rattle.tcap_record.specs.declared.entry.End.{End as Side}
use Rattle.tcap_record.specs.declared.entry.End.TheVariants as sides
use Rattle.tcap_record.specs.declared.entry.Entry.{Entry}
use Rattle.tcap_record.specs.declared.fault.FeedFault.{FeedFault}
use Rattle.tcap_record.specs.Ends.{letter}
use Rattle.tcap_record.specs.Lines.{line_end}
use Rattle.tcap_end.specs.Table.{Table}
use Rattle.tcap_model.specs.World.{Item}
use Rattle.tcap_model.specs.declared.reason.Reason.{Reason}
use Rattle.tcap_model.specs.Entries.{item_of}
use Rattle.tcap_refute.specs.declared.kind.Kind.TheVariants as kinds
use Rattle.tcap_refute.specs.declared.kind.Refutation.{Refutation}
use Rattle.tcap_refute.specs.Kind.{kind_number}
use Rattle.tcap_faults.specs.BlameMeaning.{IsAtFaultOf}
use Rattle.tcap_faults.specs.Fault.{blamed}
use Rattle.tcap_judge.specs.declared.findings.Ends.{Ends}
use Rattle.tcap_judge.specs.declared.findings.Finding.{Finding}
use Rattle.tcap_judge.specs.declared.findings.Finding.TheVariants as findings
use Rattle.tcap_judge.specs.declared.outcome.Outcome.{Outcome}
use Rattle.tcap_judge.specs.declared.outcome.Outcome.TheVariants.{Lawful, LawfulFor, Refuted}
use Rattle.tcap_lines.specs.declared.status.Status.{Status}
use Rattle.tcap_lines.specs.declared.status.Status.TheVariants as statuses
use Rattle.tcap_judge.specs.Outcome.{outcome_line, outcome_status}
use Rattle.tcap_lines.specs.ShowRun.{memory_line}
use Rattle.tcap_judge.specs.LawfulOutcome.{AreLawful, AreLawfulUnheard, IsShown}
use Rattle.tcap_judge.specs.CheckOutcome.{ReadsRecord, ReadsTable, out_of_memory}
use Rattle.tcap_judge.specs.Device.{Device, IsUntouched}
use Rattle.tcap_judge.specs.LawfulRecord.{FindsLawful}
use Rattle.tcap_judge.specs.Verdict.{SpellsNothing, record_verdict, verdict, verdict_for}

-- ---- the finding on an end

-- the number of entries before the first that is no item, or of all entries if there is none
abbrev pub items_before : List (Result Item Reason) → ℕ
items_before [] = 0
items_before (Ok item ∷ more) = 1 + items_before more
items_before (Err reason ∷ more) = 0

-- The finding on an end, by the verdict on this end. The end is blamed for an entry, or may have sent its part, or is
-- not blamed for any of this many entries.
abbrev pub finding_by : ℕ → Outcome → Finding
finding_by count (Refuted r) = findings.Blamed r
finding_by count (LawfulFor all unheard) = findings.Lawful all unheard
finding_by count outcome = findings.NotBlamed count

-- the finding on an end of a record
abbrev pub finding : Table → List Entry → Side → Finding
finding table entries side = finding_by (items_before (map item_of entries)) (verdict_for side table entries)

-- whether an entry is blamed on the end
abbrev pub is_blamed : Finding → Bool
is_blamed (findings.Blamed r) = true
is_blamed reported = false

-- whether the end may have sent its part
abbrev pub is_lawful : Finding → Bool
is_lawful (findings.Lawful count unheard) = true
is_lawful reported = false

-- the findings on both ends
abbrev pub ends_of : Table → List Entry → Ends
ends_of table entries = record { a = finding table entries sides.A; b = finding table entries sides.B }

-- ---- the verdict on the record, given the findings on its ends

-- Lawful with this count if each end alone may have sent its part, since two lawful ends may then have sent the record
-- (`blame_is_whole` of tcap_model). Else the given verdict.
abbrev pub verdict_by_ends : ℕ → Ends → Outcome → Outcome
verdict_by_ends count ends outcome = cond (is_lawful ends.a && is_lawful ends.b) (Lawful count) outcome

-- the verdict on both ends, given the verdict on both together and the findings on each; or the verdict on one end
-- alone
abbrev pub joint_verdict : Option Side → Table → List Entry → Outcome
joint_verdict None table entries = verdict_by_ends (length entries) (ends_of table entries) (verdict table entries)
joint_verdict (Some side) table entries = verdict_for side table entries

-- the verdict on these entries, or the fault of the record that ends them
abbrev pub joint_record_verdict : Option Side → Table → List Entry → Result (Unit {0}) FeedFault → Outcome
joint_record_verdict judged table entries (Ok end) = joint_verdict judged table entries
joint_record_verdict judged table entries (Err fault) = record_verdict judged table entries (Err fault)

-- ---- lines

-- the line of a finding: `BLAMED` with the entry and its kind, `LAWFUL` with the number of entries and of unheard
-- messages, or `NOT BLAMED` with the number of entries
abbrev pub finding_line : Side → Finding → List ℕ
finding_line side (findings.Blamed r) =
    codes "BLAMED " ++ letter side ++ codes " " ++ decimal r.entry ++ codes " F" ++ decimal (kind_number r.kind)
    ++ line_end
finding_line side (findings.Lawful count unheard) =
    codes "LAWFUL " ++ letter side ++ codes " " ++ decimal count ++ codes " unheard " ++ decimal unheard ++ line_end
finding_line side (findings.NotBlamed count) =
    codes "NOT BLAMED " ++ letter side ++ codes " " ++ decimal count ++ line_end

-- whether the line of A comes after the line of B: B is blamed, and A is not, or for a later entry
abbrev pub comes_after : Finding → Finding → Bool
comes_after (findings.Blamed a) (findings.Blamed b) = nat_lt b.entry a.entry
comes_after reported (findings.Blamed b) = true
comes_after reported other = false

-- the lines of both ends: blamed ends first, in the order of their entries, else A before B
abbrev pub ends_lines : Ends → List ℕ
ends_lines ends = cond (comes_after ends.a ends.b) (finding_line sides.B ends.b ++ finding_line sides.A ends.a)
    (finding_line sides.A ends.a ++ finding_line sides.B ends.b)

-- ---- a whole run

-- the findings on both ends, or none if the record has a fault
abbrev pub record_ends : Table → List Entry → Result (Unit {0}) FeedFault → Option Ends
record_ends table entries (Ok end) = Some (ends_of table entries)
record_ends table entries (Err fault) = None

-- If the finding is lawful, the end may have sent its part, by a run with this many unheard messages of its peer. If
-- both findings are lawful, two lawful ends may have sent the record.
abbrev pub IsFound : Side → Table → List Entry → Finding → Type 0
IsFound side table entries (findings.Lawful count unheard) = AreLawfulUnheard (Some side) table entries unheard
IsFound side table entries reported = Unit {0}

-- Both findings hold. If both are lawful, two lawful ends may have sent the record.
pub record AreFound (table : Table) (entries : List Entry) (ends : Ends) : Type 0 where
  pub a : IsFound sides.A table entries ends.a
  pub b : IsFound sides.B table entries ends.b
  pub both : is_lawful ends.a && is_lawful ends.b ≡ true → AreLawful None table entries

-- The reader returned these entries, and this end after them. The outcome is the verdict on both ends, and it holds.
-- The findings are those on each end.
--
-- An entry that is blamed on an end is at fault: it is no message, or no run in which this end keeps the rules has the
-- entry there. This holds no matter what its peer sends or what follows. If the kind of the entry is F1, it spells no
-- message.
pub record SaysBlame (table : Table) (d : Device) (outcome : Outcome) (ends : Option Ends) : Type 0 where
  pub entries : List Entry
  pub end : Result (Unit {0}) FeedFault
  pub reads : ReadsRecord d entries end
  pub says : outcome ≡ joint_record_verdict None table entries end
  pub shown : IsShown None table entries outcome
  pub ends_are : ends ≡ record_ends table entries end
  pub at_fault : (side : Side) (r : Refutation) → blamed table side entries ≡ Some r
      → IsAtFaultOf table side entries r
  pub spells_nothing : (side : Side) (r : Refutation) → blamed table side entries ≡ Some r → r.kind ≡ kinds.BadMessage
      → SpellsNothing entries r.entry reads.returned
  pub found : (reported : Ends) → ends ≡ Some reported → AreFound table entries reported

-- `SaysBlame` holds, or memory ran out.
abbrev pub GivesBlame : Table → Device → Outcome → Option Ends → Type 0
GivesBlame table d outcome ends = ((outcome ≡ out_of_memory) × (ends ≡ None)) ⊎ SaysBlame table d outcome ends

-- If the table has a fault, the outcome is this fault, and nothing of the record is read.
abbrev pub GivesBlameWith : Result Table Outcome → Device → Outcome → Option Ends → Type 0
GivesBlameWith (Ok table) entries outcome ends = GivesBlame table entries outcome ends
GivesBlameWith (Err reported) entries outcome ends = (outcome ≡ reported) × (ends ≡ None) × IsUntouched entries

-- The outcome and the findings are those of what the two readers returned.
abbrev pub IsBlamed : Device → Device → Outcome → Option Ends → Type 0
IsBlamed entries table outcome ends =
    (given : Result Table Outcome) × ReadsTable table given × GivesBlameWith given entries outcome ends

-- the lines after the line of the outcome
abbrev pub lines_after : Option Ends → List ℕ
lines_after None = []
lines_after (Some ends) = ends_lines ends

-- the status of a run in which no entry is blamed on an end: a refuted entry then counts as not shown
abbrev pub unblamed_status : Outcome → Status
unblamed_status (Refuted r) = statuses.NotShown
unblamed_status outcome = outcome_status outcome

-- the status of a run: that of a refuted entry if one is blamed on an end, else `unblamed_status`
abbrev pub blame_status : Option Ends → Outcome → Status
blame_status None outcome = outcome_status outcome
blame_status (Some ends) outcome =
    cond (is_blamed ends.a || is_blamed ends.b) statuses.Refuted (unblamed_status outcome)

-- The text is the line of the outcome and the lines after it, with their status. Or the text reports that memory ran
-- out.
abbrev pub IsBlameText : Outcome → Option Ends → List ℕ → Status → Type 0
IsBlameText outcome ends text status =
    ((text ≡ outcome_line outcome ++ lines_after ends) × (status ≡ blame_status ends outcome))
    ⊎ ((text ≡ memory_line) × (status ≡ statuses.Fault))

-- The two readers returned a record and a table with this outcome and these findings, and the writer took their lines.
-- Or memory ran out.
pub record PrintsBlame (entries table : Device) (taken taken' : Option (List ℕ)) (status : Status) : Type 0 where
  pub outcome : Outcome
  pub ends : Option Ends
  pub text : List ℕ
  pub judged : IsBlamed entries table outcome ends
  pub says : IsBlameText outcome ends text status
  pub takes : Appends taken taken' text

-- ---- what the lines mean

-- The record is lawful, and the writer took the line that reports this, then the lines of both ends.
abbrev pub FindsLawfulEnds : Device → Device → Option (List ℕ) → Option (List ℕ) → Type 0
FindsLawfulEnds entries table taken taken' = (there : Option (List ℕ)) × (ends : Ends)
    × FindsLawful entries table taken there × Appends there taken' (ends_lines ends)
