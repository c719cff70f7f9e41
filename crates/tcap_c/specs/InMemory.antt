-- What do `judge`, `check` and `blame` answer for octets in memory, as numbers for a program in C?
use Rattle.std.specs.Prelude.{◌≡◌, ℕ, List, false, nat_eq, cond, Option, Some, None, Ok}
use Rattle.tcap_record.specs.declared.entry.End.{End as Side}
use Rattle.tcap_record.specs.declared.entry.End.TheVariants as sides
use Rattle.tcap_record.specs.declared.entry.Entry.{Entry}
use Rattle.tcap_record.specs.RecordOctets.{octet_of}
use Rattle.tcap_record.specs.Reading.{IsReadAs}
use Rattle.tcap_end.specs.Table.{Table}
use Rattle.tcap_end.specs.TableText.{IsTableOf}
use Rattle.tcap_model.specs.World.{Item}
use Rattle.tcap_certificate.specs.declared.fault.CheckFault.{CheckFault}
use Rattle.tcap_model.specs.Reason.{reason_number}
use Rattle.tcap_refute.specs.declared.kind.Refutation.{Refutation}
use Rattle.tcap_refute.specs.Kind.{kind_number}
use Rattle.tcap_judge.specs.declared.findings.Ends.{Ends}
use Rattle.tcap_judge.specs.declared.findings.Finding.{Finding}
use Rattle.tcap_judge.specs.declared.findings.Finding.TheVariants as findings
use Rattle.tcap_judge.specs.declared.outcome.Outcome.{Outcome}
use Rattle.tcap_judge.specs.declared.outcome.Outcome.TheVariants.{Lawful, LawfulFor, NotShown, Refuted, Undecided, Faulty}
use Rattle.tcap_lines.specs.ShowRun.{status_number}
use Rattle.tcap_judge.specs.Outcome.{inner_number, outcome_status}
use Rattle.tcap_judge.specs.LawfulOutcome.{MayBeSent}
use Rattle.tcap_judge.specs.CheckOutcome.{Judges}
use Rattle.tcap_judge.specs.Device.{Device}
use Rattle.tcap_judge.specs.Verdict.{IsAtFaultBy, IsJudged}
use Rattle.tcap_judge.specs.BlameOutcome.{IsBlamed, blame_status}
use Rattle.tcap_judge.specs.LawfulRecord.{SpellsRecord}
use Rattle.tcap_c.specs.declared.answer.Answer.{Answer}
use Rattle.tcap_c.specs.declared.answer.Answers.{Answers}

-- the judged end for a number: 0 for both ends, or the octet of one end
abbrev pub judged_by : ℕ → Option (Option Side)
judged_by number = cond (nat_eq number 0) (Some None)
    (cond (nat_eq number (octet_of sides.A)) (Some (Some sides.A))
    (cond (nat_eq number (octet_of sides.B)) (Some (Some sides.B)) None))

-- ---- outcomes

-- A reader of octets in memory. After the run, `left` is unread. It never fails.
abbrev pub in_memory : List ℕ → List ℕ → Device
in_memory octets left = record { before = Some octets; after = Some left; failed_before = 0; failed_after = 0 }

-- the outcome of `judge` for a record and a table
pub record SaysJudged (judged : Option Side) (octets text : List ℕ) (outcome : Outcome) : Type 0 where
  pub left : List ℕ
  pub left_of_text : List ℕ
  pub after : List ℕ
  pub given : IsJudged judged false (in_memory octets left) (in_memory text left_of_text) outcome after

-- the outcome of `check` for a record, a table and a certificate
pub record SaysChecked (judged : Option Side) (octets text certificate : List ℕ) (outcome : Outcome) : Type 0 where
  pub left : List ℕ
  pub left_of_text : List ℕ
  pub left_of_certificate : List ℕ
  pub given : Judges judged (in_memory octets left) (in_memory text left_of_text)
      (in_memory certificate left_of_certificate) outcome

-- the outcome of `blame` for a record and a table, and the finding on each end
pub record SaysBlamed (octets text : List ℕ) (outcome : Outcome) (ends : Option Ends) : Type 0 where
  pub left : List ℕ
  pub left_of_text : List ℕ
  pub given : IsBlamed (in_memory octets left) (in_memory text left_of_text) outcome ends

-- ---- numbers

-- the verdict; the entry, count or offset; the reason or kind; the number of the fault in the reason; the number of
-- unheard messages
abbrev pub answer : ℕ → ℕ → ℕ → ℕ → ℕ → Answer
answer verdict entry reason inner unheard =
    record { entry = entry; unheard = unheard; verdict = verdict; reason = reason; inner = inner }

-- the answer to a wrong call, or on an end without a finding
abbrev pub no_answer : Answer
no_answer = answer 7 0 0 0 0

-- a number, or 0 if there is none
abbrev pub number_or_0 : Option ℕ → ℕ
number_or_0 None = 0
number_or_0 (Some number) = number

-- the entry at which a certificate fails, and the reason
abbrev pub fault_answer : ℕ → CheckFault → Answer
fault_answer verdict fault =
    answer verdict fault.entry (reason_number fault.reason) (number_or_0 (inner_number fault.reason)) 0

-- the entry at fault, and the kind
abbrev pub refutation_answer : ℕ → Refutation → Answer
refutation_answer verdict r = answer verdict r.entry (kind_number r.kind) 0 0

-- the answer in numbers for an outcome on the record
abbrev pub outcome_answer : Outcome → Answer
outcome_answer (Lawful count) = answer 0 count 0 0 0
outcome_answer (LawfulFor count unheard) = answer 0 count 0 0 unheard
outcome_answer (Refuted r) = refutation_answer 1 r
outcome_answer (Undecided fault) = fault_answer 2 fault
outcome_answer (Faulty number place) = answer 3 place number 0 0
outcome_answer (NotShown fault) = fault_answer 4 fault

-- the answer in numbers for a finding on an end
abbrev pub finding_answer : Finding → Answer
finding_answer (findings.Lawful count unheard) = answer 0 count 0 0 unheard
finding_answer (findings.Blamed r) = refutation_answer 5 r
finding_answer (findings.NotBlamed count) = answer 6 count 0 0 0

-- the answers on the record and on each end
abbrev pub blame_answers : Outcome → Option Ends → Answers
blame_answers outcome None = record { both = outcome_answer outcome; a = no_answer; b = no_answer }
blame_answers outcome (Some ends) =
    record { both = outcome_answer outcome; a = finding_answer ends.a; b = finding_answer ends.b }

-- ---- the results of calls

-- The call answers with the numbers of an outcome, and returns its status.
pub record Gives (Says : Outcome → Type 0) (given : Answer) (status : ℕ) : Type 0 where
  pub outcome : Outcome
  pub says : Says outcome
  pub given_is : given ≡ outcome_answer outcome
  pub status_is : status ≡ status_number (outcome_status outcome)

-- A call of `blame` answers with the numbers of an outcome and of the findings, and returns their status.
pub record GivesBlame (octets text : List ℕ) (given : Answers) (status : ℕ) : Type 0 where
  pub outcome : Outcome
  pub ends : Option Ends
  pub says : SaysBlamed octets text outcome ends
  pub given_is : given ≡ blame_answers outcome ends
  pub status_is : status ≡ status_number (blame_status ends outcome)

-- A call whose `end` is unknown answers nothing and returns 4.
abbrev pub IsWrongCall : Answer → ℕ → Type 0
IsWrongCall given status = (given ≡ no_answer) × (status ≡ 4)

-- ---- the meaning of answers

-- The octets spell items, and the text is an operation table. By this table, two lawful ends may have sent the items,
-- or one end its part of them.
pub record MayBeSentBy (judged : Option Side) (octets text : List ℕ) : Type 0 where
  pub operations : Table
  pub items : List Item
  pub is_table : IsTableOf text (Ok operations)
  pub spells : SpellsRecord items octets
  pub lawful : MayBeSent judged items operations

-- Entry `given.entry` of the octets is at fault by kind `given.reason`: no end that keeps the rules sends it, or the
-- judged end does not keep them.
pub record IsAtFaultIn (judged : Option Side) (octets text : List ℕ) (given : Answer) : Type 0 where
  pub operations : Table
  pub read : List Entry
  pub refutation : Refutation
  pub is_table : IsTableOf text (Ok operations)
  pub is_read : IsReadAs read (Ok tt) octets
  pub at_fault : IsAtFaultBy judged operations read refutation
  pub entry_is : given.entry ≡ refutation.entry
  pub kind_is : given.reason ≡ kind_number refutation.kind

-- If the answer is LAWFUL, the octets may have been sent. If it is REFUTED or BLAMED, the entry is at fault.
pub record IsRight (judged : Option Side) (octets text : List ℕ) (given : Answer) : Type 0 where
  pub lawful : given.verdict ≡ 0 → MayBeSentBy judged octets text
  pub refuted : given.verdict ≡ 1 → IsAtFaultIn judged octets text given
  pub blamed : given.verdict ≡ 5 → IsAtFaultIn judged octets text given

-- The answers on the record and on each end are right.
pub record AreRight (octets text : List ℕ) (given : Answers) : Type 0 where
  pub both : IsRight None octets text given.both
  pub a : IsRight (Some sides.A) octets text given.a
  pub b : IsRight (Some sides.B) octets text given.b
