-- The contracts of `run_judge`.
use Rattle.std.proofs.Common.{◌≡◌, ℕ, Bool, true, false, List, [], ◌++◌, length, map, refl, sym, ap, subst, ◌∙◌, inl, inr, append-nil, append_assoc}
use Rattle.std.specs.Prelude.{IfOk, Option, Some, None, Result, Ok, Err}
use Rattle.std.specs.Io.KnownBytes.{Appends}
use Rattle.tcap_record.specs.declared.entry.End.{End as Side}
use Rattle.tcap_record.specs.declared.entry.Entry.{Entry}
use Rattle.tcap_record.specs.declared.fault.FeedFault.{FeedFault}
use Rattle.tcap_end.specs.Table.{Table}
use Rattle.tcap_certificate.specs.declared.fault.CheckFault.{CheckFault}
use Rattle.tcap_model.specs.declared.reason.Reason.{Reason}
use Rattle.tcap_model.specs.Entries.{item_of}
use Rattle.tcap_model.specs.Run.{Event}
use Rattle.tcap_model.specs.World.{Item}
use Rattle.tcap_refute.specs.declared.kind.Refutation.{Refutation}
use Rattle.tcap_refute.specs.Kind.{refuted}
use Rattle.tcap_refute.specs.Unsendable.{IsAtFault}
use Rattle.tcap_faults.specs.BlameMeaning.{IsAtFaultOf}
use Rattle.tcap_faults.specs.Fault.{blamed}
use Rattle.tcap_judge.specs.declared.outcome.Outcome.{Outcome}
use Rattle.tcap_judge.specs.declared.outcome.Outcome.TheVariants.{Lawful, LawfulFor, NotShown, Refuted, Undecided, Faulty}
use Rattle.tcap_lines.specs.declared.status.Status.{Status}
use Rattle.tcap_lines.specs.declared.status.Status.TheVariants as statuses
use Rattle.tcap_lines.specs.declared.status.WriteFailed.{WriteFailed}
use Rattle.tcap_judge.specs.Outcome.{IsOutcomeText, outcome_line, outcome_status, refuted_line}
use Rattle.tcap_judge.specs.LawfulOutcome.{IsShown, replayed_by, lawful_outcome}
use Rattle.tcap_judge.specs.CheckOutcome.{ReadsRecord, ReadsTable, out_of_memory}
use Rattle.tcap_judge.specs.Device.{Device}
use Rattle.tcap_judge.specs.Verdict.{FindsFault, FindsLawfulThen, GivesVerdict, GivesVerdictWith, IsAtFaultBy, IsCertificateLine, IsJudged, PrintsVerdict, certificate_line, refutation_by, proposed_by, record_verdict, verdict_by}
use Rattle.tcap_judge.proofs.LawfulLaws.{IsFineOf, IsFoundBy, fine_fault, finds, found_said, lawful_is, no_fault, table_fault, table_text}
use Rattle.tcap_judge.proofs.SpellsNothingLaws.{spells_nothing}

-- ---- the status of a run

-- If the status is not a fault, it is that of the outcome, and the text begins with its line.
said_so : (outcome : Outcome) (after text : List ℕ) (status : Status) → IsOutcomeText outcome after text status
    → (status ≡ statuses.Fault → ⊥)
    → (outcome_status outcome ≡ status) × (text ≡ outcome_line outcome ++ after)
said_so outcome after text status (inl reported) other = (sym reported.1, reported.0)
said_so outcome after text status (inr reported) other = absurd (other reported.1)

refuted_is : (outcome : Outcome) → outcome_status outcome ≡ statuses.Refuted → (r : Refutation) × (outcome ≡ Refuted r)
refuted_is (Refuted r) ended = (r, refl)
refuted_is (Lawful count) ended = let bad : statuses.Fine ≡ statuses.Refuted = ended in cc
refuted_is (LawfulFor count unheard) ended = let bad : statuses.Fine ≡ statuses.Refuted = ended in cc
refuted_is (NotShown fault) ended = let bad : statuses.NotShown ≡ statuses.Refuted = ended in cc
refuted_is (Undecided fault) ended = let bad : statuses.NotShown ≡ statuses.Refuted = ended in cc
refuted_is (Faulty number place) ended = let bad : statuses.Fault ≡ statuses.Refuted = ended in cc

-- ---- the record

pub verdict_is : (judged : Option Side) (count : ℕ) (named : Option Refutation) (replay : Result (List Event) CheckFault)
    → IsFineOf judged count (verdict_by judged count named replay)
verdict_is judged count (Some r) replay fine = let bad : statuses.Refuted ≡ statuses.Fine = fine in cc
verdict_is judged count None (Ok events) fine = lawful_is judged count events fine
verdict_is judged count None (Err fault) fine = let bad : statuses.NotShown ≡ statuses.Fine = fine in cc

pub by_refutation : (judged : Option Side) (count : ℕ) (named : Option Refutation)
    (replay : Result (List Event) CheckFault) (r : Refutation) → Refuted r ≡ verdict_by judged count named replay
    → named ≡ Some r
by_refutation judged count (Some other) replay r reported = let same : Refuted r ≡ Refuted other = reported in cc
by_refutation None count None (Ok events) r reported = cc
by_refutation (Some side) count None (Ok events) r reported = cc
by_refutation judged count None (Err fault) r reported = cc

-- the text after LAWFUL
is_line : (judged : Option Side) (with_certificate : Bool) (entries : List Entry) (count unheard : ℕ) (after : List ℕ)
    → after ≡ certificate_line judged with_certificate entries (lawful_outcome judged count unheard)
    → IsCertificateLine with_certificate after
is_line None true entries count unheard after is = (proposed_by None entries, is)
is_line (Some side) true entries count unheard after is = (proposed_by (Some side) entries, is)
is_line None false entries count unheard after is = is
is_line (Some side) false entries count unheard after is = is

-- what follows if a record is lawful, and this text comes after its line
abbrev pub IsLawfulThen : Option Side → Table → Bool → Device → Outcome → List ℕ → Type 0
IsLawfulThen judged table with_certificate d outcome after =
    IsFoundBy judged table d outcome × IsCertificateLine with_certificate after

lawful_by_end : (judged : Option Side) (table : Table) (with_certificate : Bool) (d : Device) (outcome : Outcome)
    (after : List ℕ) (entries : List Entry) (end : Result (Unit {0}) FeedFault) → ReadsRecord d entries end
    → outcome ≡ record_verdict judged table entries end
    → after ≡ certificate_line judged with_certificate entries outcome → IsShown judged table entries outcome
    → outcome_status outcome ≡ statuses.Fine → IsLawfulThen judged table with_certificate d outcome after
lawful_by_end judged table with_certificate d outcome after entries (Err fault) reads says after_is shown fine =
    absurd (fine_fault outcome (record_verdict judged table entries (Err fault)) says refl fine)
lawful_by_end judged table with_certificate d outcome after entries (Ok end) reads says after_is shown fine =
    let fine_of = verdict_is judged (length entries) (refutation_by judged table entries)
    (replayed_by judged table (proposed_by judged entries) entries) in
    let (unheard, lawful) = fine_of (sym (ap outcome_status says) ∙ fine) in (
      found_said judged table d outcome (record_verdict judged table entries (Ok end)) entries end reads fine_of says shown
          fine,
      is_line judged with_certificate entries (length entries) unheard after
          (after_is ∙ ap (certificate_line judged with_certificate entries) (says ∙ lawful)),
    )

pub lawful_record : (judged : Option Side) (table : Table) (with_certificate : Bool) (d : Device) (outcome : Outcome)
    (after : List ℕ) → GivesVerdict judged table with_certificate d outcome after
    → outcome_status outcome ≡ statuses.Fine → IsLawfulThen judged table with_certificate d outcome after
lawful_record judged table with_certificate d outcome after (inl memory) fine =
    absurd (fine_fault outcome out_of_memory memory.0 refl fine)
lawful_record judged table with_certificate d outcome after (inr says) fine =
    lawful_by_end judged table with_certificate d outcome after says.entries says.end says.reads says.says says.after_is
    says.shown fine

-- what follows if an entry of a record is at fault
pub record IsNamedBy (judged : Option Side) (table : Table) (d : Device) (r : Refutation) : Type 0 where
  pub entries : List Entry
  pub end : Unit {0}
  pub reads : ReadsRecord d entries (Ok end)
  pub named : refutation_by judged table entries ≡ Some r

named_by_end : (judged : Option Side) (table : Table) (d : Device) (r : Refutation) (entries : List Entry)
    (end : Result (Unit {0}) FeedFault) → ReadsRecord d entries end → Refuted r ≡ record_verdict judged table entries end
    → IsNamedBy judged table d r
named_by_end judged table d r entries (Err fault) reads reported = cc
named_by_end judged table d r entries (Ok end) reads reported = record {
  entries = entries;
  end = end;
  reads = reads;
  named = by_refutation judged (length entries) (refutation_by judged table entries)
      (replayed_by judged table (proposed_by judged entries) entries) r reported;
}

pub refuted_record : (judged : Option Side) (table : Table) (with_certificate : Bool) (d : Device) (r : Refutation)
    (after : List ℕ) → GivesVerdict judged table with_certificate d (Refuted r) after
    → IsNamedBy judged table d r × (after ≡ [])
refuted_record judged table with_certificate d r after (inl memory) =
    let bad : Refuted r ≡ out_of_memory = memory.0 in cc
refuted_record judged table with_certificate d r after (inr says) =
    (named_by_end judged table d r says.entries says.end says.reads says.says, says.after_is)

-- ---- both readers

-- two appended texts in turn
pub between : (old new : Option (List ℕ)) (front back : List ℕ) → Appends old new (front ++ back)
    → (there : Option (List ℕ)) × Appends old there front × Appends there new back
between None new front back all = (None, tt, tt)
between (Some x) None front back all = absurd all
between (Some x) (Some y) front back all = (Some (x ++ front), refl, all ∙ sym (append_assoc x front back))

lawful_table : (judged : Option Side) (given : Result Table Outcome) (with_certificate : Bool) (entries table : Device)
    (taken taken' : Option (List ℕ)) (outcome : Outcome) (after : List ℕ) → ReadsTable table given
    → GivesVerdictWith judged given with_certificate entries outcome after → outcome_status outcome ≡ statuses.Fine
    → Appends taken taken' (outcome_line outcome ++ after)
    → FindsLawfulThen judged with_certificate entries table taken taken'
lawful_table judged (Err reported) with_certificate entries table taken taken' outcome after reads gives fine line =
    absurd (fine_fault outcome reported gives.0 (table_fault table reported reads) fine)
lawful_table judged (Ok operations) with_certificate entries table taken taken' outcome after reads gives fine line =
    let (found, certificate) = lawful_record judged operations with_certificate entries outcome after gives fine in
    let (there, before, rest) = between taken taken' (outcome_line outcome) after line in
    (there, after, finds judged entries table operations taken there outcome reads found before, rest, certificate)

-- what is needed of the laws on faults: an entry found at fault is at fault
abbrev pub NamesRightly : Option Side → Type 0
NamesRightly judged = (table : Table) (entries : List Entry) (r : Refutation) → refutation_by judged table entries ≡ Some r
    → IsAtFaultBy judged table entries r

pub rightly : ((table : Table) (entries : List (Result Item Reason)) (r : Refutation)
    → refuted table entries ≡ Some r → IsAtFault table entries r)
    → ((table : Table) (side : Side) (entries : List Entry) (r : Refutation)
    → blamed table side entries ≡ Some r → IsAtFaultOf table side entries r)
    → (judged : Option Side) → NamesRightly judged
rightly refutes blames None table entries r is = refutes table (map item_of entries) r is
rightly refutes blames (Some side) table entries r is = blames table side entries r is

refuted_table : (judged : Option Side) → NamesRightly judged → (given : Result Table Outcome) (with_certificate : Bool)
    (entries table : Device) (taken taken' : Option (List ℕ)) (r : Refutation) (after : List ℕ) → ReadsTable table given
    → GivesVerdictWith judged given with_certificate entries (Refuted r) after
    → Appends taken taken' (refuted_line r ++ after) → FindsFault judged entries table taken taken'
refuted_table judged rightly (Err reported) with_certificate entries table taken taken' r after reads gives line =
    let bad : statuses.Refuted ≡ statuses.Fault =
    no_fault (Refuted r) reported statuses.Refuted gives.0 (table_fault table reported reads) refl in cc
refuted_table judged rightly (Ok operations) with_certificate entries table taken taken' r after reads gives line =
    let (named, none) = refuted_record judged operations with_certificate entries r after gives in
    let text = table_text table operations reads in
    record {
      octets = named.reads.returned;
      text = text.0;
      operations = operations;
      read = named.entries;
      refutation = r;
      tells = (named.reads.tells, named.reads.ended);
      tells_table = text.1;
      is_table = text.2;
      is_read = named.reads.is_read;
      at_fault = rightly operations named.entries r named.named;
      spells_nothing = λ is.
          spells_nothing judged operations named.entries named.reads.returned named.reads.is_read.rest r named.reads.is_read.framed
          (rightly operations named.entries r named.named) is;
      line = subst (Appends taken taken') (ap (λ (x : List ℕ). refuted_line r ++ x) none ∙ append-nil (refuted_line r)) line;
    }

-- ---- the run

-- the writer took the text of the outcome
pub prints_of : (judged : Option Side) (with_certificate : Bool) (entries table : Device) (outcome : Outcome)
    (after given : List ℕ) (taken taken' : Option (List ℕ)) (result : Result Status WriteFailed) → given ≡ after
    → IsJudged judged with_certificate entries table outcome after
    → IfOk result (λ status. (text : List ℕ) × IsOutcomeText outcome given text status × Appends taken taken' text)
    → IfOk result (PrintsVerdict judged with_certificate entries table taken taken')
prints_of judged with_certificate entries table outcome after given taken taken' (Ok status) is gives reported = record {
  outcome = outcome;
  after = given;
  text = reported.0;
  given = subst (IsJudged judged with_certificate entries table outcome) (sym is) gives;
  says = reported.1;
  takes = reported.2;
}
prints_of judged with_certificate entries table outcome after given taken taken' (Err failed) is gives reported = tt

-- after status Fine, the record is lawful
pub lawful_run : (judged : Option Side) (with_certificate : Bool) (entries table : Device) (taken taken' : Option (List ℕ))
    (result : Result Status WriteFailed)
    → IfOk result (PrintsVerdict judged with_certificate entries table taken taken') → result ≡ Ok statuses.Fine
    → FindsLawfulThen judged with_certificate entries table taken taken'
lawful_run judged with_certificate entries table taken taken' (Err failed) prints fine = cc
lawful_run judged with_certificate entries table taken taken' (Ok status) prints fine =
    let is_fine : status ≡ statuses.Fine = cc in
    let (ended, is) = said_so prints.outcome prints.after prints.text status prints.says
    (λ fault. let bad : statuses.Fine ≡ statuses.Fault = sym is_fine ∙ fault in cc) in
    lawful_table judged prints.given.0 with_certificate entries table taken taken' prints.outcome prints.after
    prints.given.1 prints.given.2 (ended ∙ is_fine) (subst (Appends taken taken') is prints.takes)

-- after status Refuted, the entry is at fault
pub refuted_run : (judged : Option Side) → NamesRightly judged → (with_certificate : Bool) (entries table : Device)
    (taken taken' : Option (List ℕ)) (result : Result Status WriteFailed)
    → IfOk result (PrintsVerdict judged with_certificate entries table taken taken') → result ≡ Ok statuses.Refuted
    → FindsFault judged entries table taken taken'
refuted_run judged rightly with_certificate entries table taken taken' (Err failed) prints ended = cc
refuted_run judged rightly with_certificate entries table taken taken' (Ok status) prints ended =
    let is_refuted : status ≡ statuses.Refuted = cc in
    let (so, is) = said_so prints.outcome prints.after prints.text status prints.says
    (λ fault. let bad : statuses.Refuted ≡ statuses.Fault = sym is_refuted ∙ fault in cc) in
    let (r, named) = refuted_is prints.outcome (so ∙ is_refuted) in
    let gives = subst
    (λ (o : Outcome). GivesVerdictWith judged prints.given.0 with_certificate entries o prints.after) named
    prints.given.2 in
    refuted_table judged rightly prints.given.0 with_certificate entries table taken taken' r prints.after prints.given.1
    gives (subst (Appends taken taken')
    (is ∙ ap (λ (o : Outcome). outcome_line o ++ prints.after) named) prints.takes)
