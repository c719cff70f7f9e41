-- If the outcome is lawful, the record is.
use Rattle.std.proofs.Common.{◌≡◌, ℕ, ◌+◌, ◌-◌, List, [], ◌∷◌, ◌++◌, length, refl, sym, ap, subst, ◌∙◌, inl, inr, append-nil}
use Rattle.std.specs.Prelude.{IfOk, Option, Some, None, Result, Ok, Err}
use Rattle.std.specs.Io.KnownBytes.{Appends, Consumes}
use Rattle.tcap_record.specs.declared.entry.Entry.{Entry}
use Rattle.tcap_record.specs.declared.entry.Body.{Body}
use Rattle.tcap_record.specs.declared.entry.End.{End as Side}
use Rattle.tcap_record.specs.declared.fault.FeedFault.{FeedFault}
use Rattle.tcap_record.specs.RecordOctets.{FramedFrom, IsBody, octet_of}
use Rattle.tcap_end.specs.Fault.{table_number_of}
use Rattle.tcap_end.specs.Table.{Table}
use Rattle.tcap_end.specs.TableText.{IsTableOf}
use Rattle.tcap_certificate.specs.declared.fault.CheckFault.{CheckFault}
use Rattle.tcap_model.specs.World.{Item, Sent}
use Rattle.tcap_model.specs.Run.{Event}
use Rattle.tcap_certificate.specs.Certificate.{Certificate}
use Rattle.tcap_model.specs.Entries.{AreItems}
use Rattle.tcap_check.specs.GivenRun.{SaysLawful}
use Rattle.tcap_check.specs.declared.checker.Report.{Report}
use Rattle.tcap_certificate.specs.LossCounts.{unheard_of}
use Rattle.tcap_check.proofs.one_end_lemmas.AloneRuns.{gives_for}
use Rattle.tcap_check.proofs.given_run_lemmas.GivenRuns.{gives}
use Rattle.tcap_check.proofs.described_run_laws.DescribedRuns.{described_is_given}
use Rattle.tcap_check.proofs.refusal_laws.ReasonGaps.{as_many}
use Rattle.tcap_check.proofs.refusal_laws.ReasonLaws.{refusal_says}
use Rattle.tcap_judge.specs.declared.text_reading.TextFault.{TextFault}
use Rattle.tcap_judge.specs.declared.text_reading.TextFault.TheVariants as faults
use Rattle.tcap_judge.specs.declared.outcome.Outcome.{Outcome}
use Rattle.tcap_judge.specs.declared.outcome.Outcome.TheVariants.{Faulty, Lawful}
use Rattle.tcap_lines.specs.declared.status.Status.{Status}
use Rattle.tcap_lines.specs.declared.status.Status.TheVariants as statuses
use Rattle.tcap_lines.specs.declared.status.WriteFailed.{WriteFailed}
use Rattle.tcap_judge.specs.Outcome.{IsOutcomeLine, IsOutcomeText, outcome_line, outcome_status}
use Rattle.tcap_judge.specs.Text.{ReadsText}
use Rattle.tcap_judge.specs.LawfulOutcome.{AreLawfulUnheard, IsShown, MayBeSentUnheard, lawful_by, replayed_by, lawful_outcome}
use Rattle.tcap_judge.specs.CheckOutcome.{Checks, IsCertificateGiven, IsReasoned, IsTableGiven, Judges, JudgesBy, JudgesRecord, JudgesWith, ReadsCertificate, ReadsRecord, ReadsTable, SaysOfDescribed, out_of_memory, record_outcome, replay_outcome, text_fault_outcome, text_limit}
use Rattle.tcap_judge.specs.Device.{Device}
use Rattle.tcap_judge.specs.LawfulEnd.{FindsLawfulBy}
use Rattle.tcap_judge.specs.LawfulRecord.{SpellsRecord, ReadsAllOctets, ReadsItems}

-- ---- items that octets spell

-- octets framed as entries that are items spell these items
pub spells_items : (place : ℕ) (entries : List Entry) (items : List Item) (octets : List ℕ)
    → FramedFrom place entries octets [] → AreItems entries items → SpellsRecord items octets
spells_items place [] [] octets framed are = framed
spells_items place [] (item ∷ items) octets framed are = absurd are
spells_items place (entry ∷ entries) [] octets framed are = absurd are
spells_items place (entry ∷ entries) (Sent side message ∷ items) octets (others, inl sent, more) are =
    let is : sent.side ≡ side = cc (sent.side_is, are.0.0) in (
      sent.element,
      others,
      subst (λ (s : Side). octets ≡ octet_of s ∷ sent.element ++ others) is sent.joined,
      subst (λ (b : Body). IsBody b entry.place sent.element) are.0.1 sent.body,
      spells_items (place + (length octets - length others)) entries items others more are.1,
    )
spells_items place (entry ∷ entries) (Sent side message ∷ items) octets (others, inr mark, more) are =
    let bad : Some side ≡ None = sym are.0.0 ∙ mark.side_is in cc
spells_items place (entry ∷ entries) (Item.Quiet ∷ items) octets (others, inl sent, more) are =
    let bad : Some sent.side ≡ None = sym sent.side_is ∙ are.0.0 in cc
spells_items place (entry ∷ entries) (Item.Quiet ∷ items) octets (others, inr mark, more) are =
    (others, mark.joined, spells_items (place + (length octets - length others)) entries items others more are.1)

-- ---- outcomes

-- If the outcome has status Fine, it is lawful with this count.
abbrev pub IsFineOf : Option Side → ℕ → Outcome → Type 0
IsFineOf judged count outcome =
    outcome_status outcome ≡ statuses.Fine → (unheard : ℕ) × (outcome ≡ lawful_outcome judged count unheard)

pub lawful_is : (judged : Option Side) (count : ℕ) (events : List Event)
    → IsFineOf judged count (lawful_by judged count events)
lawful_is None count events fine = (0, refl)
lawful_is (Some side) count events fine = (unheard_of side events, refl)

replay_is : (judged : Option Side) (count : ℕ) (replay : Result (List Event) CheckFault)
    → IsFineOf judged count (replay_outcome judged count replay)
replay_is judged count (Ok events) fine = lawful_is judged count events fine
replay_is judged count (Err fault) fine = let bad : statuses.NotShown ≡ statuses.Fine = fine in cc

-- a fault has another status than Fine
pub no_fault : (outcome reported : Outcome) (status : Status) → outcome ≡ reported → outcome_status reported ≡ statuses.Fault
    → outcome_status outcome ≡ status → status ≡ statuses.Fault
no_fault outcome reported status is fault ended = sym ended ∙ ap outcome_status is ∙ fault

pub fine_fault : (outcome reported : Outcome) → outcome ≡ reported → outcome_status reported ≡ statuses.Fault
    → outcome_status outcome ≡ statuses.Fine → ⊥
fine_fault outcome reported is fault fine =
    let bad : statuses.Fine ≡ statuses.Fault = no_fault outcome reported statuses.Fine is fault fine in cc

text_fault : (too_long : ℕ) (fault : TextFault) → outcome_status (text_fault_outcome too_long fault) ≡ statuses.Fault
text_fault too_long faults.TooLong = refl
text_fault too_long (faults.Read place) = refl
text_fault too_long faults.Memory = refl

-- a faulty table gives a fault
pub table_fault : (d : Device) (reported : Outcome) → ReadsTable d (Err reported) → outcome_status reported ≡ statuses.Fault
table_fault d reported reads = elim reads.is [
  | inl memory ↦ let is : reported ≡ out_of_memory = cc in ap outcome_status is
  | inr given ↦ by reads.text given
]
  where
    by : (text : Result (List ℕ) TextFault) → IsTableGiven text (Err reported) → outcome_status reported ≡ statuses.Fault
    by (Ok octets) (Ok table, is, given) = cc
    by (Ok octets) (Err fault, is, given) =
        let same : reported ≡ Faulty (table_number_of fault.reason) fault.place = cc in ap outcome_status same
    by (Err fault) given =
        let same : reported ≡ text_fault_outcome 30 fault = cc in ap outcome_status same ∙ text_fault 30 fault

-- a faulty certificate gives a fault
certificate_fault : (d : Device) (reported : Outcome) → ReadsCertificate d (Err reported) → outcome_status reported ≡ statuses.Fault
certificate_fault d reported reads = elim reads.is [
  | inl memory ↦ let is : reported ≡ out_of_memory = cc in ap outcome_status is
  | inr given ↦ by reads.text given
]
  where
    by : (text : Result (List ℕ) TextFault) → IsCertificateGiven text (Err reported) → outcome_status reported ≡ statuses.Fault
    by (Ok octets) given = ap outcome_status given.0
    by (Err fault) given =
        let same : reported ≡ text_fault_outcome 60 fault = cc in ap outcome_status same ∙ text_fault 60 fault

-- ---- the record

-- a replay that gives events shows the entries lawful
pub shown_by_replay : (judged : Option Side) (table : Table) (c : Certificate) (entries : List Entry) (outcome : Outcome)
    → outcome ≡ replay_outcome judged (length entries) (replayed_by judged table c entries) → IsShown judged table entries outcome
shown_by_replay judged table c entries outcome says = by judged (replayed_by judged table c entries) refl says
  where
    by : (judged : Option Side) (replay : Result (List Event) CheckFault) → replayed_by judged table c entries ≡ replay
        → outcome ≡ replay_outcome judged (length entries) replay → IsShown judged table entries outcome
    by None (Ok events) is reported =
        let given = gives table c entries events is in
        subst (IsShown None table entries) (sym reported)
        (given.items, given.are, (length events, (events, given.run, given.keeps, refl)))
    by (Some side) (Ok events) is reported =
        let given = gives_for side table c entries events is in
        subst (IsShown (Some side) table entries) (sym reported)
        (given.items, given.are, (events, given.run.0, given.run.1, given.run.2, given.keeps, given.left, refl))
    by judged (Err fault) is reported = subst (IsShown judged table entries) (sym reported) tt

-- a refusal has its reason
pub reasoned_by_replay : (judged : Option Side) (table : Table) (c : Certificate) (entries : List Entry) (outcome : Outcome)
    → outcome ≡ replay_outcome judged (length entries) (replayed_by judged table c entries) → IsReasoned judged table c entries outcome
reasoned_by_replay judged table c entries outcome says = by judged (replayed_by judged table c entries) refl says
  where
    by : (judged : Option Side) (replay : Result (List Event) CheckFault) → replayed_by judged table c entries ≡ replay
        → outcome ≡ replay_outcome judged (length entries) replay → IsReasoned judged table c entries outcome
    by None (Ok events) is reported = subst (IsReasoned None table c entries) (sym reported) tt
    by (Some side) (Ok events) is reported = subst (IsReasoned (Some side) table c entries) (sym reported) tt
    by judged (Err fault) is reported = subst (IsReasoned judged table c entries) (sym reported) (refusal_says judged table c entries fault is)

-- a described run is given
pub described_by_replay : (judged : Option Side) (table : Table) (c : Certificate) (entries : List Entry) (end : Result (Unit {0}) FeedFault)
    (outcome : Outcome) → outcome ≡ replay_outcome judged (length entries) (replayed_by judged table c entries) → judged ≡ None
    → SaysOfDescribed table c entries end outcome
described_by_replay judged table c entries end outcome says both items events ended are run described =
    let given = described_is_given table c entries items events are run described in
    says ∙ ap (λ (x : Option Side). replay_outcome x (length entries) (replayed_by x table c entries)) both
    ∙ ap (replay_outcome None (length entries)) given.1 ∙ ap Lawful (as_many entries items are)

-- a report shows the entries lawful
pub shown_report : (judged : Option Side) (table : Table) (entries : List Entry) (count : ℕ) (report : Report)
    → (items : List Item) × AreItems entries items × SaysLawful judged items table report
    → IsShown judged table entries (lawful_outcome judged count report.unheard)
shown_report None table entries count report (items, are, lawful) = (items, are, (report.moves, lawful))
shown_report (Some side) table entries count report found = found

-- a lawful outcome holds
pub shown_lawful : (judged : Option Side) (table : Table) (entries : List Entry) (outcome : Outcome) (count unheard : ℕ)
    → outcome ≡ lawful_outcome judged count unheard → IsShown judged table entries outcome → AreLawfulUnheard judged table entries unheard
shown_lawful None table entries outcome count unheard is shown = subst (IsShown None table entries) is shown
shown_lawful (Some side) table entries outcome count unheard is shown = subst (IsShown (Some side) table entries) is shown

-- what follows for the octets of a record if its outcome has status Fine
pub record IsFoundBy (judged : Option Side) (table : Table) (d : Device) (outcome : Outcome) : Type 0 where
  pub octets : List ℕ
  pub items : List Item
  pub unheard : ℕ
  pub tells : ReadsAllOctets d octets
  pub spells : SpellsRecord items octets
  pub lawful : MayBeSentUnheard judged items table unheard
  pub is : outcome ≡ lawful_outcome judged (length items) unheard

-- by entries that are the whole record, and lawful
pub found_of : (judged : Option Side) (table : Table) (d : Device) (outcome : Outcome) (unheard : ℕ) (entries : List Entry)
    (end : Unit {0}) → ReadsRecord d entries (Ok end) → AreLawfulUnheard judged table entries unheard
    → outcome ≡ lawful_outcome judged (length entries) unheard → IsFoundBy judged table d outcome
found_of judged table d outcome unheard entries end reads (items, are, sent) is =
    let framed = subst (FramedFrom 0 entries reads.returned) reads.is_read.ends reads.is_read.framed in
    record {
      octets = reads.returned;
      items = items;
      unheard = unheard;
      tells = (reads.tells, reads.ended);
      spells = spells_items 0 entries items reads.returned framed are;
      lawful = sent;
      is = is ∙ ap (λ (n : ℕ). lawful_outcome judged n unheard) (as_many entries items are);
    }

-- by the outcome of entries that are the whole record
pub found_said : (judged : Option Side) (table : Table) (d : Device) (outcome reported : Outcome) (entries : List Entry)
    (end : Unit {0}) → ReadsRecord d entries (Ok end) → IsFineOf judged (length entries) reported → outcome ≡ reported
    → IsShown judged table entries outcome → outcome_status outcome ≡ statuses.Fine → IsFoundBy judged table d outcome
found_said judged table d outcome reported entries end reads fine_of is shown fine =
    let (unheard, lawful) = fine_of (sym (ap outcome_status is) ∙ fine) in
    found_of judged table d outcome unheard entries end reads
    (shown_lawful judged table entries outcome (length entries) unheard (is ∙ lawful) shown) (is ∙ lawful)

by_end : (judged : Option Side) (table : Table) (c : Certificate) (d : Device) (outcome : Outcome) (entries : List Entry)
    (end : Result (Unit {0}) FeedFault) → ReadsRecord d entries end → outcome ≡ record_outcome judged table c entries end
    → IsShown judged table entries outcome → outcome_status outcome ≡ statuses.Fine → IsFoundBy judged table d outcome
by_end judged table c d outcome entries (Err fault) reads says shown fine =
    absurd (fine_fault outcome (record_outcome judged table c entries (Err fault)) says refl fine)
by_end judged table c d outcome entries (Ok end) reads says shown fine =
    found_said judged table d outcome (record_outcome judged table c entries (Ok end)) entries end reads
    (replay_is judged (length entries) (replayed_by judged table c entries)) says shown fine

found_by : (judged : Option Side) (table : Table) (c : Certificate) (d : Device) (outcome : Outcome)
    → JudgesRecord judged table c d outcome → outcome_status outcome ≡ statuses.Fine → IsFoundBy judged table d outcome
found_by judged table c d outcome (inl memory) fine = absurd (fine_fault outcome out_of_memory memory refl fine)
found_by judged table c d outcome (inr says) fine =
    by_end judged table c d outcome says.entries says.end says.reads says.says says.shown fine

pub by_certificate : (judged : Option Side) (table : Table) (given : Result Certificate Outcome) (certificate d : Device)
    (outcome : Outcome) → ReadsCertificate certificate given → JudgesBy judged table given d outcome
    → outcome_status outcome ≡ statuses.Fine → IsFoundBy judged table d outcome
by_certificate judged table (Ok c) certificate d outcome reads judges fine = found_by judged table c d outcome judges fine
by_certificate judged table (Err reported) certificate d outcome reads judges fine =
    absurd (fine_fault outcome reported judges.0 (certificate_fault certificate reported reads) fine)

-- ---- record, table and certificate

-- the text of the table that was read
pub table_text : (d : Device) (operations : Table) → ReadsTable d (Ok operations)
    → (octets : List ℕ) × ReadsAllOctets d octets × IsTableOf octets (Ok operations)
table_text d operations reads = elim reads.is [
  | inl memory ↦ cc
  | inr given ↦ by reads.text reads.reads given
]
  where
    by : (text : Result (List ℕ) TextFault)
        → ReadsText text_limit d.before d.after d.failed_before d.failed_after text → IsTableGiven text (Ok operations)
        → (octets : List ℕ) × ReadsAllOctets d octets × IsTableOf octets (Ok operations)
    by (Ok octets) reads (Ok table, is, given) =
        let same : table ≡ operations = cc in (
          octets,
          (subst (Consumes d.before d.after) (sym reads.ends.0) reads.tells, reads.ends.2),
          subst (λ (x : Table). IsTableOf octets (Ok x)) same is,
        )
    by (Ok octets) reads (Err fault, is, given) = cc
    by (Err fault) reads given = cc

-- both readers returned the items and the table
told_items : (entries table : Device) (operations : Table) (items : List Item) (octets : List ℕ)
    → ReadsTable table (Ok operations) → ReadsAllOctets entries octets → SpellsRecord items octets
    → ReadsItems entries table operations items
told_items entries table operations items octets reads tells spells =
    let text = table_text table operations reads in
    record {
      octets = octets;
      text = text.0;
      tells = tells;
      tells_table = text.1;
      is_table = text.2;
      spells = spells;
    }

-- the record is lawful, and the line reports it
pub finds : (judged : Option Side) (entries table : Device) (operations : Table) (taken taken' : Option (List ℕ))
    (outcome : Outcome) → ReadsTable table (Ok operations) → IsFoundBy judged operations entries outcome
    → Appends taken taken' (outcome_line outcome) → FindsLawfulBy judged entries table taken taken'
finds None entries table operations taken taken' outcome reads found line = record {
  operations = operations;
  items = found.items;
  moves = found.lawful.0;
  returned = told_items entries table operations found.items found.octets reads found.tells found.spells;
  lawful = found.lawful.1;
  line = subst (λ (o : Outcome). Appends taken taken' (outcome_line o)) found.is line;
}
finds (Some side) entries table operations taken taken' outcome reads found line = record {
  operations = operations;
  items = found.items;
  unheard = found.unheard;
  returned = told_items entries table operations found.items found.octets reads found.tells found.spells;
  lawful = found.lawful;
  line = subst (λ (o : Outcome). Appends taken taken' (outcome_line o)) found.is line;
}

by_table : (judged : Option Side) (given : Result Table Outcome) (entries table certificate : Device)
    (taken taken' : Option (List ℕ)) (outcome : Outcome) → ReadsTable table given
    → JudgesWith judged given certificate entries outcome → outcome_status outcome ≡ statuses.Fine
    → Appends taken taken' (outcome_line outcome) → FindsLawfulBy judged entries table taken taken'
by_table judged (Err reported) entries table certificate taken taken' outcome reads judges fine line =
    absurd (fine_fault outcome reported judges.0 (table_fault table reported reads) fine)
by_table judged (Ok operations) entries table certificate taken taken' outcome reads judges fine line =
    finds judged entries table operations taken taken' outcome reads
    (by_certificate judged operations judges.0 certificate entries outcome judges.1 judges.2 fine) line

-- ---- lines

-- status Fine is that of the outcome
fine_line : (outcome : Outcome) (line : List ℕ) (status : Status) → IsOutcomeLine outcome line status → status ≡ statuses.Fine
    → (outcome_status outcome ≡ statuses.Fine) × (line ≡ outcome_line outcome)
fine_line outcome line status (inl reported) fine = (sym reported.1 ∙ fine, reported.0)
fine_line outcome line status (inr reported) fine =
    let bad : statuses.Fault ≡ statuses.Fine = sym reported.1 ∙ fine in cc

-- no text after the line
plain : (outcome : Outcome) (line : List ℕ) (status : Status) → IsOutcomeText outcome [] line status → IsOutcomeLine outcome line status
plain outcome line status (inl reported) = inl (reported.0 ∙ append-nil (outcome_line outcome), reported.1)
plain outcome line status (inr memory) = inr memory

-- the writer took the line of the outcome
pub checks_of : (judged : Option Side) (entries table certificate : Device) (outcome : Outcome)
    (taken taken' : Option (List ℕ)) (result : Result Status WriteFailed)
    → Judges judged entries table certificate outcome
    → IfOk result (λ status. (text : List ℕ) × IsOutcomeText outcome [] text status × Appends taken taken' text)
    → IfOk result (Checks judged entries table certificate taken taken')
checks_of judged entries table certificate outcome taken taken' (Ok status) judges reported = record {
  outcome = outcome;
  line = reported.0;
  judges = judges;
  says = plain outcome reported.0 status reported.1;
  takes = reported.2;
}
checks_of judged entries table certificate outcome taken taken' (Err failed) judges reported = tt

-- after status Fine, the record is lawful
pub fine_run : (judged : Option Side) (entries table certificate : Device) (taken taken' : Option (List ℕ))
    (result : Result Status WriteFailed) → IfOk result (Checks judged entries table certificate taken taken')
    → result ≡ Ok statuses.Fine → FindsLawfulBy judged entries table taken taken'
fine_run judged entries table certificate taken taken' (Ok status) checks fine =
    let (ended, is) = fine_line checks.outcome checks.line status checks.says cc in
    by_table judged checks.judges.0 entries table certificate taken taken' checks.outcome checks.judges.1 checks.judges.2
    ended (subst (Appends taken taken') is checks.takes)
fine_run judged entries table certificate taken taken' (Err failed) checks fine = cc
