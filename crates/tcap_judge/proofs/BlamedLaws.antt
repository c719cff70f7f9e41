-- The contracts of `run_blame`: the findings on both ends, and their lines.
use Rattle.std.proofs.Common.{◌≡◌, ◌&&◌, ℕ, Bool, true, false, List, [], ◌∷◌, ◌++◌, length, cond, refl, sym, ap, ap₂, subst, ◌∙◌, ◌⊎◌, inl, inr}
use Rattle.std.specs.Prelude.{◌||◌, IfOk, Option, Some, None, Result, Ok, Err}
use Rattle.std.specs.Io.KnownBytes.{Appends}
use Rattle.tcap_record.specs.declared.entry.End.{End as Side}
use Rattle.tcap_record.specs.declared.entry.End.TheVariants as sides
use Rattle.tcap_record.specs.declared.entry.Entry.{Entry}
use Rattle.tcap_record.specs.declared.fault.FeedFault.{FeedFault}
use Rattle.tcap_end.specs.Table.{Table}
use Rattle.tcap_model.specs.Entries.{AreItems, IsItem}
use Rattle.tcap_model.specs.Run.{IsLawful, IsLawfulFor}
use Rattle.tcap_model.specs.World.{Item, Sent}
use Rattle.tcap_refute.specs.declared.kind.Refutation.{Refutation}
use Rattle.tcap_faults.specs.BlameMeaning.{IsAtFaultOf}
use Rattle.tcap_faults.specs.Fault.{blamed}
use Rattle.tcap_judge.specs.declared.findings.Ends.{Ends}
use Rattle.tcap_judge.specs.declared.findings.Finding.{Finding}
use Rattle.tcap_judge.specs.declared.findings.Finding.TheVariants as findings
use Rattle.tcap_judge.specs.declared.outcome.Outcome.{Outcome}
use Rattle.tcap_judge.specs.declared.outcome.Outcome.TheVariants.{Lawful, LawfulFor, NotShown, Refuted, Undecided, Faulty}
use Rattle.tcap_lines.specs.declared.status.Status.{Status}
use Rattle.tcap_lines.specs.declared.status.Status.TheVariants as statuses
use Rattle.tcap_lines.specs.declared.status.WriteFailed.{WriteFailed}
use Rattle.tcap_judge.specs.Outcome.{outcome_line, outcome_status}
use Rattle.tcap_judge.specs.LawfulOutcome.{AreLawful, AreLawfulUnheard, IsShown, MayBeSent, MayBeSentUnheard, replayed_by}
use Rattle.tcap_judge.specs.CheckOutcome.{ReadsRecord, ReadsTable, out_of_memory}
use Rattle.tcap_judge.specs.Device.{Device}
use Rattle.tcap_judge.specs.Verdict.{refutation_by, proposed_by, record_verdict, verdict}
use Rattle.tcap_judge.specs.EndFindings.{AreBlamed}
use Rattle.tcap_judge.specs.BlameOutcome.{AreFound, FindsLawfulEnds, GivesBlame, GivesBlameWith, IsBlamed, IsFound, PrintsBlame, IsBlameText, blame_status, ends_lines, ends_of, finding, is_blamed, is_lawful, joint_record_verdict, joint_verdict, lines_after, record_ends, unblamed_status, verdict_by_ends}
use Rattle.tcap_judge.proofs.LawfulLaws.{IsFineOf, fine_fault, finds, found_said as found_by_verdict, table_fault}
use Rattle.tcap_judge.proofs.SpellsNothingLaws.{spells_nothing}
use Rattle.tcap_judge.proofs.VerdictLaws.{between, verdict_is}

-- ---- the ends

-- An entry is one item.
same_item : (entry : Entry) (x y : Item) → IsItem entry x → IsItem entry y → x ≡ y
same_item entry (Sent side message) (Sent other returned) is are = cc
same_item entry (Sent side message) Item.Quiet is are = let bad : Some side ≡ None = sym is.0 ∙ are.0 in cc
same_item entry Item.Quiet (Sent other returned) is are = let bad : None ≡ Some other = sym is.0 ∙ are.0 in cc
same_item entry Item.Quiet Item.Quiet is are = refl

same_items : (entries : List Entry) (xs ys : List Item) → AreItems entries xs → AreItems entries ys → xs ≡ ys
same_items [] [] [] is are = refl
same_items [] [] (y ∷ ys) is are = absurd are
same_items [] (x ∷ xs) ys is are = absurd is
same_items (entry ∷ entries) [] ys is are = absurd is
same_items (entry ∷ entries) (x ∷ xs) [] is are = absurd are
same_items (entry ∷ entries) (x ∷ xs) (y ∷ ys) is are =
    ap₂ (λ (z : Item) (zs : List Item). z ∷ zs) (same_item entry x y is.0 are.0) (same_items entries xs ys is.1 are.1)

-- what is needed of `blame_is_whole`
abbrev pub BothMayHaveSent : Type 0
BothMayHaveSent = (table : Table) (items : List Item) → IsLawfulFor sides.A items table → IsLawfulFor sides.B items table
    → (moves : ℕ) × IsLawful items table moves

both_lawful : BothMayHaveSent → (table : Table) (entries : List Entry) → AreLawful (Some sides.A) table entries
    → AreLawful (Some sides.B) table entries → AreLawful None table entries
both_lawful whole table entries (xs, are, by_a) (ys, same, by_b) =
    let is = same_items entries ys xs same are in
    (xs, are, whole table xs by_a (subst (λ (items : List Item). IsLawfulFor sides.B items table) is by_b))

-- Items that may be sent with some unheard messages may be sent.
pub without_unheard : (judged : Option Side) (items : List Item) (table : Table) (unheard : ℕ)
    → MayBeSentUnheard judged items table unheard → MayBeSent judged items table
without_unheard None items table unheard sent = sent
without_unheard (Some side) items table unheard (events, w, runs, same, keeps, left, lost) = (events, (w, runs, same), keeps)

pub are_lawful : (judged : Option Side) (table : Table) (entries : List Entry) (unheard : ℕ)
    → AreLawfulUnheard judged table entries unheard → AreLawful judged table entries
are_lawful judged table entries unheard (items, are, sent) = (items, are, without_unheard judged items table unheard sent)

pub are_found : BothMayHaveSent → (table : Table) (entries : List Entry) (a b : Finding)
    → IsFound sides.A table entries a → IsFound sides.B table entries b
    → is_lawful a && is_lawful b ≡ true → AreLawful None table entries
are_found whole table entries (findings.Lawful count unheard) (findings.Lawful all more) by_a by_b both =
    both_lawful whole table entries (are_lawful (Some sides.A) table entries unheard by_a)
    (are_lawful (Some sides.B) table entries more by_b)
are_found whole table entries (findings.Lawful count unheard) (findings.Blamed r) by_a by_b both = cc
are_found whole table entries (findings.Lawful count unheard) (findings.NotBlamed all) by_a by_b both = cc
are_found whole table entries (findings.Blamed r) b by_a by_b both = cc
are_found whole table entries (findings.NotBlamed all) b by_a by_b both = cc

abbrev both_ends : Finding → Finding → Ends
both_ends a b = record { a = a; b = b }

-- the findings on both ends hold
pub ends_found : BothMayHaveSent → (table : Table) (entries : List Entry) (a b : Finding) → a ≡ finding table entries sides.A
    → b ≡ finding table entries sides.B → IsFound sides.A table entries a → IsFound sides.B table entries b
    → (both_ends a b ≡ ends_of table entries) × AreFound table entries (both_ends a b)
ends_found whole table entries a b a_is b_is by_a by_b = (
  ap₂ both_ends a_is b_is,
  record {
    a = by_a;
    b = by_b;
    both = are_found whole table entries a b by_a by_b;
  },
)

-- ---- the verdict on both ends, joined with the findings on each

shown_by_ends : (table : Table) (entries : List Entry) (count : ℕ) (ends : Ends) (outcome : Outcome)
    → IsShown None table entries outcome → AreFound table entries ends
    → IsShown None table entries (verdict_by_ends count ends outcome)
shown_by_ends table entries count ends outcome shown found = by (is_lawful ends.a && is_lawful ends.b) refl
  where
    by : (both : Bool) → (is_lawful ends.a && is_lawful ends.b) ≡ both → IsShown None table entries (cond both (Lawful count) outcome)
    by true is = found.both is
    by false is = shown

pub are_blamed : (table : Table) (entries : List Entry) (outcome : Outcome) (ends : Ends) (count : ℕ) (reported : Outcome)
    → count ≡ length entries → reported ≡ verdict_by_ends count ends outcome → outcome ≡ verdict table entries
    → IsShown None table entries outcome → ends ≡ ends_of table entries → AreFound table entries ends
    → AreBlamed table entries reported (Some ends)
are_blamed table entries outcome ends count reported count_is said_is outcome_is shown ends_are found = (
  said_is ∙ ap₂ (verdict_by_ends count) ends_are outcome_is
      ∙ ap (λ (n : ℕ). verdict_by_ends n (ends_of table entries) (verdict table entries)) count_is,
  subst (IsShown None table entries) (sym said_is) (shown_by_ends table entries count ends outcome shown found),
  (ends, refl, ends_are, found),
)

-- ---- the record

-- what is needed of `blamed_is_at_fault`
abbrev pub BlamesRightly : Type 0
BlamesRightly = (table : Table) (side : Side) (entries : List Entry) (r : Refutation) → blamed table side entries ≡ Some r
    → IsAtFaultOf table side entries r

-- the verdict on a record that was read
pub gives_blame : BlamesRightly → (table : Table) (d : Device) (entries : List Entry) (end : Result (Unit {0}) FeedFault)
    (outcome : Outcome) (ends : Option Ends) → ReadsRecord d entries end
    → outcome ≡ joint_record_verdict None table entries end → IsShown None table entries outcome
    → ends ≡ record_ends table entries end → ((reported : Ends) → ends ≡ Some reported → AreFound table entries reported)
    → GivesBlame table d outcome ends
gives_blame rightly table d entries end outcome ends reads says shown ends_are found = inr (record {
  entries = entries;
  end = end;
  reads = reads;
  says = says;
  shown = shown;
  ends_are = ends_are;
  at_fault = λ side r is. rightly table side entries r is;
  spells_nothing = λ side r is kind.
      spells_nothing (Some side) table entries reads.returned reads.is_read.rest r reads.is_read.framed (rightly table side entries r is) kind;
  found = found;
})

-- the findings if the record has no fault
pub ends_said : (table : Table) (entries : List Entry) (reported : Option Ends) (ends : Ends) → reported ≡ Some ends
    → ends ≡ ends_of table entries → reported ≡ record_ends table entries (Ok tt)
ends_said table entries reported ends is are = is ∙ ap Some are

pub found_said : (table : Table) (entries : List Entry) (reported : Option Ends) (ends : Ends) → reported ≡ Some ends
    → AreFound table entries ends → (other : Ends) → reported ≡ Some other → AreFound table entries other
found_said table entries reported ends is found other are =
    let same : ends ≡ other = let both : Some ends ≡ Some other = sym is ∙ are in cc in subst (AreFound table entries) same found

pub found_none : (table : Table) (entries : List Entry) (reported : Option Ends) → reported ≡ None → (other : Ends)
    → reported ≡ Some other → AreFound table entries other
found_none table entries reported none other is = let bad : None ≡ Some other = sym none ∙ is in cc

pub shown_fault : (table : Table) (entries : List Entry) (outcome : Outcome) (number place : ℕ)
    → outcome ≡ Faulty number place → IsShown None table entries outcome
shown_fault table entries outcome number place is = subst (IsShown None table entries) (sym is) tt

-- ---- the run

-- the writer took the lines of what the readers returned
pub prints_blame : (entries table : Device) (outcome : Outcome) (ends : Option Ends) (taken taken' : Option (List ℕ))
    (result : Result Status WriteFailed) → IsBlamed entries table outcome ends
    → IfOk result (λ status. (text : List ℕ) × IsBlameText outcome ends text status × Appends taken taken' text)
    → IfOk result (PrintsBlame entries table taken taken')
prints_blame entries table outcome ends taken taken' (Ok status) judged reported = record {
  outcome = outcome;
  ends = ends;
  text = reported.0;
  judged = judged;
  says = reported.1;
  takes = reported.2;
}
prints_blame entries table outcome ends taken taken' (Err failed) judged reported = tt

-- A run with status Fine has an outcome with this status.
fine_choice : (blames : Bool) (status : Status) → cond blames statuses.Refuted status ≡ statuses.Fine → status ≡ statuses.Fine
fine_choice true status fine = let bad : statuses.Refuted ≡ statuses.Fine = fine in cc
fine_choice false status fine = fine

fine_unblamed : (outcome : Outcome) → unblamed_status outcome ≡ statuses.Fine → outcome_status outcome ≡ statuses.Fine
fine_unblamed (Lawful count) fine = fine
fine_unblamed (LawfulFor count unheard) fine = fine
fine_unblamed (NotShown fault) fine = fine
fine_unblamed (Refuted r) fine = let bad : statuses.NotShown ≡ statuses.Fine = fine in cc
fine_unblamed (Undecided fault) fine = fine
fine_unblamed (Faulty number place) fine = fine

fine_by : (outcome : Outcome) (ends : Option Ends) → blame_status ends outcome ≡ statuses.Fine
    → outcome_status outcome ≡ statuses.Fine
fine_by outcome None fine = fine
fine_by outcome (Some reported) fine =
    fine_unblamed outcome (fine_choice (is_blamed reported.a || is_blamed reported.b) (unblamed_status outcome) fine)

fine_lines : (outcome : Outcome) (ends : Option Ends) (text : List ℕ) (status : Status)
    → IsBlameText outcome ends text status → status ≡ statuses.Fine
    → (outcome_status outcome ≡ statuses.Fine) × (text ≡ outcome_line outcome ++ lines_after ends)
fine_lines outcome ends text status (inl reported) fine = (fine_by outcome ends (sym reported.1 ∙ fine), reported.0)
fine_lines outcome ends text status (inr reported) fine = let bad : statuses.Fault ≡ statuses.Fine = sym reported.1 ∙ fine in cc

-- A lawful joint verdict has the number of entries.
joint_fine : (table : Table) (entries : List Entry) → IsFineOf None (length entries) (joint_verdict None table entries)
joint_fine table entries = by (is_lawful (finding table entries sides.A) && is_lawful (finding table entries sides.B))
  where
    by : (both : Bool) → IsFineOf None (length entries) (cond both (Lawful (length entries)) (verdict table entries))
    by true = λ fine. (0, refl)
    by false =
        verdict_is None (length entries) (refutation_by None table entries)
        (replayed_by None table (proposed_by None entries) entries)

by_end : (entries table : Device) (operations : Table) (taken taken' : Option (List ℕ)) (outcome : Outcome) (ends : Option Ends)
    (read : List Entry) (end : Result (Unit {0}) FeedFault) → ReadsRecord entries read end → ReadsTable table (Ok operations)
    → outcome ≡ joint_record_verdict None operations read end → IsShown None operations read outcome
    → ends ≡ record_ends operations read end → outcome_status outcome ≡ statuses.Fine
    → Appends taken taken' (outcome_line outcome ++ lines_after ends) → FindsLawfulEnds entries table taken taken'
by_end entries table operations taken taken' outcome ends read (Err fault) reads given says shown are fine line =
    absurd (fine_fault outcome (record_verdict None operations read (Err fault)) says refl fine)
by_end entries table operations taken taken' outcome ends read (Ok end) reads given says shown are fine line =
    let lines = subst (λ (reported : Option Ends). Appends taken taken' (outcome_line outcome ++ lines_after reported)) are line in
    let (there, before, rest) = between taken taken' (outcome_line outcome) (ends_lines (ends_of operations read)) lines in (
      there,
      ends_of operations read,
      finds None entries table operations taken there outcome given
          (found_by_verdict None operations entries outcome (joint_verdict None operations read) read end reads (joint_fine operations read)
          says shown fine) before,
      rest,
    )

by_record : (entries table : Device) (operations : Table) (taken taken' : Option (List ℕ)) (outcome : Outcome) (ends : Option Ends)
    → ReadsTable table (Ok operations) → GivesBlame operations entries outcome ends → outcome_status outcome ≡ statuses.Fine
    → Appends taken taken' (outcome_line outcome ++ lines_after ends) → FindsLawfulEnds entries table taken taken'
by_record entries table operations taken taken' outcome ends given (inl memory) fine line =
    absurd (fine_fault outcome out_of_memory memory.0 refl fine)
by_record entries table operations taken taken' outcome ends given (inr says) fine line =
    by_end entries table operations taken taken' outcome ends says.entries says.end says.reads given says.says says.shown
    says.ends_are fine line

by_table : (given : Result Table Outcome) (entries table : Device) (taken taken' : Option (List ℕ)) (outcome : Outcome)
    (ends : Option Ends) → ReadsTable table given → GivesBlameWith given entries outcome ends
    → outcome_status outcome ≡ statuses.Fine → Appends taken taken' (outcome_line outcome ++ lines_after ends)
    → FindsLawfulEnds entries table taken taken'
by_table (Err reported) entries table taken taken' outcome ends reads gives fine line =
    absurd (fine_fault outcome reported gives.0 (table_fault table reported reads) fine)
by_table (Ok operations) entries table taken taken' outcome ends reads gives fine line =
    by_record entries table operations taken taken' outcome ends reads gives fine line

-- after status Fine, the record is lawful
pub lawful_blame : (entries table : Device) (taken taken' : Option (List ℕ)) (result : Result Status WriteFailed)
    → IfOk result (PrintsBlame entries table taken taken') → result ≡ Ok statuses.Fine → FindsLawfulEnds entries table taken taken'
lawful_blame entries table taken taken' (Err failed) prints fine = cc
lawful_blame entries table taken taken' (Ok status) prints fine =
    let is_fine : status ≡ statuses.Fine = cc in
    let (ended, is) = fine_lines prints.outcome prints.ends prints.text status prints.says is_fine in
    by_table prints.judged.0 entries table taken taken' prints.outcome prints.ends prints.judged.1 prints.judged.2 ended
    (subst (Appends taken taken') is prints.takes)
