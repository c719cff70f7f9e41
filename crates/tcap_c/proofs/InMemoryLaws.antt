-- The answers on octets in memory are right.
use Rattle.std.proofs.Common.{◌≡◌, ◌&&◌, Bool, cond, ℕ, List, [], ◌++◌, length, map, true, false, refl, sym, ap, subst, ◌∙◌, inl, inr, append-nil}
use Rattle.std.specs.Prelude.{Option, Some, None, Result, Ok, Err}
use Rattle.std.specs.Io.KnownBytes.{Consumes, IsAtEnd}
use Rattle.tcap_record.specs.declared.entry.End.{End as Side}
use Rattle.tcap_record.specs.declared.entry.End.TheVariants as sides
use Rattle.tcap_record.specs.declared.entry.Entry.{Entry}
use Rattle.tcap_record.specs.declared.fault.FeedFault.{FeedFault}
use Rattle.tcap_record.specs.RecordOctets.{FramedFrom}
use Rattle.tcap_record.specs.Reading.{IsReadAs}
use Rattle.tcap_end.specs.Table.{Table}
use Rattle.tcap_end.specs.TableText.{IsTableOf}
use Rattle.tcap_model.specs.Entries.{item_of}
use Rattle.tcap_refute.specs.declared.kind.Refutation.{Refutation}
use Rattle.tcap_refute.specs.Kind.{kind_number, refuted}
use Rattle.tcap_faults.specs.Fault.{blamed}
use Rattle.tcap_judge.specs.declared.findings.Ends.{Ends}
use Rattle.tcap_judge.specs.declared.findings.Finding.{Finding}
use Rattle.tcap_judge.specs.declared.findings.Finding.TheVariants as findings
use Rattle.tcap_judge.specs.declared.outcome.Outcome.{Outcome}
use Rattle.tcap_judge.specs.declared.outcome.Outcome.TheVariants.{Lawful, LawfulFor, NotShown, Refuted, Undecided, Faulty}
use Rattle.tcap_lines.specs.declared.status.Status.TheVariants as statuses
use Rattle.tcap_judge.specs.Outcome.{outcome_status}
use Rattle.tcap_judge.specs.LawfulOutcome.{AreLawful, AreLawfulUnheard, IsShown, replayed_by}
use Rattle.tcap_judge.specs.CheckOutcome.{JudgesWith, ReadsRecord, ReadsTable}
use Rattle.tcap_judge.specs.LawfulRecord.{SpellsRecord}
use Rattle.tcap_judge.specs.Verdict.{GivesVerdictWith, IsAtFaultBy, certificate_line, refutation_by, proposed_by, record_verdict, verdict}
use Rattle.tcap_judge.specs.BlameOutcome.{AreFound, GivesBlame, GivesBlameWith, IsFound, ends_of, finding, finding_by, is_lawful, items_before, joint_record_verdict, record_ends}
use Rattle.tcap_judge.proofs.BlamedLaws.{are_lawful, without_unheard}
use Rattle.tcap_judge.proofs.LawfulLaws.{IsFoundBy, by_certificate, fine_fault, no_fault, spells_items, table_fault, table_text}
use Rattle.tcap_judge.proofs.VerdictLaws.{NamesRightly, by_refutation, lawful_record, refuted_record}
use Rattle.tcap_c.specs.declared.answer.Answer.{Answer}
use Rattle.tcap_c.specs.InMemory.{AreRight, IsAtFaultIn, IsRight, MayBeSentBy, SaysBlamed, SaysChecked, SaysJudged, blame_answers, finding_answer, in_memory, no_answer, outcome_answer, refutation_answer}

-- The octets read from a reader in memory up to its end are all its octets.
told_all : (octets left returned : List ℕ) → Consumes (Some octets) (Some left) returned → IsAtEnd (Some left) → returned ≡ octets
told_all octets left returned consumes at = sym (consumes ∙ ap (λ (x : List ℕ). returned ++ x) at ∙ append-nil returned)

-- The text is that of the table that was read.
text_is : (text left : List ℕ) (operations : Table) → ReadsTable (in_memory text left) (Ok operations)
    → IsTableOf text (Ok operations)
text_is text left operations reads =
    let (octets, tells, is) = table_text (in_memory text left) operations reads in
    subst (λ (t : List ℕ). IsTableOf t (Ok operations)) (told_all text left octets tells.0 tells.1) is

may_be_sent : (judged : Option Side) (octets text left left_of_text : List ℕ) (operations : Table) (outcome : Outcome)
    → ReadsTable (in_memory text left_of_text) (Ok operations)
    → IsFoundBy judged operations (in_memory octets left) outcome → MayBeSentBy judged octets text
may_be_sent judged octets text left left_of_text operations outcome reads found = record {
  operations = operations;
  items = found.items;
  is_table = text_is text left_of_text operations reads;
  spells = subst (SpellsRecord found.items) (told_all octets left found.octets found.tells.0 found.tells.1) found.spells;
  lawful = without_unheard judged found.items operations found.unheard found.lawful;
}

-- If all octets were read and the entries are lawful, the octets may have been sent.
entries_may_be_sent : (judged : Option Side) (octets text left left_of_text : List ℕ) (operations : Table) (entries : List Entry)
    (end : Unit {0}) → ReadsTable (in_memory text left_of_text) (Ok operations)
    → ReadsRecord (in_memory octets left) entries (Ok end) → AreLawful judged operations entries → MayBeSentBy judged octets text
entries_may_be_sent judged octets text left left_of_text operations entries end reads returned (items, are, sent) =
    let framed = subst (FramedFrom 0 entries returned.returned) returned.is_read.ends returned.is_read.framed in
    record {
      operations = operations;
      items = items;
      is_table = text_is text left_of_text operations reads;
      spells = subst (SpellsRecord items) (told_all octets left returned.returned returned.tells returned.ended)
          (spells_items 0 entries items returned.returned framed are);
      lawful = sent;
    }

is_at_fault : (judged : Option Side) (octets text left left_of_text : List ℕ) (operations : Table) (entries : List Entry)
    (end : Unit {0}) (r : Refutation) (given : Answer) → ReadsTable (in_memory text left_of_text) (Ok operations)
    → ReadsRecord (in_memory octets left) entries (Ok end) → IsAtFaultBy judged operations entries r
    → given.entry ≡ r.entry → given.reason ≡ kind_number r.kind → IsAtFaultIn judged octets text given
is_at_fault judged octets text left left_of_text operations entries end r given reads returned at_fault entry_is kind_is =
    record {
      operations = operations;
      read = entries;
      refutation = r;
      is_table = text_is text left_of_text operations reads;
      is_read = subst (λ (o : List ℕ). IsReadAs entries (Ok end) o) (told_all octets left returned.returned returned.tells returned.ended)
          returned.is_read;
      at_fault = at_fault;
      entry_is = entry_is;
      kind_is = kind_is;
    }

-- ---- judging

judged_lawful : (judged : Option Side) (octets text : List ℕ) (outcome : Outcome)
    → SaysJudged judged octets text outcome → outcome_status outcome ≡ statuses.Fine → MayBeSentBy judged octets text
judged_lawful judged octets text outcome says fine = by says.given.0 says.given.1 says.given.2
  where
    by : (given : Result Table Outcome) → ReadsTable (in_memory text says.left_of_text) given
        → GivesVerdictWith judged given false (in_memory octets says.left) outcome says.after
        → MayBeSentBy judged octets text
    by (Err said) reads gives =
        absurd (fine_fault outcome said gives.0 (table_fault (in_memory text says.left_of_text) said reads) fine)
    by (Ok operations) reads gives =
        let (found, after) = lawful_record judged operations false (in_memory octets says.left) outcome says.after gives fine
        in may_be_sent judged octets text says.left says.left_of_text operations outcome reads found

judged_refuted : (judged : Option Side) → NamesRightly judged → (octets text : List ℕ) (r : Refutation)
    → SaysJudged judged octets text (Refuted r) → IsAtFaultIn judged octets text (refutation_answer 1 r)
judged_refuted judged rightly octets text r says = by says.given.0 says.given.1 says.given.2
  where
    by : (given : Result Table Outcome) → ReadsTable (in_memory text says.left_of_text) given
        → GivesVerdictWith judged given false (in_memory octets says.left) (Refuted r) says.after
        → IsAtFaultIn judged octets text (refutation_answer 1 r)
    by (Err said) reads gives =
        let bad : statuses.Refuted ≡ statuses.Fault =
        no_fault (Refuted r) said statuses.Refuted gives.0 (table_fault (in_memory text says.left_of_text) said reads) refl
        in cc
    by (Ok operations) reads gives =
        let (named, none) = refuted_record judged operations false (in_memory octets says.left) r says.after gives in
        is_at_fault judged octets text says.left says.left_of_text operations named.entries named.end r
        (refutation_answer 1 r) reads named.reads (rightly operations named.entries r named.named) refl refl

-- If the outcome is right, so is the answer.
right_of : (judged : Option Side) (octets text : List ℕ) (outcome : Outcome)
    → (outcome_status outcome ≡ statuses.Fine → MayBeSentBy judged octets text)
    → ((r : Refutation) → outcome ≡ Refuted r → IsAtFaultIn judged octets text (refutation_answer 1 r))
    → IsRight judged octets text (outcome_answer outcome)
right_of judged octets text (Lawful count) lawful refuted =
    record { lawful = λ is. lawful refl; refuted = λ is. cc; blamed = λ is. cc }
right_of judged octets text (LawfulFor count unheard) lawful refuted =
    record { lawful = λ is. lawful refl; refuted = λ is. cc; blamed = λ is. cc }
right_of judged octets text (Refuted r) lawful refuted =
    record { lawful = λ is. cc; refuted = λ is. refuted r refl; blamed = λ is. cc }
right_of judged octets text (Undecided fault) lawful refuted =
    record { lawful = λ is. cc; refuted = λ is. cc; blamed = λ is. cc }
right_of judged octets text (NotShown fault) lawful refuted =
    record { lawful = λ is. cc; refuted = λ is. cc; blamed = λ is. cc }
right_of judged octets text (Faulty number place) lawful refuted =
    record { lawful = λ is. cc; refuted = λ is. cc; blamed = λ is. cc }

pub judged_right : (judged : Option Side) → NamesRightly judged → (octets text : List ℕ) (outcome : Outcome)
    → SaysJudged judged octets text outcome → IsRight judged octets text (outcome_answer outcome)
judged_right judged rightly octets text outcome says =
    right_of judged octets text outcome (judged_lawful judged octets text outcome says)
    (λ r is. judged_refuted judged rightly octets text r (subst (SaysJudged judged octets text) is says))

-- ---- checking

checked_lawful : (judged : Option Side) (octets text certificate : List ℕ) (outcome : Outcome)
    → SaysChecked judged octets text certificate outcome → outcome_status outcome ≡ statuses.Fine
    → MayBeSentBy judged octets text
checked_lawful judged octets text certificate outcome says fine = by says.given.0 says.given.1 says.given.2
  where
    by : (given : Result Table Outcome) → ReadsTable (in_memory text says.left_of_text) given
        → JudgesWith judged given (in_memory certificate says.left_of_certificate) (in_memory octets says.left) outcome
        → MayBeSentBy judged octets text
    by (Err said) reads judges =
        absurd (fine_fault outcome said judges.0 (table_fault (in_memory text says.left_of_text) said reads) fine)
    by (Ok operations) reads judges =
        may_be_sent judged octets text says.left says.left_of_text operations outcome reads
        (by_certificate judged operations judges.0 (in_memory certificate says.left_of_certificate)
        (in_memory octets says.left) outcome judges.1 judges.2 fine)

verdict_fine : (outcome : Outcome) → (outcome_answer outcome).verdict ≡ 0 → outcome_status outcome ≡ statuses.Fine
verdict_fine (Lawful count) is = refl
verdict_fine (LawfulFor count unheard) is = refl
verdict_fine (Refuted r) is = cc
verdict_fine (Undecided fault) is = cc
verdict_fine (NotShown fault) is = cc
verdict_fine (Faulty number place) is = cc

pub checked_right : (judged : Option Side) (octets text certificate : List ℕ) (outcome : Outcome)
    → SaysChecked judged octets text certificate outcome → (outcome_answer outcome).verdict ≡ 0
    → MayBeSentBy judged octets text
checked_right judged octets text certificate outcome says is =
    checked_lawful judged octets text certificate outcome says (verdict_fine outcome is)

-- ---- blaming

-- The answer on the record is right: it is that of the verdict, or LAWFUL because each end is lawful on its own.
told_right : NamesRightly None → (octets text left left_of_text : List ℕ) (operations : Table) (entries : List Entry)
    (end : Result (Unit {0}) FeedFault) (outcome : Outcome) → ReadsTable (in_memory text left_of_text) (Ok operations)
    → ReadsRecord (in_memory octets left) entries end → outcome ≡ joint_record_verdict None operations entries end
    → IsShown None operations entries outcome → IsRight None octets text (outcome_answer outcome)
told_right rightly octets text left left_of_text operations entries end outcome reads read says shown = by end read says
  where
    judged : (end : Result (Unit {0}) FeedFault) → ReadsRecord (in_memory octets left) entries end
        → outcome ≡ record_verdict None operations entries end → IsRight None octets text (outcome_answer outcome)
    judged end read is = judged_right None rightly octets text outcome (record {
      left = left;
      left_of_text = left_of_text;
      after = certificate_line None false entries outcome;
      given = (
        Ok operations,
        reads,
        inr (record { entries = entries; end = end; reads = read; says = is; after_is = refl; shown = shown }),
      );
    })

    joint : (end : Unit {0}) → ReadsRecord (in_memory octets left) entries (Ok end) → (both : Bool)
        → outcome ≡ cond both (Lawful (length entries)) (verdict operations entries)
        → IsRight None octets text (outcome_answer outcome)
    joint end read true is =
        right_of None octets text outcome
        (λ fine. entries_may_be_sent None octets text left left_of_text operations entries end reads read
        (subst (IsShown None operations entries) is shown))
        (λ r refuted. let bad : Refuted r ≡ Lawful (length entries) = sym refuted ∙ is in cc)
    joint end read false is = judged (Ok end) read is

    by : (end : Result (Unit {0}) FeedFault) → ReadsRecord (in_memory octets left) entries end
        → outcome ≡ joint_record_verdict None operations entries end → IsRight None octets text (outcome_answer outcome)
    by (Err fault) read is = judged (Err fault) read is
    by (Ok end) read is =
        joint end read
        (is_lawful (finding operations entries sides.A) && is_lawful (finding operations entries sides.B)) is

both_right : NamesRightly None → (octets text : List ℕ) (outcome : Outcome) (ends : Option Ends)
    → SaysBlamed octets text outcome ends → IsRight None octets text (outcome_answer outcome)
both_right rightly octets text outcome ends says = by says.given.0 says.given.1 says.given.2
  where
    by : (given : Result Table Outcome) → ReadsTable (in_memory text says.left_of_text) given
        → GivesBlameWith given (in_memory octets says.left) outcome ends → IsRight None octets text (outcome_answer outcome)
    by (Err said) reads (is, none, untouched) = judged_right None rightly octets text outcome (record {
      left = says.left;
      left_of_text = says.left_of_text;
      after = [];
      given = (Err said, reads, (is, refl, untouched));
    })
    by (Ok operations) reads (inl (is, none)) = judged_right None rightly octets text outcome (record {
      left = says.left;
      left_of_text = says.left_of_text;
      after = [];
      given = (Ok operations, reads, inl (is, refl));
    })
    by (Ok operations) reads (inr returned) =
        told_right rightly octets text says.left says.left_of_text operations returned.entries returned.end outcome reads returned.reads
        returned.says returned.shown

-- If the finding is right, so is the answer on the end.
end_right_of : (side : Side) (octets text : List ℕ) (said : Finding)
    → ((count unheard : ℕ) → said ≡ findings.Lawful count unheard → MayBeSentBy (Some side) octets text)
    → ((r : Refutation) → said ≡ findings.Blamed r → IsAtFaultIn (Some side) octets text (refutation_answer 5 r))
    → IsRight (Some side) octets text (finding_answer said)
end_right_of side octets text (findings.Lawful count unheard) lawful blamed =
    record { lawful = λ is. lawful count unheard refl; refuted = λ is. cc; blamed = λ is. cc }
end_right_of side octets text (findings.Blamed r) lawful blamed =
    record { lawful = λ is. cc; refuted = λ is. cc; blamed = λ is. blamed r refl }
end_right_of side octets text (findings.NotBlamed count) lawful blamed =
    record { lawful = λ is. cc; refuted = λ is. cc; blamed = λ is. cc }

nothing_right : (judged : Option Side) (octets text : List ℕ) → IsRight judged octets text no_answer
nothing_right judged octets text = record { lawful = λ is. cc; refuted = λ is. cc; blamed = λ is. cc }

-- The verdict on an end refutes the entry that a finding blames.
named_by_finding : (count : ℕ) (outcome : Outcome) (r : Refutation) → finding_by count outcome ≡ findings.Blamed r
    → outcome ≡ Refuted r
named_by_finding count (Refuted other) r is = let same : other ≡ r = cc in ap Refuted same
named_by_finding count (LawfulFor all unheard) r is = cc
named_by_finding count (Lawful all) r is = cc
named_by_finding count (NotShown fault) r is = cc
named_by_finding count (Undecided fault) r is = cc
named_by_finding count (Faulty number place) r is = cc

-- The answer on one end is right, if all octets were read.
end_right : (side : Side) (octets text left left_of_text : List ℕ) (operations : Table) (entries : List Entry)
    (end : Unit {0}) (said : Finding) → ReadsTable (in_memory text left_of_text) (Ok operations)
    → ReadsRecord (in_memory octets left) entries (Ok end) → said ≡ finding operations entries side
    → IsFound side operations entries said
    → ((r : Refutation) → refutation_by (Some side) operations entries ≡ Some r → IsAtFaultBy (Some side) operations entries r)
    → IsRight (Some side) octets text (finding_answer said)
end_right side octets text left left_of_text operations entries end said reads returned is found rightly =
    end_right_of side octets text said
    (λ count unheard lawful.
    let are : AreLawfulUnheard (Some side) operations entries unheard = subst (IsFound side operations entries) lawful found in
    entries_may_be_sent (Some side) octets text left left_of_text operations entries end reads returned
    (are_lawful (Some side) operations entries unheard are))
    (λ r blamed.
    let refuted = named_by_finding (items_before (map item_of entries)) _ r (sym is ∙ blamed) in
    is_at_fault (Some side) octets text left left_of_text operations entries end r (refutation_answer 5 r) reads returned
    (rightly r (by_refutation (Some side) (length entries) (refutation_by (Some side) operations entries)
    (replayed_by (Some side) operations (proposed_by (Some side) entries) entries) r (sym refuted))) refl refl)

-- The answers on both ends are right, if there are findings.
ends_right : (octets text left left_of_text : List ℕ) (operations : Table) (outcome : Outcome) (ends : Ends)
    → ReadsTable (in_memory text left_of_text) (Ok operations)
    → GivesBlame operations (in_memory octets left) outcome (Some ends)
    → IsRight (Some sides.A) octets text (finding_answer ends.a) × IsRight (Some sides.B) octets text (finding_answer ends.b)
ends_right octets text left left_of_text operations outcome ends reads (inl (is, none)) = cc
ends_right octets text left left_of_text operations outcome ends reads (inr returned) =
    by returned.end returned.reads returned.ends_are
  where
    by : (end : Result (Unit {0}) FeedFault) → ReadsRecord (in_memory octets left) returned.entries end
        → Some ends ≡ record_ends operations returned.entries end
        → IsRight (Some sides.A) octets text (finding_answer ends.a)
        × IsRight (Some sides.B) octets text (finding_answer ends.b)
    by (Err fault) read are = cc
    by (Ok end) read are =
        let same : ends ≡ ends_of operations returned.entries = cc in
        let found : AreFound operations returned.entries ends = returned.found ends refl in (
          end_right sides.A octets text left left_of_text operations returned.entries end ends.a reads read
              (ap (λ (x : Ends). x.a) same) found.a (returned.at_fault sides.A),
          end_right sides.B octets text left left_of_text operations returned.entries end ends.b reads read
              (ap (λ (x : Ends). x.b) same) found.b (returned.at_fault sides.B),
        )

pub blamed_right : NamesRightly None → (octets text : List ℕ) (outcome : Outcome) (ends : Option Ends)
    → SaysBlamed octets text outcome ends → AreRight octets text (blame_answers outcome ends)
blamed_right rightly octets text outcome None says = record {
  both = both_right rightly octets text outcome None says;
  a = nothing_right (Some sides.A) octets text;
  b = nothing_right (Some sides.B) octets text;
}
blamed_right rightly octets text outcome (Some ends) says =
    let (a, b) = by says.given.0 says.given.1 says.given.2 in
    record {
      both = both_right rightly octets text outcome (Some ends) says;
      a = a;
      b = b;
    }
  where
    by : (given : Result Table Outcome) → ReadsTable (in_memory text says.left_of_text) given
        → GivesBlameWith given (in_memory octets says.left) outcome (Some ends)
        → IsRight (Some sides.A) octets text (finding_answer ends.a)
        × IsRight (Some sides.B) octets text (finding_answer ends.b)
    by (Err said) reads (is, none, untouched) = cc
    by (Ok operations) reads gives =
        ends_right octets text says.left says.left_of_text operations outcome ends reads gives
