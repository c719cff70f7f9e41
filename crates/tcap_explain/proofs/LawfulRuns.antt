-- Entries that have a run are lawful.
use Rattle.std.proofs.Common.{◌≡◌, ℕ, Bool, true, false, cond, List, ◌++◌, length, map, refl, sym, ap, ap₂, subst, ◌∙◌, inl, inr}
use Rattle.std.specs.Prelude.{◌&&◌, IfOk, Option, Some, None, Result, Ok, Err}
use Rattle.tcap_record.specs.declared.entry.End.{End as Side}
use Rattle.tcap_record.specs.declared.entry.End.TheVariants as sides
use Rattle.tcap_record.specs.declared.entry.Entry.{Entry}
use Rattle.tcap_end.specs.Table.{Table}
use Rattle.tcap_model.specs.Entries.{item_of}
use Rattle.tcap_certificate.specs.declared.fault.CheckFault.{CheckFault}
use Rattle.tcap_check.specs.declared.step.Step.{Step}
use Rattle.tcap_certificate.specs.Certificate.{Certificate}
use Rattle.tcap_check.specs.OneEndRun.{IsGivenTo}
use Rattle.tcap_check.specs.CheckerMeaning.{map_ok}
use Rattle.tcap_certificate.specs.Replay.{discards_by, replayed_by}
use Rattle.tcap_check.specs.RunSoFar.{IsAnswered, answered}
use Rattle.tcap_check.specs.ReportedSteps.{discards_of, events_of}
use Rattle.tcap_judge.specs.declared.outcome.Outcome.{Outcome}
use Rattle.tcap_judge.specs.LawfulOutcome.{IsShown, lawful_by}
use Rattle.tcap_judge.specs.declared.outcome.Outcome.TheVariants.{Lawful, Refuted}
use Rattle.tcap_judge.specs.declared.findings.Ends.{Ends}
use Rattle.tcap_judge.specs.declared.findings.Finding.{Finding}
use Rattle.tcap_judge.specs.CheckOutcome.{replay_outcome}
use Rattle.tcap_judge.specs.BlameOutcome.{AreFound, ends_of, finding, finding_by, finding_line, is_lawful, items_before, joint_verdict}
use Rattle.tcap_judge.specs.Verdict.{refutation_by, proposed_by, verdict_by, verdict_of}
use Rattle.tcap_judge.proofs.JointLaws.{refuted_joint}
use Rattle.tcap_model.specs.Run.{Event}
use Rattle.tcap_refute.specs.declared.kind.Refutation.{Refutation}
use Rattle.tcap_explain.specs.RefutedLines.{ends_judged, refuted_lines}
use Rattle.tcap_explain.specs.StepLines.{run_lines}
use Rattle.tcap_explain.specs.VerdictLines.{AreLinesOf, AreLinesOfBoth, IsExplanation}

of_run : (judged : Option Side) (table : Table) (c : Certificate) (entries : List Entry) (answer : Result (List Step) CheckFault)
    → IfOk answer (λ steps. IsGivenTo judged table c entries (events_of steps))
    → IfOk answer (λ steps. IsShown judged table entries (lawful_by judged (length entries) (events_of steps)))
of_run None table c entries (Ok steps) given =
    (given.items, given.are, (length (events_of steps), (events_of steps, given.run, given.keeps, refl)))
of_run (Some side) table c entries (Ok steps) given =
    (given.items, given.are, (events_of steps, given.run.0, given.run.1, given.run.2, given.keeps, given.left, refl))
of_run judged table c entries (Err fault) given = tt

-- The answer on a certificate, unless memory ran out.
module _ {A F : Type 0} (answer : A → Result (List Step) CheckFault) (judged : Option Side) (table : Table) (c : Certificate)
    (entries : List Entry) where
  abbrev AnswersSo : Result A F → Type 0
  AnswersSo result = IfOk result (λ x. IsAnswered judged table c entries (answer x))

  pub of_runs : (result : Result A F) → AnswersSo result
      → IfOk result (λ x. IfOk (answer x) (λ steps. IsShown judged table entries (lawful_by judged (length entries) (events_of steps))))
  of_runs (Ok x) so = of_run judged table c entries (answer x) so.given
  of_runs (Err fault) so = tt

  pub events_in : (result : Result A F) → AnswersSo result → IfOk result (λ x. map_ok events_of (answer x) ≡ replayed_by judged table c entries)
  events_in (Ok x) so = so.exact
  events_in (Err fault) so = tt

  pub discards_in : (result : Result A F) → AnswersSo result
      → IfOk result (λ x. map_ok discards_of (answer x) ≡ discards_by judged table c (map item_of entries))
  discards_in (Ok x) so = so.discards
  discards_in (Err fault) so = tt

-- ---- the joint verdict on both ends

-- The joint verdict is lawful if the verdict is.
joint_lawful : (judged : Option Side) (table : Table) (entries : List Entry) (events : List Event)
    → verdict_of judged table entries ≡ lawful_by judged (length entries) events
    → joint_verdict judged table entries ≡ lawful_by judged (length entries) events
joint_lawful (Some side) table entries events is = is
joint_lawful None table entries events is = by (is_lawful (finding table entries sides.A) && is_lawful (finding table entries sides.B))
  where
    by : (both : Bool) → cond both (Lawful (length entries)) (verdict_of None table entries) ≡ Lawful (length entries)
    by true = refl
    by false = is

-- The joint verdict is refuted if an entry is refuted.
pub joint_named : (judged : Option Side) (table : Table) (entries : List Entry) (r : Refutation)
    → refutation_by judged table entries ≡ Some r → joint_verdict judged table entries ≡ Refuted r
joint_named (Some side) table entries r is =
    ap (λ (n : Option Refutation). verdict_by (Some side) (length entries) n
    (replayed_by (Some side) table (proposed_by (Some side) entries) entries)) is
joint_named None table entries r is = refuted_joint table entries r is

why_of : (judged : Option Side) (table : Table) (c : Certificate) (entries : List Entry) (steps : List Step) (after : List ℕ)
    → after ≡ run_lines judged steps → replayed_by judged table c entries ≡ Ok (events_of steps)
    → discards_by judged table c (map item_of entries) ≡ Ok (discards_of steps)
    → IsExplanation judged table c entries (lawful_by judged (length entries) (events_of steps)) after
why_of None table c entries steps after lines run discards = inl (steps, run, discards, lines)
why_of (Some side) table c entries steps after lines run discards = (steps, run, discards, lines)

-- The verdict and the reasons, if no entry is at fault and the proposed certificate gives a run.
pub proposed_says : {A F : Type 0} (outcome : A → Outcome) (after : A → List ℕ) (judged : Option Side) (table : Table) (c : Certificate)
    (entries : List Entry) (refused : Option CheckFault) (steps : List Step) (result : Result A F) → c ≡ proposed_by judged entries
    → refutation_by judged table entries ≡ None → refused ≡ None → map_ok events_of (answered refused steps) ≡ replayed_by judged table c entries
    → IfOk (answered refused steps) (λ ss. IsShown judged table entries (lawful_by judged (length entries) (events_of ss)))
    → map_ok discards_of (answered refused steps) ≡ discards_by judged table c (map item_of entries)
    → IfOk result (λ x. outcome x ≡ lawful_by judged (length entries) (events_of steps))
    → IfOk result (λ x. after x ≡ run_lines judged steps)
    → IfOk result (λ x. (outcome x ≡ joint_verdict judged table entries) × IsShown judged table entries (outcome x)
    × IsExplanation judged table (proposed_by judged entries) entries (outcome x) (after x))
proposed_says outcome after judged table c entries refused steps (Err f) is named none exact shown discards says lines = tt
proposed_says outcome after judged table c entries (Some fault) steps (Ok x) is named none exact shown discards says lines = cc
proposed_says outcome after judged table c entries None steps (Ok x) is named none exact shown discards says lines =
    let run : replayed_by judged table (proposed_by judged entries) entries ≡ Ok (events_of steps) =
    ap (λ (d : Certificate). replayed_by judged table d entries) (sym is) ∙ sym exact in (
      says ∙ sym (joint_lawful judged table entries (events_of steps) (ap₂ (verdict_by judged (length entries)) named run)),
      subst (IsShown judged table entries) (sym says) shown,
      subst (λ (o : Outcome). IsExplanation judged table (proposed_by judged entries) entries o (after x)) (sym says)
          (subst (λ (d : Certificate). IsExplanation judged table d entries (lawful_by judged (length entries) (events_of steps)) (after x)) is
          (why_of judged table c entries steps (after x) lines (sym exact) (sym discards))),
    )

-- ---- each end

-- If an end is lawful, the certificate proposed for it gives a run.
lawful_given : (side : Side) (table : Table) (entries : List Entry) → is_lawful (finding table entries side) ≡ true
    → (events : List Event) × (replayed_by (Some side) table (proposed_by (Some side) entries) entries ≡ Ok events)
lawful_given side table entries =
    by (refutation_by (Some side) table entries) (replayed_by (Some side) table (proposed_by (Some side) entries) entries)
  where
    by : (named : Option Refutation) (replay : Result (List Event) CheckFault)
        → is_lawful (finding_by (items_before (map item_of entries)) (verdict_by (Some side) (length entries) named replay)) ≡ true
        → (events : List Event) × (replay ≡ Ok events)
    by (Some r) replay is = let bad : false ≡ true = is in cc
    by None (Ok events) is = (events, refl)
    by None (Err fault) is = let bad : false ≡ true = is in cc

pub lines_of_end : (side : Side) (table : Table) (c : Certificate) (entries : List Entry) (said : Finding) (refused : Option CheckFault)
    (steps : List Step) → c ≡ proposed_by (Some side) entries → said ≡ finding table entries side → is_lawful said ≡ true
    → map_ok events_of (answered refused steps) ≡ replayed_by (Some side) table c entries
    → map_ok discards_of (answered refused steps) ≡ discards_by (Some side) table c (map item_of entries)
    → AreLinesOf table entries side (finding_line side said ++ run_lines (Some side) steps)
lines_of_end side table c entries said (Some fault) steps is said_is lawful exact discards =
    let (events, given) = lawful_given side table entries (ap is_lawful (sym said_is) ∙ lawful) in
    let bad : Err fault ≡ Ok events = exact ∙ ap (λ (d : Certificate). replayed_by (Some side) table d entries) is ∙ given in cc
lines_of_end side table c entries said None steps is said_is lawful exact discards = (
  run_lines (Some side) steps,
  ap (λ (f : Finding). finding_line side f ++ run_lines (Some side) steps) said_is,
  (
    steps,
    ap (λ (d : Certificate). replayed_by (Some side) table d entries) (sym is) ∙ sym exact,
    ap (λ (d : Certificate). discards_by (Some side) table d (map item_of entries)) (sym is) ∙ sym discards,
    refl,
  ),
)

-- ---- an entry is at fault, or each end is lawful on its own

pub named_says : {A F : Type 0} (outcome : A → Outcome) (after : A → List ℕ) (judged : Option Side) (table : Table) (c : Certificate)
    (entries : List Entry) (r : Refutation) (result : Result A F) → refutation_by judged table entries ≡ Some r
    → IfOk result (λ x. (outcome x ≡ Refuted r) × (after x ≡ refuted_lines judged table entries r))
    → IfOk result (λ x. (outcome x ≡ joint_verdict judged table entries) × IsShown judged table entries (outcome x)
    × IsExplanation judged table c entries (outcome x) (after x))
named_says outcome after judged table c entries r (Err f) named said = tt
named_says outcome after judged table c entries r (Ok x) named said = (
  said.0 ∙ sym (joint_named judged table entries r named),
  subst (IsShown judged table entries) (sym said.0) tt,
  subst (λ (o : Outcome). IsExplanation judged table c entries o (after x)) (sym said.0) said.1,
)

module _ {A F : Type 0} (outcome : A → Outcome) (after : A → List ℕ) (table : Table) (c : Certificate) (entries : List Entry)
    (fault : CheckFault) (ends : Ends) where
  pub ends_say : (judged : Option Side) (result : Result A F) → Some ends ≡ ends_judged judged table entries
      → AreFound table entries ends → (is_lawful ends.a && is_lawful ends.b) ≡ true
      → replayed_by judged table c entries ≡ Err fault → IfOk result (λ x. outcome x ≡ Lawful (length entries))
      → IfOk result (λ x. AreLinesOfBoth table entries (after x))
      → IfOk result (λ x. (outcome x ≡ joint_verdict judged table entries) × IsShown judged table entries (outcome x)
      × IsExplanation judged table c entries (outcome x) (after x))
  ends_say judged (Err f) is found lawful refused says lines = tt
  ends_say (Some side) (Ok x) is found lawful refused says lines = cc
  ends_say None (Ok x) is found lawful refused says lines =
      let same : ends ≡ ends_of table entries = cc in (
        says ∙ sym (ap (λ (b : Bool). cond b (Lawful (length entries)) (verdict_of None table entries))
            (ap (λ (e : Ends). is_lawful e.a && is_lawful e.b) (sym same) ∙ lawful)),
        subst (IsShown None table entries) (sym says) (found.both lawful),
        subst (λ (o : Outcome). IsExplanation None table c entries o (after x)) (sym says) (inr ((fault, refused), lines)),
      )

-- ---- a certificate gives no run

pub refused_by : (judged : Option Side) (table : Table) (c : Certificate) (entries : List Entry) (refused : Option CheckFault)
    (steps : List Step) (fault : CheckFault) → refused ≡ Some fault
    → map_ok events_of (answered refused steps) ≡ replayed_by judged table c entries → replayed_by judged table c entries ≡ Err fault
refused_by judged table c entries None steps fault is exact = cc
refused_by judged table c entries (Some f) steps fault is exact =
    let same : f ≡ fault = cc in sym exact ∙ ap (λ (x : CheckFault). Err x) same

-- The verdict and the reasons for a certificate that gives a run.
pub replay_run_says : {A F : Type 0} (outcome : A → Outcome) (after : A → List ℕ) (judged : Option Side) (table : Table) (c : Certificate)
    (entries : List Entry) (refused : Option CheckFault) (steps : List Step) (result : Result A F) → refused ≡ None
    → map_ok events_of (answered refused steps) ≡ replayed_by judged table c entries
    → IfOk (answered refused steps) (λ ss. IsShown judged table entries (lawful_by judged (length entries) (events_of ss)))
    → map_ok discards_of (answered refused steps) ≡ discards_by judged table c (map item_of entries)
    → IfOk result (λ x. outcome x ≡ lawful_by judged (length entries) (events_of steps))
    → IfOk result (λ x. after x ≡ run_lines judged steps)
    → IfOk result (λ x. (outcome x ≡ replay_outcome judged (length entries) (replayed_by judged table c entries))
    × IsShown judged table entries (outcome x) × IsExplanation judged table c entries (outcome x) (after x))
replay_run_says outcome after judged table c entries refused steps (Err f) none exact shown discards says lines = tt
replay_run_says outcome after judged table c entries (Some fault) steps (Ok x) none exact shown discards says lines = cc
replay_run_says outcome after judged table c entries None steps (Ok x) none exact shown discards says lines = (
  says ∙ ap (replay_outcome judged (length entries)) exact,
  subst (IsShown judged table entries) (sym says) shown,
  subst (λ (o : Outcome). IsExplanation judged table c entries o (after x)) (sym says)
      (why_of judged table c entries steps (after x) lines (sym exact) (sym discards)),
)
