-- The result for an end holds, by its definition alone.
use Rattle.std.proofs.Common.{◌≡◌, ℕ, Bool, true, false, cond, ◌==◌, List, length, map, take, Option, Some, None, Result, Ok, Err, refl, sym, subst}
use Rattle.std.specs.Prelude.{◌&&◌, drop, nat_lt}
use Rattle.std.specs.List.{list_any}
use Rattle.tcap_record.specs.declared.entry.End.{End as Side}
use Rattle.tcap_record.specs.declared.entry.Entry.{Entry}
use Rattle.tcap_end.specs.Table.{Table}
use Rattle.tcap_certificate.specs.declared.fault.CheckFault.{CheckFault}
use Rattle.tcap_model.specs.Run.{Event}
use Rattle.tcap_model.specs.Entries.{item_of}
use Rattle.tcap_check.proofs.one_end_lemmas.AloneRuns.{gives_for}
use Rattle.tcap_refute.specs.declared.kind.Refutation.{Refutation}
use Rattle.tcap_faults.specs.BlameMeaning.{IsAtFaultOf}
use Rattle.tcap_faults.specs.Fault.{blamed}
use Rattle.tcap_faults.proofs.kind_laws.BlamedLaws.{blamed_at_fault}
use Rattle.tcap_judge.specs.declared.findings.Finding.{Finding}
use Rattle.tcap_judge.specs.declared.findings.Finding.TheVariants.{Blamed, Lawful, NotBlamed}
use Rattle.tcap_judge.specs.BlameOutcome.{IsFound, finding, finding_by, items_before}
use Rattle.tcap_judge.specs.LawfulOutcome.{replayed_by}
use Rattle.tcap_judge.specs.Verdict.{proposed_by, verdict_by}
use Rattle.tcap_traces.specs.declared.end_result.Circumstances.{Circumstances}
use Rattle.tcap_traces.specs.declared.end_result.Doubt.{Doubt}
use Rattle.tcap_traces.specs.declared.end_result.EndResult.{EndResult}
use Rattle.tcap_traces.specs.declared.end_result.EndResult.TheVariants as end_results
use Rattle.tcap_traces.specs.ResultMeaning.{IsTrueResult}
use Rattle.tcap_traces.specs.Verdict.{doubt_of, fails, found_before, is_of, no_message_at, passes, result_before, result_by, result_of}
use Rattle.tcap_traces.proofs.ShownLaws.{IsEarlier, said_so}

-- ---- findings

module _ (side : Side) (table : Table) where
  found_by : (entries : List Entry) (count : ℕ) (named : Option Refutation) (replay : Result (List Event) CheckFault)
      → replayed_by (Some side) table (proposed_by (Some side) entries) entries ≡ replay
      → IsFound side table entries (finding_by count (verdict_by (Some side) (length entries) named replay))
  found_by entries count (Some r) replay is = tt
  found_by entries count None (Ok events) is =
      let given = gives_for side table (proposed_by (Some side) entries) entries events is in
      (given.items, given.are, (events, given.run.0, given.run.1, given.run.2, given.keeps, given.left, refl))
  found_by entries count None (Err fault) is = tt

  -- The finding on an end holds.
  pub found_holds : (entries : List Entry) → IsFound side table entries (finding table entries side)
  found_holds entries = found_by entries (items_before (map item_of entries)) (blamed table side entries) _ refl

  before_holds : (entries : List Entry) (n : ℕ) (is_all : Bool) → (n == length entries) ≡ is_all
      → IsEarlier side table entries (length entries) (found_before table entries side (cond is_all None (Some n))) n
  before_holds entries n true is = (tt, λ some. cc)
  before_holds entries n false is = (found_holds (take n entries), λ some. is)

  -- The result for an end holds.
  pub result_holds : (c : Circumstances) (entries : List Entry) → IsTrueResult side table entries (result_of table c entries side)
  result_holds c entries =
      said_so table c entries side (blamed_at_fault table side entries) (finding table entries side) refl (found_holds entries) _
      (λ n is.
      subst (λ f. IsEarlier side table entries (length entries) (found_before table entries side (no_message_at f (length entries))) n) (sym is)
      (before_holds entries n (n == length entries) refl))

-- No circumstance keeps an end that passes from it.
pub record IsSure (c : Circumstances) (unheard : ℕ) : Type 0 where
  pub not_cut : c.cut ≡ false
  pub sure : c.unsure ≡ false
  pub over : c.open ≡ false
  pub heard : (c.heard && nat_lt 0 unheard) ≡ false

module _ (c : Circumstances) (u : ℕ) where
  sure_by : (under_way early_mark cut unsure over missed : Bool) (unheard : ℕ)
      → cond under_way end_results.UnderWay
      (cond early_mark end_results.EarlyMark
      (cond cut end_results.TooLong
      (cond unsure end_results.UnsureTable
      (cond over end_results.Open (cond missed (end_results.Unheard unheard) (end_results.Pass unheard))))))
      ≡ end_results.Pass u
      → (cut ≡ false) × (unsure ≡ false) × (over ≡ false) × (missed ≡ false) × (unheard ≡ u)
  sure_by true early_mark cut unsure over missed unheard is = cc
  sure_by false true cut unsure over missed unheard is = cc
  sure_by false false true unsure over missed unheard is = cc
  sure_by false false false true over missed unheard is = cc
  sure_by false false false false true missed unheard is = cc
  sure_by false false false false false true unheard is = cc
  sure_by false false false false false false unheard is = let same : unheard ≡ u = cc in (refl, refl, refl, refl, same)

  pub passes_sure : (unheard : ℕ) → passes c unheard ≡ end_results.Pass u → IsSure c u
  passes_sure unheard is =
      let (not_cut, sure, over, heard, same) =
      sure_by c.under_way c.early_mark c.cut c.unsure c.open (c.heard && nat_lt 0 unheard) unheard is in
      record { not_cut = not_cut; sure = sure; over = over; heard = subst (λ n. (c.heard && nat_lt 0 n) ≡ false) same heard }

  fails_not : (r : Refutation) (doubt : Option Doubt) → fails r doubt ≡ end_results.Pass u → IsSure c u
  fails_not r None is = cc
  fails_not r (Some doubt) is = cc

  before_sure : (side : Side) (entries : List Entry) (number : ℕ) (earlier : Option Finding)
      → result_before c side entries number earlier ≡ end_results.Pass u → IsSure c u
  before_sure side entries number None is = cc
  before_sure side entries number (Some (Blamed r)) is = cc
  before_sure side entries number (Some (NotBlamed n)) is = cc
  before_sure side entries number (Some (Lawful n unheard)) is = by (list_any (is_of side) (drop number entries)) is
    where
      by : (own : Bool) → cond own (end_results.AfterBadEntry number) (passes c unheard) ≡ end_results.Pass u → IsSure c u
      by true is = cc
      by false is = passes_sure unheard is

  result_sure : (table : Table) (side : Side) (entries : List Entry) (found : Finding) (earlier : Option Finding)
      → result_by table c side entries found earlier ≡ end_results.Pass u → IsSure c u
  result_sure table side entries (Blamed r) earlier is = fails_not r (doubt_of table c side entries r) is
  result_sure table side entries (Lawful n unheard) earlier is = passes_sure unheard is
  result_sure table side entries (NotBlamed n) earlier is = before_sure side entries n earlier is

  pub of_sure : (table : Table) (entries : List Entry) (side : Side) → result_of table c entries side ≡ end_results.Pass u → IsSure c u
  of_sure table entries side is = result_sure table side entries (finding table entries side) _ is
