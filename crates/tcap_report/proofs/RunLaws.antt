-- A run of one more trace, and the verdict on each trace of a run that passes.
use Rattle.std.proofs.Common.{◌≡◌, ◌⊎◌, inl, inr, ℕ, suc, ◌+◌, ◌<◌, ◌≤◌, Bool, true, false, Option, Some, List, [], ◌∷◌, ◌++◌, length, refl, sym, ap, ◌∙◌, arith}
use Rattle.std.specs.Prelude.{nat_eq}
use Rattle.std.proofs.lemmas.Bool.{eqb-true, eqb-false}
use Rattle.std.proofs.lemmas.List.{length_push}
use Rattle.tcap_traces.specs.declared.verdict.Verdict.{Verdict}
use Rattle.tcap_traces.specs.declared.verdict.Verdict.TheVariants as verdicts
use Rattle.tcap_traces.specs.JudgedTrace.{judged_trace}
use Rattle.tcap_traces.specs.Verdict.{worse}
use Rattle.tcap_report.specs.declared.sum.Counts.{Counts}
use Rattle.tcap_report.specs.declared.sum.Sum.{Sum}
use Rattle.tcap_report.specs.declared.trace.TraceOptions.{TraceOptions}
use Rattle.tcap_report.specs.Counts.{HasJudged, with_each, with_one, worst_of}
use Rattle.tcap_report.specs.KeptState.{asked_of}
use Rattle.tcap_report.specs.RunAnswer.{AnswersEach, AreAnswered, IsAnswered}
use Rattle.tcap_report.proofs.CountsLaws.{judged_more}
use Rattle.tcap_report.proofs.ReadLaws.{verdict_defined}

module _ (options : TraceOptions) (octets : ℕ → Option (List ℕ)) where
  -- A trace gets its verdict after these.
  answered_more : (number : ℕ) (verdicts : List Verdict) (verdict : Verdict) (a b c : Sum) (f g h : ℕ)
      → AreAnswered options octets number verdicts a b f g → IsAnswered options (octets (number + length verdicts)) verdict b c g h
      → AreAnswered options octets number (verdicts ++ verdict ∷ []) a c f h
  answered_more number [] verdict a b c f g h (b_is, g_is) one =
      let same : number + 0 ≡ number = omega arith in
      (c, h, rw (sym same, sym b_is, sym g_is) one, (refl, refl))
  answered_more number (first ∷ verdicts) verdict a b c f g h (between, so_far, is, more) one =
      let same : suc number + length verdicts ≡ number + length (first ∷ verdicts) = omega arith in
      (between, so_far, is, answered_more (suc number) verdicts verdict between b c so_far g h more (rw same one))

  -- The next trace gets its verdict.
  pub answers_more : (first count : ℕ) (verdict : Verdict) (a b c : Sum) (f g h : ℕ) → AnswersEach options octets first count a b f g
      → IsAnswered options (octets (first + count)) verdict b c g h → HasJudged (verdict ∷ []) b c
      → AnswersEach options octets first (count + 1) a c f h
  answers_more first count verdict a b c f g h so_far one counted =
      let same : first + length so_far.verdicts ≡ first + count = ap (λ n. first + n) so_far.count_is in
      record {
        verdicts = so_far.verdicts ++ verdict ∷ [];
        count_is = length_push so_far.verdicts verdict ∙ ap (λ n. n + 1) so_far.count_is;
        each = answered_more first so_far.verdicts verdict a b c f g h so_far.each (rw same one);
        counted = judged_more so_far.verdicts (verdict ∷ []) a b c so_far.counted counted;
      }

-- ---- a run that passes

-- Neither of two verdicts is worse than a pass if the worse one is a pass.
pass_of_worse : (a b : Verdict) → worse a b ≡ verdicts.Pass → (a ≡ verdicts.Pass) × (b ≡ verdicts.Pass)
pass_of_worse verdicts.Pass verdicts.Pass is = (refl, refl)
pass_of_worse verdicts.Pass verdicts.Inconclusive is = cc
pass_of_worse verdicts.Pass verdicts.Fail is = cc
pass_of_worse verdicts.Pass verdicts.Error is = cc
pass_of_worse verdicts.Inconclusive verdicts.Pass is = cc
pass_of_worse verdicts.Inconclusive verdicts.Inconclusive is = cc
pass_of_worse verdicts.Inconclusive verdicts.Fail is = cc
pass_of_worse verdicts.Inconclusive verdicts.Error is = cc
pass_of_worse verdicts.Fail verdicts.Pass is = cc
pass_of_worse verdicts.Fail verdicts.Inconclusive is = cc
pass_of_worse verdicts.Fail verdicts.Fail is = cc
pass_of_worse verdicts.Fail verdicts.Error is = cc
pass_of_worse verdicts.Error verdicts.Pass is = cc
pass_of_worse verdicts.Error verdicts.Inconclusive is = cc
pass_of_worse verdicts.Error verdicts.Fail is = cc
pass_of_worse verdicts.Error verdicts.Error is = cc

worst_of_one : (v : Verdict) (c : Counts) → (with_one v c).worst ≡ worse c.worst v
worst_of_one verdicts.Pass c = refl
worst_of_one verdicts.Inconclusive c = refl
worst_of_one verdicts.Fail c = refl
worst_of_one verdicts.Error c = refl

-- If the worst of the counts after these verdicts is a pass, so was the worst before them.
pass_before : (verdicts' : List Verdict) (c : Counts) → (with_each verdicts' c).worst ≡ verdicts.Pass → c.worst ≡ verdicts.Pass
pass_before [] c is = is
pass_before (v ∷ more) c is = (pass_of_worse c.worst v (sym (worst_of_one v c) ∙ pass_before more (with_one v c) is)).0

pass_of_first : (v : Verdict) (more : List Verdict) (c : Counts) → (with_each (v ∷ more) c).worst ≡ verdicts.Pass → v ≡ verdicts.Pass
pass_of_first v more c is = (pass_of_worse c.worst v (sym (worst_of_one v c) ∙ pass_before more (with_one v c) is)).1

module _ (options : TraceOptions) (octets : ℕ → Option (List ℕ)) where
  -- A trace that passes passes by its definition.
  pass_of_trace : (trace : List ℕ) (known : Option (List ℕ)) (verdict : Verdict) (a b : Sum) (f g : ℕ)
      → IsAnswered options known verdict a b f g → verdict ≡ verdicts.Pass → known ≡ Some trace
      → (judged_trace (asked_of options) trace).verdict ≡ verdicts.Pass
  pass_of_trace trace known verdict a b f g (inl read) passes is =
      by (verdict_defined options known read.remaining 0 read.failures verdict a b read.answers trace is)
    where
      by : (verdict ≡ verdicts.Error) ⊎ (verdict ≡ (judged_trace (asked_of options) trace).verdict)
          → (judged_trace (asked_of options) trace).verdict ≡ verdicts.Pass
      by (inl error) = let both : verdicts.Error ≡ verdicts.Pass = sym error ∙ passes in cc
      by (inr defined) = sym defined ∙ passes
  pass_of_trace trace known verdict a b f g (inr (error, after, more)) passes is =
      let both : verdicts.Error ≡ verdicts.Pass = sym error ∙ passes in cc

  pass_from : (number : ℕ) (verdicts' : List Verdict) (a b : Sum) (f g : ℕ) (c : Counts)
      → AreAnswered options octets number verdicts' a b f g → (with_each verdicts' c).worst ≡ verdicts.Pass
      → (at : ℕ) (trace : List ℕ) → number ≤ at → at < number + length verdicts' → octets at ≡ Some trace
      → (judged_trace (asked_of options) trace).verdict ≡ verdicts.Pass
  pass_from number [] a b f g c none passes at trace least most is = absurd (omega (least, most, arith))
  pass_from number (v ∷ more) a b f g c (between, so_far, one, others) passes at trace least most is =
      by (nat_eq at number) refl
      (λ later. pass_from (suc number) more between b so_far g (with_one v c) others passes at trace later (omega (most, arith)) is)
    where
      by : (same : Bool) → nat_eq at number ≡ same
          → (suc number ≤ at → (judged_trace (asked_of options) trace).verdict ≡ verdicts.Pass)
          → (judged_trace (asked_of options) trace).verdict ≡ verdicts.Pass
      by true same goes_on =
          pass_of_trace trace (octets number) v a between f so_far one (pass_of_first v more c passes)
          (sym (ap octets (eqb-true at number same)) ∙ is)
      by false same goes_on = let other = eqb-false at number same in goes_on (omega (least, other, arith))

  -- Each trace of a run that passes passes by its definition.
  pub pass_of_each : (first count : ℕ) (before after : Sum) (unread unread' : ℕ)
      → AnswersEach options octets first count before after unread unread' → worst_of after ≡ verdicts.Pass
      → (number : ℕ) (trace : List ℕ) → first ≤ number → number < first + count → octets number ≡ Some trace
      → (judged_trace (asked_of options) trace).verdict ≡ verdicts.Pass
  pass_of_each first count before after unread unread' run passes number trace least less is =
      let counted = run.counted in
      let few = run.count_is in
      pass_from first run.verdicts before after unread unread' before.traces run.each
      (sym (ap (λ (c : Counts). c.worst) counted) ∙ passes) number trace least (omega (less, few, arith)) is
