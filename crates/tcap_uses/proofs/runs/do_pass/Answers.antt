use Rattle.std.proofs.Common.{arith, ◌≡◌, true, refl, sym, ◌∙◌}
use Rattle.tcap_traces.specs.declared.verdict.Verdict.{Verdict}
use Rattle.tcap_traces.specs.declared.verdict.Verdict.TheVariants as verdicts
use Rattle.tcap_uses.proofs.runs.do_pass.Goals as goal

pub returns : goal.returns
returns c = λ pass number trace less is.
    c.pass_is_lawful.ensures _ trace
    (c.pass_of_run_is_of_each_trace.ensures _ _ _ _ _ _ _ _ c.in_ok-run_test.ensures.answers
    (sym c.in_ok-run_test.ensures.worst ∙ passes c.in_ok-run_test.field-0 (sym c.eq.ensures ∙ pass)) number trace (omega arith) (omega (less, arith)) is)
  where
    passes : (v : Verdict) → denote.Enum.Bare.sameb Rattle.tcap_traces.specs.contracts.verdict.Verdict.the_type v verdicts.Pass ≡ true → v ≡ verdicts.Pass
    passes verdicts.Pass so = refl
    passes verdicts.Inconclusive so = cc
    passes verdicts.Fail so = cc
    passes verdicts.Error so = cc
