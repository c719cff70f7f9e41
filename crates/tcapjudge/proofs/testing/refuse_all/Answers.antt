use Rattle.std.proofs.Common.{◌≡◌, [], ◌∷◌, replicate, refl, ap, subst}
use Rattle.std.proofs.lemmas.List.{replicate_more}
use Rattle.tcap_traces.specs.declared.verdict.Verdict.TheVariants as verdicts
use Rattle.tcap_report.specs.declared.sum.Sum.{Sum}
use Rattle.tcap_report.specs.Counts.{HasJudged}
use Rattle.tcap_report.proofs.CountsLaws.{judged_more}
use Rattle.tcapjudge.proofs.testing.refuse_all.Goals as goal

pub loop-path-init : goal.loop-path-init
loop-path-init g c = refl

pub loop-path-preserved : goal.loop-path-preserved
loop-path-preserved g c =
    subst (λ vs. HasJudged vs c.args.sinks.now.sum.now c.report_unread.new.sinks.sum.now)
    (replicate_more c.loop-path.path-index verdicts.Error)
    (judged_more (replicate c.loop-path.path-index verdicts.Error) (verdicts.Error ∷ []) c.args.sinks.now.sum.now c.loop-path.sinks.sum.now
    c.report_unread.new.sinks.sum.now c.loop-path.invariant (ap (λ (s : Sum). s.traces) c.in_ok-report_unread.ensures.sum))
