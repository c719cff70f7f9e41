use Rattle.std.proofs.Common.{◌≡◌, List, length, subst}
use Rattle.std.specs.Prelude.{IfOk}
use Rattle.std.specs.String.{string_bytes}
use Rattle.tcap_check.specs.declared.step.Step.{Step}
use Rattle.tcap_check.specs.ReportedSteps.{events_of}
use Rattle.tcap_judge.specs.LawfulOutcome.{lawful_by}
use Rattle.tcap_explain.specs.StepLines.{run_lines}
use Rattle.tcap_explain.proofs.LawfulRuns.{proposed_says}
use Rattle.tcap_explain.proofs.explaining.explain_by_search.Goals as goal

pub returns-in-None : goal.returns-in-None
returns-in-None c =
    let so = c.in_ok-run.ensures in
    let judged = c.args.options.judged in
    let entries = c.args.read.now.entries.items in
    let said = c.explain_run.result in
    proposed_says (λ why. why.outcome) (λ why. string_bytes why.after) judged c.args.table.now c.in_ok-certificate.certificate
    entries c.in_ok-run.run'.refused c.in_ok-run.run'.steps.items said c.in_ok-certificate.ensures
    c.requires.sound c.in-None.is so.exact so.lawful so.discards
    (subst (λ (ss : List Step). IfOk said (λ why. why.outcome ≡ lawful_by judged (length entries) (events_of ss))) c.deref.ensures.value
    c.explain_run.ensures.outcome)
    (subst (λ (ss : List Step). IfOk said (λ why. string_bytes why.after ≡ run_lines judged ss)) c.deref.ensures.value c.explain_run.ensures.after)
