use Rattle.std.proofs.Common.{◌≡◌, ◌++◌, Some, List, ℕ, ap, ◌∙◌, append_assoc}
use Rattle.std.specs.String.{string_bytes}
use Rattle.tcap_check.specs.declared.step.Step.{Step}
use Rattle.tcap_judge.specs.BlameOutcome.{finding_line}
use Rattle.tcap_explain.specs.StepLines.{run_lines}
use Rattle.tcap_explain.proofs.LawfulRuns.{lines_of_end}
use Rattle.tcap_explain.proofs.runs.push_lawful_end.Goals as goal

pub returns : goal.returns
returns c =
    let run = c.in_ok-run.run' in
    let so = c.in_ok-run.ensures in
    let before = string_bytes c.args.text.now in
    let line = finding_line c.args.end c.args.found in
    let steps = run_lines (Some c.args.end) run.steps.items in (
      line ++ steps,
      c.in_ok-push_steps.ensures
          ∙ ap (λ (ss : List Step). string_bytes c.push_finding.new.text ++ run_lines (Some c.args.end) ss) c.deref.ensures.value
          ∙ ap (λ (p : List ℕ). p ++ steps) c.in_ok-push_finding.ensures
          ∙ append_assoc before line steps,
      lines_of_end c.args.end c.args.table.now c.in_ok-certificate.certificate c.args.read.now.entries.items c.args.found
          run.refused run.steps.items c.in_ok-certificate.ensures c.requires.found c.requires.lawful so.exact so.discards,
    )
