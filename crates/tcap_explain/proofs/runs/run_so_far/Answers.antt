use Rattle.tcap_check.specs.RunSoFar.{answered}
use Rattle.tcap_explain.proofs.LawfulRuns.{discards_in, events_in, of_runs}
use Rattle.tcap_explain.proofs.runs.run_so_far.Goals as goal

pub returns : goal.returns
returns c =
    let judged = c.args.judged in
    let table = c.args.table.now in
    let certificate = c.args.certificate.now in
    let entries = c.args.read.now.entries.items in
    let so = c.run_until.ensures.answer in
    record {
      exact = events_in (λ run. answered run.refused run.steps.items) judged table certificate entries c.run_until.result so;
      lawful = of_runs (λ run. answered run.refused run.steps.items) judged table certificate entries c.run_until.result so;
      discards = discards_in (λ run. answered run.refused run.steps.items) judged table certificate entries c.run_until.result so;
    }
