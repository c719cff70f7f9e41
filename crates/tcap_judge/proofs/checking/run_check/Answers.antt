use Rattle.tcap_judge.proofs.LawfulLaws.{checks_of, fine_run}
use Rattle.tcap_judge.proofs.checking.run_check.Goals as goal

pub returns-clause-checks : goal.returns-clause-checks
returns-clause-checks g c =
    checks_of c.args.judged _ _ _ c.check_outcome-outcome.result _ _ c.write_outcome.result c.check_outcome-outcome.ensures
    c.write_outcome.ensures.text

pub returns-clause-lawful : goal.returns-clause-lawful
returns-clause-lawful g c =
    fine_run c.args.judged _ _ _ _ _ c.write_outcome.result
    (checks_of c.args.judged _ _ _ c.check_outcome-outcome.result _ _ c.write_outcome.result c.check_outcome-outcome.ensures
    c.write_outcome.ensures.text)
