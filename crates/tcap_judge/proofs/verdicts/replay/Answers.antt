use Rattle.tcap_judge.proofs.LawfulLaws.{shown_report}
use Rattle.tcap_judge.proofs.verdicts.replay.Goals as goal

pub returns-clause-shown : goal.returns-clause-shown
returns-clause-shown c =
    rw c.lawful_of.ensures
    (shown_report c.args.judged c.args.table.now c.args.read.now.entries.items _ c.in_ok-report.report
    (c.check.ensures.lawful c.in_ok-report.report c.in_ok-report.was))
