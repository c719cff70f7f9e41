use Rattle.tcap_report.proofs.JudgedLaws.{case_judged}
use Rattle.tcap_report.proofs.trace.Trace.judge.Goals as goal

pub returns-clause-keeps : goal.returns-clause-keeps
returns-clause-keeps g c = λ options s names done waiting d are separate before keeps.
    let made = c.in_ok-case.ensures in
    case_judged c.report.result options s done waiting names d c.args.self.now c.case_of.new.self c.report.new.self c.in_ok-case.case c.args.next
    c.args.gathered c.in_ok-judged.judged.verdict are separate before keeps made.is made.entries made.in_use made.unread c.case_of.ensures.others
    c.case_of.ensures.rest c.in_ok-judged.ensures.verdict c.report.ensures.counted c.report.ensures.marks c.report.ensures.rest
