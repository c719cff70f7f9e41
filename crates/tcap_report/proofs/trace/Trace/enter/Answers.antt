use Rattle.tcap_report.proofs.EnterLaws.{entered}
use Rattle.tcap_report.proofs.trace.Trace.enter.Goals as goal

pub returns-clause-reading : goal.returns-clause-reading
returns-clause-reading g c = λ options s reading.
    entered c.judge_all.result options s c.args.entry c.in_ok-done.done.items c.hold.new.self c.judge_all.new.self
    (c.in_ok-done.ensures options s reading) c.judge_all.ensures.keeps c.judge_all.ensures.same
