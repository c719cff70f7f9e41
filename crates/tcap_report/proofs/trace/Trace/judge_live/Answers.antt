use Rattle.std.proofs.lemmas.Result.{on_ok_weaker}
use Rattle.tcap_report.specs.KeptState.{headings_of}
use Rattle.tcap_report.proofs.JudgedListLaws.{all_if, live_judged}
use Rattle.tcap_report.proofs.trace.Trace.judge_live.Goals as goal

pub returns-clause-keeps : goal.returns-clause-keeps
returns-clause-keeps g c = λ options s names at.
    on_ok_weaker c.judge_all.result
    (live_judged options s names c.args.next c.in_ok-given.given.items c.args.self.now c.finished.new.self c.judge_all.new.self at
    c.in_ok-given.ensures.rest (c.in_ok-given.ensures.live options.reuse (headings_of s) at.cut))
    (all_if c.judge_all.result c.args.next c.in_ok-given.given.items c.finished.new.self c.judge_all.new.self c.judge_all.ensures.keeps)
