use Rattle.std.proofs.Common.{ap, ◌∙◌}
use Rattle.tcap_report.specs.Counts.{with_read, with_verdict}
use Rattle.tcap_report.specs.KeptState.{no_id}
use Rattle.tcap_report.proofs.ReadLaws.{answers_broken, answers_whole, both_ok}
use Rattle.tcap_report.proofs.trace.Trace.run.Goals as goal

pub returns-in-Ok-clause-answers : goal.returns-in-Ok-clause-answers
returns-in-Ok-clause-answers g c = λ options reading.
    let t = c.read_all.new.self in
    both_ok c.end_whole.result _ _ _
    (λ verdict is sum.
    answers_whole options _ _ _ _ verdict _ _ t (sum ∙ ap (λ s. with_verdict verdict (with_read t.dialogues t.messages t.unheard s.now)) c.in-Ok.ensures.same_sum)
    (c.in-Ok.ensures.reads options reading) is)
    c.end_whole.ensures.is c.end_whole.ensures.sum

pub returns-in_ok-judge_live-in-Err-Form-clause-answers : goal.returns-in_ok-judge_live-in-Err-Form-clause-answers
returns-in_ok-judge_live-in-Err-Form-clause-answers g c = λ options reading.
    let t = c.judge_live.new.self in
    both_ok c.end.result _ _ _
    (λ verdict is sum.
    answers_broken options _ _ _ _ verdict _ _ t
    (sum ∙ ap (λ s. with_verdict verdict (with_read t.dialogues t.messages t.unheard s.now))
    (c.in_ok-judge_live-in-Err-Form.ensures.same_sum ∙ c.in-Err-Form.ensures.same_sum))
    c.in-Err-Form.fault c.read_all.new.self (rw c.in-Err-Form.field-0-is at (c.in-Err-Form.ensures.reads options reading))
    (λ s at. c.in_ok-judge_live-in-Err-Form.ensures.keeps options s no_id at) is)
    c.end.ensures.is c.end.ensures.sum
