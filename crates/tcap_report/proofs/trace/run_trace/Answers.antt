use Rattle.std.proofs.lemmas.Result.{IfOk-weaker}
use Rattle.tcap_report.proofs.ReadLaws.{counted_once, nothing_read, read_whole}
use Rattle.tcap_report.proofs.trace.run_trace.Goals as goal

pub returns-clause-counted : goal.returns-clause-counted
returns-clause-counted g c =
    IfOk-weaker c.run.result _ _ (λ verdict answers. counted_once c.args.options _ _ _ _ verdict _ _ answers)
    (c.run.ensures.answers c.args.options c.new-trace.ensures.reading)

pub returns-clause-nothing : goal.returns-clause-nothing
returns-clause-nothing g c = λ none.
    IfOk-weaker c.run.result _ _ (λ verdict answers. nothing_read c.args.options _ _ _ _ verdict _ _ answers none)
    (c.run.ensures.answers c.args.options c.new-trace.ensures.reading)

pub returns-clause-all : goal.returns-clause-all
returns-clause-all g c =
    IfOk-weaker c.run.result _ _ (λ verdict answers. read_whole c.args.options _ _ _ _ verdict _ _ answers)
    (c.run.ensures.answers c.args.options c.new-trace.ensures.reading)

pub returns-clause-answers : goal.returns-clause-answers
returns-clause-answers g c = c.run.ensures.answers c.args.options c.new-trace.ensures.reading
