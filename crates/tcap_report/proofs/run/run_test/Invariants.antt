-- The traces so far are answered.
use Rattle.std.proofs.Common.{◌≡◌, ◌+◌}
use Rattle.tcap_report.specs.RunAnswer.{AnswersEach}
use Rattle.tcap_report.proofs.run.run_test.Given as goal

abbrev pub invariant-loop-name : goal.invariant-loop-name
invariant-loop-name g l =
    (g.T.Traces.octets l.traces ≡ g.T.Traces.octets l.fn.traces)
    × (g.T.Traces.opened l.traces ≡ g.T.Traces.opened l.fn.traces + l.name-index)
    × AnswersEach l.fn.options (g.T.Traces.octets l.fn.traces) (g.T.Traces.opened l.fn.traces) l.name-index l.fn.sinks.sum.now l.sinks.sum.now
    (g.T.Traces.unread l.fn.traces) (g.T.Traces.unread l.traces)
    × (l.sinks.sum.ghost_name ≡ l.fn.sinks.sum.ghost_name)
