-- Each trace so far is an error.
use Rattle.tcapjudge.specs.TestStatus.{AreErrors}
use Rattle.tcapjudge.proofs.testing.refuse_all.Given as goal

abbrev pub invariant-loop-path : goal.invariant-loop-path
invariant-loop-path g l = AreErrors l.path-index l.fn.sinks.sum.now l.sinks.sum.now
