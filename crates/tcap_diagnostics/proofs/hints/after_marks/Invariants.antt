use Rattle.std.proofs.Common.{length}
use Rattle.tcap_diagnostics.proofs.hints.after_marks.Given as goal

abbrev pub decreases-loop-rest : goal.decreases-loop-rest
decreases-loop-rest l = length l.rest
