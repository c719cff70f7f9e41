use Rattle.std.proofs.Common.{length}
use Rattle.tcap_bench.proofs.count_messages.Given as goal

abbrev pub decreases-loop-len : goal.decreases-loop-len
decreases-loop-len l = length l.rest
