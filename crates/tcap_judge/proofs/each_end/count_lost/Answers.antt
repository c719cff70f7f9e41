-- No entry is left.
use Rattle.std.proofs.Common.{arith}
use Rattle.tcap_judge.proofs.EachEndLaws.{lost_none}
use Rattle.tcap_judge.proofs.each_end.count_lost.Goals as goal

pub returns : goal.returns
returns c = omega (
  arith,
  c.loop-entries.invariant.counted,
  lost_none c.args.end c.loop-entries.fates.now c.loop-entries.entries.now c.in_default.len_below,
)
