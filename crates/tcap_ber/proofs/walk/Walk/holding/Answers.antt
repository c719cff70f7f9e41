use Rattle.std.proofs.Common.{take, arith}
use Rattle.tcap_ber.proofs.OpeningPlaceLaws.{unfinished_within}
use Rattle.tcap_ber.proofs.walk.Walk.holding.Goals as goal

pub invariant_of-result : goal.invariant_of-result
invariant_of-result c = record {
  placed = c.args.self.placed;
  room = (omega (arith, unfinished_within c.args.self.progress.at (take c.args.held c.args.header) c.requires.unfinished, c.requires.all), c.requires.all, omega arith);
  unfinished = c.requires.unfinished;
}
