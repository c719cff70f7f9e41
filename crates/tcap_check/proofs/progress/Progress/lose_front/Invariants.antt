-- The losses so far, and those that are left at the front, are all losses. Each makes one message fewer on its way.
use Rattle.std.proofs.Common.{◌≡◌, ◌+◌, length}
use Rattle.tcap_check.specs.Progress.{HasNoMore, front_lost, side_at}
use Rattle.tcap_check.proofs.progress.Progress.lose_front.Given as goal

abbrev pub invariant-loop : goal.invariant-loop
invariant-loop l = record {
  same : front_lost l.judged l.side l.self ≡ front_lost l.judged l.side l.fn.self;
  left : length (side_at l.side l.self).waiting + l.counter ≡ l.end;
  grown : HasNoMore l.fn.self l.self;
}
