use Rattle.std.proofs.Common.{◌≡◌}
use Rattle.tcap_diagnostics.proofs.showing.ShowState.show_piece.Given as goal

-- no write failed so far
abbrev pub invariant-loop : goal.invariant-loop
invariant-loop g l = g.W.Write.failures l.writer ≡ g.W.Write.failures l.fn.writer
