-- an interrupted read consumes nothing and counts no failure
use Rattle.std.proofs.Common.{◌≡◌}
use Rattle.std.specs.Io.KnownBytes.{Keeps}
use Rattle.tcap_ber.proofs.counted.CountedRead.read.Given as goal

abbrev pub invariant-loop : goal.invariant-loop
invariant-loop g l = record {
  kept : Keeps (g.T.Read.remaining l.fn.self.inner) (g.T.Read.remaining l.self.inner);
  count : l.self.failures ≡ l.fn.self.failures;
}
