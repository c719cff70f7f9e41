-- an interrupted flush changes neither the octets taken nor the count
use Rattle.std.proofs.Common.{◌≡◌}
use Rattle.std.specs.Io.KnownBytes.{Keeps}
use Rattle.tcap_ber.proofs.counted.Counted.flush.Given as goal

abbrev pub invariant-loop : goal.invariant-loop
invariant-loop g l = record {
  kept : Keeps (g.T.Write.contents l.fn.self.inner) (g.T.Write.contents l.self.inner);
  count : l.self.failures ≡ l.fn.self.failures;
}
