-- the writer took the front of the octets, and the rest is left
use Rattle.std.proofs.Common.{◌≡◌, ℕ, ◌≤◌, take, drop}
use Rattle.std.specs.Io.KnownBytes.{Appends}
use Rattle.tcap_ber.proofs.counted.Counted.write_rest.Given as goal

abbrev pub invariant-loop : goal.invariant-loop
invariant-loop g l = record {
  n : ℕ;
  rest_is : l.rest ≡ drop n (drop l.taken l.octets);
  took : Appends (g.T.Write.contents l.fn.self.inner) (g.T.Write.contents l.self.inner) (take n (drop l.taken l.octets));
  count : l.self.failures ≡ l.fn.self.failures;
}
