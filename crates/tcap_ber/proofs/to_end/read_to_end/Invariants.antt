-- the vector gained what the reader consumed; each read but the last adds to it
use Rattle.std.proofs.Common.{◌≡◌, ℕ, ◌-◌, ◌^◌, ◌++◌, List, vec_len}
use Rattle.std.specs.Io.KnownBytes.{Consumes}
use Rattle.tcap_ber.proofs.to_end.read_to_end.Given as goal

abbrev pub invariant-loop-reader : goal.invariant-loop-reader
invariant-loop-reader g l = record {
  more : List ℕ;
  gained : l.octets.items ≡ l.fn.octets.items ++ more;
  consumed : Consumes (g.R.Read.remaining l.fn.reader) (g.R.Read.remaining l.reader) more;
  count : g.R.Read.failures l.reader ≡ g.R.Read.failures l.fn.reader;
}

abbrev pub decreases-loop-reader : goal.decreases-loop-reader
decreases-loop-reader g l = 2 ^ 63 - vec_len l.octets
