-- the whole lines of all octets read were packed, and the octets after them are held
use Rattle.std.proofs.Common.{◌≡◌, ℕ, ◌-◌, ◌^◌, List, length}
use Rattle.std.specs.Io.KnownBytes.{Consumes}
use Rattle.tcap_record.specs.PackState.{IsOpen, Packs}
use Rattle.tcap_record.proofs.packing.pack.Given as goal

abbrev pub invariant-loop-read : goal.invariant-loop-read
invariant-loop-read g l = record {
  returned : List ℕ;
  consumed : Consumes (g.R.Read.remaining l.fn.reader) (g.R.Read.remaining l.reader) returned;
  packs : Packs l.initial.packing l.packing returned (g.W.Write.taken l.fn.writer) (g.W.Write.taken l.writer);
  is_open : IsOpen l.packing;
  read_is : l.read ≡ length returned;
  none_failed : g.R.Read.failures l.reader ≡ g.R.Read.failures l.fn.reader;
  none_refused : g.W.Write.failures l.writer ≡ g.W.Write.failures l.fn.writer;
}

abbrev pub decreases-loop-read : goal.decreases-loop-read
decreases-loop-read g l = 2 ^ 64 - l.read
