-- the octets read were fed without a fault; each piece adds to them
use Rattle.std.proofs.Common.{◌≡◌, ℕ, ◌+◌, ◌-◌, ◌^◌, List, length}
use Rattle.std.specs.Io.KnownBytes.{Consumes}
use Rattle.tcap_record.proofs.ReadingLaws.{IsFed}
use Rattle.tcap_record.proofs.reading.feed_all.Given as goal

abbrev pub invariant-loop-feeder : goal.invariant-loop-feeder
invariant-loop-feeder g l = record {
  returned : List ℕ;
  consumed : Consumes (g.R.Read.remaining l.fn.reader) (g.R.Read.remaining l.reader) returned;
  fed : IsFed returned l.feeder.waiting l.feeder.held;
  count : g.R.Read.failures l.reader ≡ g.R.Read.failures l.fn.reader;
}

abbrev pub decreases-loop-feeder : goal.decreases-loop-feeder
decreases-loop-feeder g l = 2 ^ 64 - (l.feeder.held.place + length l.feeder.held.octets)
