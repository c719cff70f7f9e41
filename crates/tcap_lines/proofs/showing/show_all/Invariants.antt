-- the octets read were taken and shown, without a fault
use Rattle.std.proofs.Common.{◌≡◌, ℕ, ◌+◌, ◌-◌, ◌^◌, None, List, length}
use Rattle.std.specs.Io.KnownBytes.{Consumes}
use Rattle.tcap_record.specs.declared.entry.Entry.{Entry}
use Rattle.tcap_record.specs.PartialRecord.{IsFramerState, IsPart}
use Rattle.tcap_lines.specs.RecordLines.{ShownSoFar}
use Rattle.tcap_lines.proofs.showing.show_all.Given as goal

abbrev pub invariant-loop-showing : goal.invariant-loop-showing
invariant-loop-showing g l = record {
  returned : List ℕ;
  entries : List Entry;
  consumed : Consumes (g.R.Read.remaining l.fn.reader) (g.R.Read.remaining l.reader) returned;
  shown : ShownSoFar returned entries l.showing.frames l.showing.bad (g.W.Write.taken l.fn.writer) (g.W.Write.taken l.writer);
  held : IsFramerState l.showing.frames;
  sound : l.showing.frames.fault ≡ None;
  is_part : IsPart l.showing.frames.octets;
  none_failed : g.R.Read.failures l.reader ≡ g.R.Read.failures l.fn.reader;
  none_lost : g.W.Write.failures l.writer ≡ g.W.Write.failures l.fn.writer;
}

abbrev pub decreases-loop-showing : goal.decreases-loop-showing
decreases-loop-showing g l = 2 ^ 64 - (l.showing.frames.place + length l.showing.frames.octets)
