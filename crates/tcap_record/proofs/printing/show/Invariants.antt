use Rattle.std.proofs.Common.{◌≡◌, take}
use Rattle.std.specs.Io.KnownBytes.{Appends}
use Rattle.tcap_record.specs.Lines.{lines_of}
use Rattle.tcap_record.proofs.printing.show.Given as goal

abbrev pub invariant-loop-number : goal.invariant-loop-number
invariant-loop-number g l = record {
  wrote : Appends (g.W.Write.taken l.initial.writer) (g.W.Write.taken l.writer) (lines_of (take l.number l.record.entries.items));
  none_failed : g.W.Write.failures l.writer ≡ g.W.Write.failures l.initial.writer;
}
