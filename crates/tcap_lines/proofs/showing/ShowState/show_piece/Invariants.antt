use Rattle.std.proofs.Common.{◌≡◌, ℕ, ◌+◌, ◌≤◌, length, take, drop}
use Rattle.tcap_record.specs.PartialRecord.{IsFramerState}
use Rattle.tcap_lines.specs.RecordLines.{Leads}
use Rattle.tcap_lines.proofs.showing.ShowState.show_piece.Given as goal

abbrev pub invariant-loop-taken : goal.invariant-loop-taken
invariant-loop-taken g l = record {
  held : IsFramerState l.initial.self.frames → IsFramerState l.self.frames;
  none_failed : g.W.Write.failures l.writer ≡ g.W.Write.failures l.initial.writer;
  n : ℕ;
  most : n ≤ length l.piece;
  rest_is : l.rest ≡ drop n l.piece;
  leads : Leads l.initial.self.frames l.initial.self.bad (g.W.Write.taken l.initial.writer) (take n l.piece) l.self.frames l.self.bad (g.W.Write.taken l.writer);
}

abbrev pub decreases-loop-taken : goal.decreases-loop-taken
decreases-loop-taken g l = length l.rest + length l.self.frames.octets
