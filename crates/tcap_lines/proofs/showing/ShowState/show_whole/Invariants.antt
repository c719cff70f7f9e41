use Rattle.std.proofs.Common.{◌≡◌, ◌≤◌, ◌-◌, length, take}
use Rattle.tcap_record.specs.PartialRecord.{IsFramerState}
use Rattle.tcap_lines.specs.RecordLines.{Leads}
use Rattle.tcap_lines.proofs.showing.ShowState.show_whole.Given as goal

abbrev pub invariant-loop-entry : goal.invariant-loop-entry
invariant-loop-entry g l = record {
  held : IsFramerState l.initial.self.frames → IsFramerState l.self.frames;
  octets : l.self.frames.octets ≡ l.initial.self.frames.octets;
  none_failed : g.W.Write.failures l.writer ≡ g.W.Write.failures l.initial.writer;
  most : l.taken ≤ length l.piece;
  leads : Leads l.initial.self.frames l.initial.self.bad (g.W.Write.taken l.initial.writer) (take l.taken l.piece) l.self.frames l.self.bad (g.W.Write.taken l.writer);
}

abbrev pub decreases-loop-entry : goal.decreases-loop-entry
decreases-loop-entry g l = length l.piece - l.taken
