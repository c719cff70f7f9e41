-- The IDs so far were added.
use Rattle.std.proofs.Common.{◌≡◌, true, map}
use Rattle.tcap_traces.proofs.MarksLaws.{Adds}
use Rattle.tcap_traces.proofs.before_marks.EndMarks.note_open.Given as goal

abbrev pub invariant-loop-id : goal.invariant-loop-id
invariant-loop-id l = record {
  noted : Adds (λ q. true) (map (λ id. id.now) l.yielded) l.fn.self.opened l.self.opened;
  rest : l.self ≡ record l.fn.self { opened = l.self.opened };
}
