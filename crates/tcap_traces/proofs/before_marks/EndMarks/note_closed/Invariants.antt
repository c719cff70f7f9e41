-- The open ones among the IDs so far were added.
use Rattle.std.proofs.Common.{◌≡◌, map}
use Rattle.tcap_traces.specs.IdsBeforeMarks.{known_in}
use Rattle.tcap_traces.proofs.MarksLaws.{Adds}
use Rattle.tcap_traces.proofs.before_marks.EndMarks.note_closed.Given as goal

abbrev pub invariant-loop-id : goal.invariant-loop-id
invariant-loop-id l = record {
  noted : Adds (λ q. (known_in l.fn.self q).open) (map (λ id. id.now) l.yielded) l.fn.self.closed l.self.closed;
  rest : l.self ≡ record l.fn.self { closed = l.self.closed };
}
