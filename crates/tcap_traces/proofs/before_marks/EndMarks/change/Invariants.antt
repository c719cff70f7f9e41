-- What is known of the IDs so far has changed.
use Rattle.std.proofs.Common.{◌≡◌, map}
use Rattle.tcap_traces.proofs.MarksLaws.{Changes}
use Rattle.tcap_traces.proofs.before_marks.EndMarks.change.Given as goal

abbrev pub invariant-loop-id : goal.invariant-loop-id
invariant-loop-id l = record {
  known : Changes (map (λ id. id.now) l.yielded) l.change l.fn.self l.self;
  rest : l.self ≡ record l.fn.self { known = l.self.known };
}
