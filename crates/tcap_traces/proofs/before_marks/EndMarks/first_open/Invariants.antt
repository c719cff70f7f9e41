-- None of the IDs so far is open.
use Rattle.std.proofs.Common.{◌≡◌, false, map}
use Rattle.std.specs.List.{list_any}
use Rattle.tcap_traces.specs.IdsBeforeMarks.{known_in}
use Rattle.tcap_traces.proofs.before_marks.EndMarks.first_open.Given as goal

abbrev pub invariant-loop-id : goal.invariant-loop-id
invariant-loop-id l = list_any (λ q. (known_in l.self q).open) (map (λ id. id.now) l.yielded) ≡ false
