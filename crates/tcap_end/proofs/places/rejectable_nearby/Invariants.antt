use Rattle.std.proofs.Common.{◌≡◌, ◌<◌, ℕ, None, false, get_or}
use Rattle.tcap_end.specs.Component.{allows}
use Rattle.tcap_lists.specs.Lists.{row_of}
use Rattle.tcap_lists.specs.Row.{fits_in}
use Rattle.tcap_end.proofs.places.rejectable_nearby.Given as goal

-- No earlier place has an invocation that may be rejected with the problem.
abbrev pub invariant-loop : goal.invariant-loop
invariant-loop l = record {
  none : (n : ℕ) → n < l.at → fits_in (allows l.problem) (get_or (row_of l.row) n None) ≡ false;
}
