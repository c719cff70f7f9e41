use Rattle.std.proofs.Common.{◌≡◌, ◌≤◌, ◌<◌, ◌-◌, ℕ, Some, false}
use Rattle.tcap_lists.specs.Row.{is_wanted, kind_at}
use Rattle.tcap_lists.proofs.row.next_of_kind.Given as goal

-- No place so far has an item of the kind.
abbrev pub invariant-loop-at : goal.invariant-loop-at
invariant-loop-at l = record {
  after : l.from ≤ l.at;
  none : (at : ℕ) → l.from ≤ at → at < l.at → is_wanted (Some l.kind) (kind_at l.places at) ≡ false;
}

abbrev pub decreases-loop-at : goal.decreases-loop-at
decreases-loop-at l = l.end - l.at
