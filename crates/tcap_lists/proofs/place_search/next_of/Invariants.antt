use Rattle.std.proofs.Common.{◌≡◌, ◌≤◌, ◌<◌, ◌-◌, ℕ, false, length}
use Rattle.tcap_lists.specs.Row.{is_wanted, kind_at}
use Rattle.tcap_lists.proofs.place_search.next_of.Given as goal

-- No place so far has a wanted item.
abbrev pub invariant-loop-at : goal.invariant-loop-at
invariant-loop-at l = record {
  after : l.from ≤ l.at;
  none : (at : ℕ) → l.from ≤ at → at < l.at → is_wanted l.wanted (kind_at l.places at) ≡ false;
}

abbrev pub decreases-loop-at : goal.decreases-loop-at
decreases-loop-at l = length l.places - l.at
