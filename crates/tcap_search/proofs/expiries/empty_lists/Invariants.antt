-- the lists so far are empty
use Rattle.std.proofs.Common.{◌≡◌, ℕ, [], length}
use Rattle.tcap_search.specs.GapDeliveries.{due_at}
use Rattle.tcap_search.proofs.expiries.empty_lists.Given as goal

abbrev pub invariant-loop : goal.invariant-loop
invariant-loop l = record {
  empty : (gap : ℕ) → due_at gap l.lists.items ≡ [];
  count : length l.lists.items ≡ l.counter;
}
