-- the numbers so far, and those of the rest
use Rattle.std.proofs.Common.{◌≡◌, ◌<◌, ◌++◌, ℕ, drop, length}
use Rattle.tcap_search.specs.GapDeliveries.{due_at}
use Rattle.tcap_certificate.specs.Replay.{due_in}
use Rattle.tcap_search.proofs.expiries.due_by_gap.Given as goal

abbrev pub invariant-loop-number : goal.invariant-loop-number
invariant-loop-number l = record {
  lists : (gap : ℕ) → gap < length l.fates
      → due_at gap l.lists.items ++ due_in gap l.number (drop l.number l.fates) ≡ due_in gap 0 l.fates;
  count : length l.lists.items ≡ length l.fates;
}
