-- The lists so far, and those of the fates that are left, are all lists.
use Rattle.std.proofs.Common.{◌≡◌, ◌<◌, ◌++◌, ℕ, drop}
use Rattle.tcap_check.specs.Buckets.{count_lists, list_at}
use Rattle.tcap_certificate.specs.Replay.{due_in}
use Rattle.tcap_check.proofs.plan.due_by_gap.Given as goal

abbrev pub invariant-loop-number : goal.invariant-loop-number
invariant-loop-number l = record {
  lists : (gap : ℕ) → gap < l.count
      → list_at gap l.lists ++ due_in gap l.number (drop l.number l.fates) ≡ due_in gap 0 l.fates;
  count : count_lists l.lists ≡ l.count;
}
