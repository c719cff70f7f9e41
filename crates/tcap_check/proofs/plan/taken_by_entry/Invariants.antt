-- The lists so far, and those of the fates that are left, are all lists.
use Rattle.std.proofs.Common.{◌≡◌, ◌<◌, ◌++◌, ℕ, drop}
use Rattle.tcap_check.specs.Buckets.{count_lists, list_at}
use Rattle.tcap_certificate.specs.DescribedRun.{taken_by}
use Rattle.tcap_check.proofs.plan.taken_by_entry.Given as goal

abbrev pub invariant-loop-number : goal.invariant-loop-number
invariant-loop-number l = record {
  lists : (entry : ℕ) → entry < l.count
      → list_at entry l.lists ++ taken_by entry l.number (drop l.number l.fates) ≡ taken_by entry 0 l.fates;
  count : count_lists l.lists ≡ l.count;
}
