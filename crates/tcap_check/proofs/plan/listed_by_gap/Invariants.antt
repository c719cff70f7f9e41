-- These are the lists so far.
use Rattle.std.proofs.Common.{◌≡◌, ◌<◌, ◌==◌, ◌++◌, ℕ, filter, map, take}
use Rattle.tcap_check.specs.declared.listed_steps.ListedStep.TheVariants as listings
use Rattle.tcap_check.specs.Buckets.{count_lists, list_at}
use Rattle.tcap_check.proofs.plan.listed_by_gap.Given as goal

abbrev pub invariant-loop-x : goal.invariant-loop-x
invariant-loop-x l = record {
  lists : (gap : ℕ) → gap < l.count
      → list_at gap l.lists ≡ map listings.Closes (filter (λ x. x.gap == gap) (take l.x-index l.close));
  count : count_lists l.lists ≡ l.count;
}

abbrev pub invariant-loop-x-2 : goal.invariant-loop-x-2
invariant-loop-x-2 l = record {
  lists : (gap : ℕ) → gap < l.count
      → list_at gap l.lists ≡ map listings.Closes (filter (λ x. x.gap == gap) l.certificate.close)
      ++ map listings.Expires (filter (λ x. x.gap == gap) (take l.x-index l.expire));
  count : count_lists l.lists ≡ l.count;
}
