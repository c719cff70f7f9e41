-- Of the messages so far this many will be lost, and the others will not.
use Rattle.std.proofs.Common.{◌≡◌, ◌+◌, length, map}
use Rattle.tcap_check.specs.Progress.{count_kept}
use Rattle.tcap_check.proofs.progress.SideState.count_kept.Given as goal

abbrev pub invariant-loop-waiting : goal.invariant-loop-waiting
invariant-loop-waiting l =
    (goal.iterator-loop-waiting).can_next l.waiting-iterator ×
    (goal.iterator-loop-waiting).is_finite l.waiting-iterator ×
    (l.lost + count_kept (map (λ w. w.now) l.yielded) ≡ length l.yielded)
