-- The components so far, and the rest without the first that fits unless it was left out, are those without it.
use Rattle.std.proofs.Common.{◌≡◌, ◌++◌, cond, drop}
use Rattle.tcap_readings.specs.Reactions.{is_fitting}
use Rattle.tcap_readings.specs.Readings.{without_first}
use Rattle.tcap_readings.proofs.rejects.without_first.Given as goal

abbrev pub invariant-loop-component : goal.invariant-loop-component
invariant-loop-component l =
    l.made.items ++ cond l.is_left_out (drop l.component-index l.components)
    (without_first (is_fitting l.at) (drop l.component-index l.components))
    ≡ without_first (is_fitting l.at) l.components
