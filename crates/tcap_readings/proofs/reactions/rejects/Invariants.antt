-- No component so far fits, so the rest decides.
use Rattle.std.proofs.Common.{◌≡◌}
use Rattle.std.specs.List.{list_any}
use Rattle.tcap_parts.specs.Meaning.{components_left}
use Rattle.tcap_msg.specs.Parts.{components_in}
use Rattle.tcap_readings.specs.Reactions.{is_fitting}
use Rattle.tcap_readings.proofs.reactions.rejects.Given as goal

abbrev pub invariant-loop-component : goal.invariant-loop-component
invariant-loop-component l =
    list_any (is_fitting l.at) (components_left l.component-iterator) ≡ list_any (is_fitting l.at) (components_in l.message)
