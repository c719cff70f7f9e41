-- No component so far fits, so the rest decides.
use Rattle.std.proofs.Common.{◌≡◌}
use Rattle.std.specs.List.{list_any}
use Rattle.tcap_parts.specs.Meaning.{components_left}
use Rattle.tcap_msg.specs.Parts.{components_in}
use Rattle.tcap_traces.specs.Verdict.{invokes_lacking}
use Rattle.tcap_traces.proofs.doubts.has_lacking.Given as goal

abbrev pub invariant-loop-component : goal.invariant-loop-component
invariant-loop-component l =
    list_any (invokes_lacking l.table l.id) (components_left l.component-iterator)
    ≡ list_any (invokes_lacking l.table l.id) (components_in l.message)
