-- The IDs so far, and those of the components that are left, are all IDs.
use Rattle.std.proofs.Common.{◌≡◌, ◌++◌, map}
use Rattle.tcap_parts.specs.Meaning.{components_left}
use Rattle.tcap_certificate.specs.DescribedRun.{invoke_id}
use Rattle.tcap_check.proofs.outline.invoke_ids.Given as goal

abbrev pub invariant-loop-component : goal.invariant-loop-component
invariant-loop-component l =
    l.ids.items ++ map invoke_id (components_left l.component-iterator) ≡ map invoke_id (components_left l.fn.components)
