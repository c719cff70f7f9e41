-- The invocations so far and those of the remaining components are all.
use Rattle.tcap_evidence.proofs.Common.{◌≡◌, ◌++◌, flat_map, components_left, components_in}
use Rattle.tcap_evidence.specs.Operations.{invocation_in}
use Rattle.tcap_evidence.proofs.operations.push_invokes.Given as goal

abbrev pub invariant-loop-component : goal.invariant-loop-component
invariant-loop-component l =
    l.invocations.items ++ flat_map (invocation_in l.id l.one.number) (components_left l.component-iterator)
    ≡ l.fn.invocations.items ++ flat_map (invocation_in l.id l.one.number) (components_in l.one.message.now)
