use Rattle.std.proofs.Common.{◌≡◌, ◌++◌}
use Rattle.tcap_parts.specs.Meaning.{components_of, components_left}
use Rattle.tcap_parts.proofs.portion.PortionView.to_portion.Given as goal

abbrev pub invariant-loop-component : goal.invariant-loop-component
invariant-loop-component l = record {
  so_far : components_of l.fn.self ≡ l.components.items ++ components_left l.component-iterator;
}
