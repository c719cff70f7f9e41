use Rattle.std.proofs.Common.{◌++◌, ap₂, ◌∙◌}
use Rattle.tcap_parts.proofs.portion.PortionView.to_portion.Goals as goal

pub invariant_of-result : goal.invariant_of-result
invariant_of-result c = λ none. c.some_components-component-items.ensures.some (c.loop-component.invariant.so_far ∙ ap₂ ◌++◌ none c.in-None.ensures.steps.0)
