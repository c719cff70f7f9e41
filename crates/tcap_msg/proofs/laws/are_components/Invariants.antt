use Rattle.std.specs.List.{AllWithin}
use Rattle.tcap_parts.specs.Valid.{IsComponent}
use Rattle.tcap_msg.proofs.laws.are_components.Given as goal

-- each component so far is valid
abbrev pub invariant-loop-component : goal.invariant-loop-component
invariant-loop-component l = AllWithin IsComponent l.components 0 l.component-index
