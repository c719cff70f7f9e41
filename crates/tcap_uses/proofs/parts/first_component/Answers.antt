use Rattle.std.proofs.Common.{◌∙◌, ap, Some}
use Rattle.tcap_parts.specs.declared.component.Component.{Component}
use Rattle.tcap_uses.proofs.parts.first_component.Goals as goal

pub returns-in_ok-to_component-in-Ok-clause-only : goal.returns-in_ok-to_component-in-Ok-clause-only
returns-in_ok-to_component-in-Ok-clause-only c component front rest spelled joined =
    let read = c.in-Ok.ensures.only component front rest spelled (ap (λ s. s.octets) c.new.ensures ∙ joined) in
    ap (λ (made : Component). Some made) (c.in_ok-to_component-in-Ok.ensures.made ∙ read.0)

pub returns-in-Err-clause-only : goal.returns-in-Err-clause-only
returns-in-Err-clause-only c component front rest spelled joined =
    absurd (c.in-Err.ensures.only component front rest spelled (ap (λ s. s.octets) c.new.ensures ∙ joined))
