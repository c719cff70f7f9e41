use Rattle.std.proofs.Common.{Ok, ap, ◌∙◌, arith}
use Rattle.tcap_ber.specs.declared.element.Outer.{Outer}
use Rattle.tcap_ber.proofs.RoomLaws.{element_within}
use Rattle.tcap_record.proofs.lending.whole_len.Goals as goal

pub overflow_add-result : goal.overflow_add-result
overflow_add-result c =
    let there = (c.outer.ensures.whole c.in-Ok-Whole.len).0 (c.in-Ok-Whole.is ∙ ap (λ (x : Outer). Ok x) c.in-Ok-Whole.field-0-is) in
    omega (arith, there.len, element_within there.tag there.content there.element there.is_element)
