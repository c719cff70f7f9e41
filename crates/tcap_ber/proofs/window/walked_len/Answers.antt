use Rattle.std.proofs.Common.{◌∙◌, ap, arith, Ok}
use Rattle.tcap_ber.specs.declared.element.Outer.{Outer}
use Rattle.tcap_ber.specs.Reading.{span}
use Rattle.tcap_ber.proofs.OuterLaws.{walk_fault_within}
use Rattle.tcap_ber.proofs.ElementLaws.{indefinite_bounds}
use Rattle.tcap_ber.proofs.window.walked_len.Goals as goal

pub overflow_add-result-in-Err : goal.overflow_add-result-in-Err
overflow_add-result-in-Err c = omega (arith, walk_fault_within c.args.window.octets.now c.in-Err.fault.reason c.in-Err.fault.place ((c.outer.ensures.fault c.in-Err.fault).0 c.in-Err.is), c.args.window.fits)

pub returns-in-Ok-Whole-clause-bounds : goal.returns-in-Ok-Whole-clause-bounds
returns-in-Ok-Whole-clause-bounds c = indefinite_bounds (span c.args.window) c.args.tag_len c.in-Ok-Whole.len c.requires.opening ((c.outer.ensures.whole c.in-Ok-Whole.len).0 (c.in-Ok-Whole.is ∙ ap (λ (x : Outer). Ok x) c.in-Ok-Whole.field-0-is))
