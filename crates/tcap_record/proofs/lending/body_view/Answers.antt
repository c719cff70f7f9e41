use Rattle.std.proofs.Common.{◌≡◌, Err, arith}
use Rattle.tcap_msg.specs.Reading.{message_at}
use Rattle.tcap_record.proofs.FramingLaws.{message_fault_within}
use Rattle.tcap_record.proofs.lending.body_view.Goals as goal

pub overflow_add-result : goal.overflow_add-result
overflow_add-result c =
    let refused : message_at c.args.element.octets.now ≡ Err c.in-Err.fault = c.in-Err.ensures.exact in
    omega (arith, c.args.element.fits, message_fault_within c.args.element.octets.now c.in-Err.fault refused)
