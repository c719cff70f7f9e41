use Rattle.tcap_record.proofs.DigitLaws.{digits_are_text}
use Rattle.tcap_record.proofs.digits.digits_of.Goals as goal

pub unreachable-requires-in_default-from_utf8 : goal.unreachable-requires-in_default-from_utf8
unreachable-requires-in_default-from_utf8 c =
    c.in_default-from_utf8.ensures.cases.0 (rw c.in-Ok.ensures.written (digits_are_text c.args.octets.now))
