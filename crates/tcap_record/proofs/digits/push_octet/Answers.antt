use Rattle.std.specs.String.{string_bytes}
use Rattle.tcap_record.proofs.DigitLaws.{octet_more}
use Rattle.tcap_record.proofs.digits.push_octet.Goals as goal

pub returns : goal.returns
returns c =
    octet_more (string_bytes c.args.text.now) (string_bytes c.push.new.self) (string_bytes c.push-2.new.self) _ _ c.args.octet c.digit.result c.digit-2.result
    c.in_ok-push.ensures.bytes (c.in_ok-push.ensures.ascii c.digit.ensures.ascii) c.digit.ensures.digit
    c.in_ok-push-2.ensures.bytes (c.in_ok-push-2.ensures.ascii c.digit-2.ensures.ascii) c.digit-2.ensures.digit
