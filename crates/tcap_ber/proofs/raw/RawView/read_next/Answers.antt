use Rattle.tcap_ber.specs.Reading.{span, element}
use Rattle.tcap_ber.proofs.RawLaws.{raw_there, rest_is_shorter}
use Rattle.tcap_ber.proofs.raw.RawView.read_next.Goals as goal

pub overflow_sub-len : goal.overflow_sub-len
overflow_sub-len c = rest_is_shorter (span c.args.window) (element c.in_ok-rest.field-0-0, span c.in_ok-rest.rest) c.in_ok-rest.ensures.exact

pub invariant_of-raw : goal.invariant_of-raw
invariant_of-raw c = record { whole = raw_there (span c.args.window) (element c.in_ok-rest.field-0-0, span c.in_ok-rest.rest) c.in_ok-rest.ensures.exact }
