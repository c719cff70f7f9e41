use Rattle.tcap_ber.specs.Reading.{element}
use Rattle.tcap_ber.proofs.ResultLaws.{integer_valid, integer_invalid}
use Rattle.tcap_ber.proofs.integers.integer.Goals as goal

pub returns-clause-valid : goal.returns-clause-valid
returns-clause-valid c = integer_valid (λ octets. octets.now) (element c.args.tlv) c.contents.result c.contents.ensures.exact

pub returns-clause-invalid : goal.returns-clause-invalid
returns-clause-invalid c = integer_invalid (λ octets. octets.now) (element c.args.tlv) c.contents.result c.contents.ensures.exact
