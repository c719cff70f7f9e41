use Rattle.tcap_ber.specs.declared.fault.Reason.TheVariants.{BadSize}
use Rattle.tcap_ber.specs.Grammar.{integer}
use Rattle.tcap_ber.specs.Reading.{element, small_integer_at}
use Rattle.tcap_ber.proofs.BodyLaws.{reads_integer}
use Rattle.tcap_ber.proofs.ResultLaws.{body_found, body_only, body_faulty}
use Rattle.tcap_ber.proofs.integers.octet_integer.Goals as goal

pub returns-clause-found : goal.returns-clause-found
returns-clause-found c = body_found (integer 1 BadSize) (small_integer_at 1 BadSize) (reads_integer 1 BadSize) (λ n. n) (element c.args.tlv) c.read_octet.result c.read_octet.ensures.exact

pub returns-clause-only : goal.returns-clause-only
returns-clause-only c = body_only (integer 1 BadSize) (small_integer_at 1 BadSize) (reads_integer 1 BadSize) (λ n. n) (element c.args.tlv) c.read_octet.result c.read_octet.ensures.exact

pub returns-clause-faulty : goal.returns-clause-faulty
returns-clause-faulty c = body_faulty (integer 1 BadSize) (small_integer_at 1 BadSize) (reads_integer 1 BadSize) (λ n. n) (element c.args.tlv) c.read_octet.result c.read_octet.ensures.exact
