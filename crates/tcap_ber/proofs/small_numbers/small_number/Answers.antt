use Rattle.tcap_ber.specs.SmallInteger.{small}
use Rattle.tcap_ber.specs.Reading.{element, small_at}
use Rattle.tcap_ber.proofs.SmallLaws.{reads_small}
use Rattle.tcap_ber.proofs.ResultLaws.{body_found, body_only, body_faulty}
use Rattle.tcap_ber.proofs.small_numbers.small_number.Goals as goal

pub returns-clause-found : goal.returns-clause-found
returns-clause-found c = body_found small small_at reads_small (λ n. n.number) (element c.args.tlv) c.read_small_number.result c.read_small_number.ensures.exact

pub returns-clause-only : goal.returns-clause-only
returns-clause-only c = body_only small small_at reads_small (λ n. n.number) (element c.args.tlv) c.read_small_number.result c.read_small_number.ensures.exact

pub returns-clause-faulty : goal.returns-clause-faulty
returns-clause-faulty c = body_faulty small small_at reads_small (λ n. n.number) (element c.args.tlv) c.read_small_number.result c.read_small_number.ensures.exact
