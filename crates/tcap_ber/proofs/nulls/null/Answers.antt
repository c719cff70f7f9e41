use Rattle.tcap_ber.specs.Reading.{element, null_at}
use Rattle.tcap_ber.specs.SmallInteger.{null}
use Rattle.tcap_ber.proofs.ChoiceLaws.{reads_null, null_iff}
use Rattle.tcap_ber.proofs.ResultLaws.{body_faulty}
use Rattle.tcap_ber.proofs.nulls.null.Goals as goal

pub returns-clause-ok : goal.returns-clause-ok
returns-clause-ok c = null_iff (element c.args.tlv) c.read_null.result c.read_null.ensures.exact

pub returns-clause-faulty : goal.returns-clause-faulty
returns-clause-faulty c = body_faulty null null_at reads_null (λ x. x) (element c.args.tlv) c.read_null.result c.read_null.ensures.exact
