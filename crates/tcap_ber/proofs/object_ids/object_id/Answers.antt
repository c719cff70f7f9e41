use Rattle.tcap_ber.specs.ObjectId.{object_id}
use Rattle.tcap_ber.specs.Reading.{element, object_id_at}
use Rattle.tcap_ber.proofs.ObjectIdLaws.{reads_object_id}
use Rattle.tcap_ber.proofs.ResultLaws.{body_found, body_only, body_faulty}
use Rattle.tcap_ber.proofs.object_ids.object_id.Goals as goal

pub returns-clause-found : goal.returns-clause-found
returns-clause-found c = body_found object_id object_id_at reads_object_id (λ id. id.octets.now) (element c.args.tlv) c.read_object_id.result c.read_object_id.ensures.exact

pub returns-clause-only : goal.returns-clause-only
returns-clause-only c = body_only object_id object_id_at reads_object_id (λ id. id.octets.now) (element c.args.tlv) c.read_object_id.result c.read_object_id.ensures.exact

pub returns-clause-faulty : goal.returns-clause-faulty
returns-clause-faulty c = body_faulty object_id object_id_at reads_object_id (λ id. id.octets.now) (element c.args.tlv) c.read_object_id.result c.read_object_id.ensures.exact
