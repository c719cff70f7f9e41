use Rattle.tcap_ber.proofs.ObjectIdLaws.{object_id_iff}
use Rattle.tcap_ber.proofs.object_ids.is_object_id.Goals as goal

pub returns-clause-id : goal.returns-clause-id
returns-clause-id c = object_id_iff c.args.octets.now c.is_read_object_id.result c.is_read_object_id.ensures
