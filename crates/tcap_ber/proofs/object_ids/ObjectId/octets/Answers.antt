use Rattle.std.proofs.Common.{◌∙◌, ap}
use Rattle.tcap_ber.specs.Reading.{is_object_id}
use Rattle.tcap_ber.proofs.ObjectIdLaws.{is_object_id_sound}
use Rattle.tcap_ber.proofs.object_ids.ObjectId.octets.Goals as goal

pub returns-clause-valid : goal.returns-clause-valid
returns-clause-valid c = is_object_id_sound c.as_slice.result.now (ap is_object_id c.as_slice.ensures.value ∙ c.self.invariant)
