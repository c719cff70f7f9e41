use Rattle.tcap_model.proofs.UsedLaws.{ids_used}
use Rattle.tcap_model.proofs.laws.sent_ids_are_used.Goals as goal

pub returns : goal.returns
returns c = ids_used
