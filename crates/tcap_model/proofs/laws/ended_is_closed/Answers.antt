use Rattle.tcap_model.proofs.UsedLaws.{ended_closed}
use Rattle.tcap_model.proofs.laws.ended_is_closed.Goals as goal

pub returns : goal.returns
returns c = ended_closed
