use Rattle.tcap_model.proofs.RunLaws.{grows}
use Rattle.tcap_model.proofs.laws.sent_list_grows.Goals as goal

pub returns : goal.returns
returns c = grows
