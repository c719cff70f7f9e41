use Rattle.tcap_dialogues.proofs.AgainLaws.{shared_again}
use Rattle.tcap_dialogues.proofs.laws.again_is_shared.Goals as goal

pub returns : goal.returns
returns c = shared_again
