use Rattle.tcap_model.proofs.WholeLaws.{lawful_together}
use Rattle.tcap_model.proofs.laws.blame_is_whole.Goals as goal

pub returns : goal.returns
returns c = lawful_together
