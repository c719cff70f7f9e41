use Rattle.tcap_dialogues.proofs.CutEnds.{share_nothing}
use Rattle.tcap_dialogues.proofs.laws.dialogues_share_nothing.Goals as goal

pub returns : goal.returns
returns c = share_nothing
