use Rattle.tcap_dialogues.proofs.CutEnds.{are_whole}
use Rattle.tcap_dialogues.proofs.laws.dialogues_are_whole.Goals as goal

pub returns : goal.returns
returns c = are_whole
