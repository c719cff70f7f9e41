use Rattle.tcap_dialogues.proofs.CutEnds.{dialogue_keeps}
use Rattle.tcap_dialogues.proofs.laws.dialogue_keeps_rules.Goals as goal

pub returns : goal.returns
returns c = λ side items table. dialogue_keeps items side table
