use Rattle.tcap_dialogues.proofs.CutEnds.{has_its_one}
use Rattle.tcap_dialogues.proofs.laws.each_message_has_one.Goals as goal

pub returns : goal.returns
returns c = has_its_one
