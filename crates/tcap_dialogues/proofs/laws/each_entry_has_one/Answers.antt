use Rattle.tcap_dialogues.proofs.CourseEnds.{entry_has_one}
use Rattle.tcap_dialogues.proofs.laws.each_entry_has_one.Goals as goal

pub returns : goal.returns
returns c = entry_has_one
