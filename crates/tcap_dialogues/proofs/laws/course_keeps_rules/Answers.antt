use Rattle.tcap_dialogues.proofs.CourseEnds.{course_keeps}
use Rattle.tcap_dialogues.proofs.laws.course_keeps_rules.Goals as goal

pub returns : goal.returns
returns c = course_keeps
