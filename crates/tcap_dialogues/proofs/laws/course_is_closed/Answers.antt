use Rattle.tcap_dialogues.proofs.CourseEnds.{course_shares_nothing}
use Rattle.tcap_dialogues.proofs.laws.course_is_closed.Goals as goal

pub returns : goal.returns
returns c = course_shares_nothing
