-- Does a dialogue seem to continue one from before its segment?
use Rattle.std.specs.Prelude.{Bool, false, ◌&&◌, not, Option, Some, None, is_some}
use Rattle.tcap_dialogues.specs.Course.{Heading}
use Rattle.tcap_dialogues.specs.declared.complete_dialogue.CompleteDialogue.{CompleteDialogue}
use Rattle.tcap_traces.specs.declared.before_marks.BeforeMarks.{BeforeMarks}
use Rattle.tcap_traces.specs.IdsBeforeMarks.{is_in_use}

-- Whether a gathered dialogue seems to continue one from before the quiet mark before its segment, given the heading of
-- its first entry. It does not if an earlier dialogue of the segment had one of its IDs.
abbrev pub is_in_use_by : BeforeMarks → CompleteDialogue → Option Heading → Bool
is_in_use_by marks g None = false
is_in_use_by marks g (Some first) = not (is_some g.earlier) && is_in_use marks first g
