use Rattle.std.proofs.Common.{[], ◌∷◌}
use Rattle.tcap_parts.proofs.WritingLaws.{both_written, joined_written}
use Rattle.tcap_parts.proofs.DialogueWritingLaws.{put_written}
use Rattle.tcap_parts.proofs.dialogue_writing.write_pdu_content.Goals as goal

pub returns-in_ok-write_diagnostic-in-Response-clause-ok : goal.returns-in_ok-write_diagnostic-in-Response-clause-ok
returns-in_ok-write_diagnostic-in-Response-clause-ok g c =
    let two = both_written _ _ _ _ _ c.in_ok-write_version-in-Response.ensures.ok c.in_ok-write_context-in-Response.ensures.ok in
    let three = both_written _ _ _ _ _ two c.in_ok-write_number-in-Response.ensures.ok in
    let four = both_written _ _ _ _ _ three c.in_ok-write_diagnostic-in-Response.ensures.ok in
    rw c.in-Response.is (joined_written _ _ _ _ _ c.write_info.result four c.write_info.ensures.ok)

pub returns-in_ok-put_element-in-Abort-clause-ok : goal.returns-in_ok-put_element-in-Abort-clause-ok
returns-in_ok-put_element-in-Abort-clause-ok g c =
    let front = put_written 0x80 (c.in-Abort.source.number ∷ []) _ _ c.in_ok-put_element-in-Abort.ensures.ok in
    rw c.in-Abort.is (joined_written _ _ _ _ _ c.write_info-in-Abort.result front c.write_info-in-Abort.ensures.ok)
