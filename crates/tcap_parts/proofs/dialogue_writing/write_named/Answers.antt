use Rattle.tcap_parts.proofs.WritingLaws.{both_written, joined_written}
use Rattle.tcap_parts.proofs.dialogue_writing.write_named.Goals as goal

pub returns-clause-ok : goal.returns-clause-ok
returns-clause-ok g c =
    let front = both_written _ _ _ _ _ c.in_ok-write_version.ensures.ok c.in_ok-write_context.ensures.ok in
    joined_written _ _ _ _ _ c.write_info.result front c.write_info.ensures.ok
