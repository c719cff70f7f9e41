use Rattle.tcap_parts.proofs.WritingLaws.{around_written}
use Rattle.tcap_parts.proofs.dialogue_writing.write_dialogue.Goals as goal

pub returns-clause-ok : goal.returns-clause-ok
returns-clause-ok g c =
    around_written 0x28 _ _ _ _ _ c.write_external_content.result c.in-Some.ensures.exact c.in_ok-put_header.ensures.ok c.write_external_content.ensures.ok
