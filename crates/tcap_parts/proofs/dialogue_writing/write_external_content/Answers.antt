use Rattle.tcap_parts.proofs.WritingLaws.{joined_written, around_written}
use Rattle.tcap_parts.proofs.DialogueWritingLaws.{name_written}
use Rattle.tcap_parts.proofs.dialogue_writing.write_external_content.Goals as goal

pub returns-clause-ok : goal.returns-clause-ok
returns-clause-ok g c =
    let front = name_written _ c.name.result _ _ c.name.ensures c.in_ok-put_element.ensures.ok in
    joined_written _ _ _ _ _ c.write_pdu.result front (around_written 0xA0 _ _ _ _ _ c.write_pdu.result c.in-Some.ensures.exact c.in_ok-put_header.ensures.ok c.write_pdu.ensures.ok)
