use Rattle.tcap_parts.proofs.WritingLaws.{around_written}
use Rattle.tcap_parts.proofs.dialogue_writing.write_pdu.Goals as goal

pub returns-clause-ok : goal.returns-clause-ok
returns-clause-ok g c =
    around_written _ _ _ _ _ _ c.write_pdu_content.result c.in-Some.ensures.exact (rw c.tag.ensures at c.in_ok-put_header.ensures.ok) c.write_pdu_content.ensures.ok
