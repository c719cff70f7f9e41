use Rattle.tcap_parts.proofs.WritingLaws.{around_written}
use Rattle.tcap_msg.proofs.encode_message.write_dialogue_portion.Goals as goal

pub returns-clause-ok : goal.returns-clause-ok
returns-clause-ok g c =
    rw c.in-Some.is (around_written 0x6B _ _ _ _ _ c.write_dialogue.result c.in-Some-len_dialogue.ensures.exact c.in_ok-put_header.ensures.ok c.write_dialogue.ensures.ok)
