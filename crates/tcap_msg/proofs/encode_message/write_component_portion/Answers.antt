use Rattle.tcap_parts.proofs.WritingLaws.{around_written}
use Rattle.tcap_msg.proofs.encode_message.write_component_portion.Goals as goal

pub returns-clause-ok : goal.returns-clause-ok
returns-clause-ok g c =
    rw c.in-Some.is (around_written 0x6C _ _ _ _ _ c.write_components.result c.in-Some-len_components.ensures c.in_ok-put_header.ensures.ok c.write_components.ensures.ok)
