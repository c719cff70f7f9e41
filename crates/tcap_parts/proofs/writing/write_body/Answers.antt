use Rattle.tcap_parts.proofs.WritingLaws.{around_written}
use Rattle.tcap_parts.proofs.writing.write_body.Goals as goal

pub returns-clause-ok : goal.returns-clause-ok
returns-clause-ok g c =
    rw c.in-Some.is (around_written 0x30 _ _ _ _ _ c.write_coded.result c.in-Some-len_coded.ensures.exact c.in_ok-put_header.ensures.ok c.write_coded.ensures.ok)
