use Rattle.tcap_parts.proofs.WritingLaws.{joined_written, taken_written}
use Rattle.tcap_parts.proofs.writing.write_coded.Goals as goal

pub returns-in-Some-clause-ok : goal.returns-in-Some-clause-ok
returns-in-Some-clause-ok g c =
    rw c.in-Some.is (joined_written _ _ _ _ _ c.write_all.result c.in_ok-write_code.ensures.ok (taken_written _ _ _ _ c.write_all.ensures.takes))
