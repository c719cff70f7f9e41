use Rattle.std.proofs.Common.{rules}
use Rattle.tcap_parts.specs.Canonical.{canonical_integer}
use Rattle.tcap_parts.proofs.WritingLaws.{both_written, joined_written}
use Rattle.tcap_parts.proofs.writing.write_content.Goals as goal

pub returns-in_ok-write_linked-in-Invoke-clause-ok : goal.returns-in_ok-write_linked-in-Invoke-clause-ok
returns-in_ok-write_linked-in-Invoke-clause-ok g c =
    let front = both_written (canonical_integer 0x02 c.in-Invoke.id) _ (g.W.Write.taken c.args.writer.now) (g.W.Write.taken c.write_id.new.writer) _ (search rules) c.in_ok-write_linked-in-Invoke.ensures.ok in
    rw c.in-Invoke.is (joined_written _ _ _ _ _ c.write_coded.result front c.write_coded.ensures.ok)

pub returns-in_ok-write_id-in-ReturnResult-clause-ok : goal.returns-in_ok-write_id-in-ReturnResult-clause-ok
returns-in_ok-write_id-in-ReturnResult-clause-ok g c =
    rw c.in-ReturnResult.is (joined_written (canonical_integer 0x02 c.in-ReturnResult.id) _ _ _ _ c.write_body.result (search rules) c.write_body.ensures.ok)

pub returns-in_ok-write_id-in-ReturnError-clause-ok : goal.returns-in_ok-write_id-in-ReturnError-clause-ok
returns-in_ok-write_id-in-ReturnError-clause-ok g c =
    rw c.in-ReturnError.is (joined_written (canonical_integer 0x02 c.in-ReturnError.id) _ _ _ _ c.write_coded-in-ReturnError.result (search rules) c.write_coded-in-ReturnError.ensures.ok)

pub returns-in_ok-write_rejected-in-Reject-clause-ok : goal.returns-in_ok-write_rejected-in-Reject-clause-ok
returns-in_ok-write_rejected-in-Reject-clause-ok g c =
    rw c.in-Reject.is (joined_written _ _ _ _ _ c.write_problem.result c.in_ok-write_rejected-in-Reject.ensures.ok c.write_problem.ensures.ok)
