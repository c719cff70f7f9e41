use Rattle.std.proofs.Common.{rules}
use Rattle.tcap_ber.proofs.PutLaws.{join_len}
use Rattle.tcap_parts.specs.Canonical.{canonical_integer, canonical_linked}
use Rattle.tcap_parts.proofs.WritingLaws.{joined_len}
use Rattle.tcap_parts.proofs.writing.len_content.Goals as goal

pub returns-in_ok-len_coded-in-Invoke : goal.returns-in_ok-len_coded-in-Invoke
returns-in_ok-len_coded-in-Invoke c =
    let front = join_len (canonical_integer 0x02 c.in-Invoke.id) (canonical_linked c.in-Invoke.linked) _ _ (search rules) c.len_linked.ensures.exact in
    rw c.in-Invoke.is (record { exact = joined_len _ _ _ _ front c.in_ok-len_coded-in-Invoke.ensures.exact })

pub returns-in_ok-len_body-in-ReturnResult : goal.returns-in_ok-len_body-in-ReturnResult
returns-in_ok-len_body-in-ReturnResult c =
    rw c.in-ReturnResult.is (record { exact = joined_len (canonical_integer 0x02 c.in-ReturnResult.id) _ _ _ (search rules) c.in_ok-len_body-in-ReturnResult.ensures.exact })

pub returns-in_ok-len_coded-in-ReturnError : goal.returns-in_ok-len_coded-in-ReturnError
returns-in_ok-len_coded-in-ReturnError c =
    rw c.in-ReturnError.is (record { exact = joined_len (canonical_integer 0x02 c.in-ReturnError.id) _ _ _ (search rules) c.in_ok-len_coded-in-ReturnError.ensures.exact })
