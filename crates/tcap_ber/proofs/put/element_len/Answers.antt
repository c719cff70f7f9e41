use Rattle.std.proofs.Common.{sym, arith}
use Rattle.tcap_ber.proofs.PutLaws.{around_len}
use Rattle.tcap_ber.proofs.put.element_len.Goals as goal

pub returns-clause-exact : goal.returns-clause-exact
returns-clause-exact c =
    λ tag content is_len. sym (around_len tag content c.args.content_len c.header_len.result is_len (omega arith) (c.header_len.ensures.exact tag))
