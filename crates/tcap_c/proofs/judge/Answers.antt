use Rattle.std.proofs.Common.{sym, subst}
use Rattle.tcap_c.specs.InMemory.{IsRight}
use Rattle.tcap_c.proofs.InMemoryLaws.{judged_right}
use Rattle.tcap_judge.proofs.VerdictLaws.{rightly}
use Rattle.tcap_c.proofs.judge.Goals as goal

pub returns-clause-right : goal.returns-clause-right
returns-clause-right c =
    subst (IsRight c.args.who c.args.octets.now c.args.table.now) (sym c.put.ensures.given)
    (judged_right c.args.who (rightly c.refuted_is_at_fault.ensures c.blamed_is_at_fault.ensures c.args.who)
    c.args.octets.now c.args.table.now c.judged.result c.judged.ensures)
