use Rattle.std.proofs.Common.{sym, subst}
use Rattle.tcap_c.specs.InMemory.{AreRight}
use Rattle.tcap_c.proofs.InMemoryLaws.{blamed_right}
use Rattle.tcap_judge.proofs.VerdictLaws.{rightly}
use Rattle.std.specs.Prelude.{None}
use Rattle.tcap_c.proofs.tcapjudge_blame.Goals as goal

pub returns-clause-right : goal.returns-clause-right
returns-clause-right c =
    subst (AreRight c.args.octets.now c.args.table.now) (sym c.put.ensures.given)
    (blamed_right (rightly c.refuted_is_at_fault.ensures c.blamed_is_at_fault.ensures None) c.args.octets.now
    c.args.table.now c.blamed.result.outcome c.blamed.result.ends c.blamed.ensures)
