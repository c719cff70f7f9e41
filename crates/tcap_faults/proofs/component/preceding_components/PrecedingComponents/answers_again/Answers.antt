use Rattle.std.proofs.Common.{SFits, rules, to_z-of_z, w8}
use Rattle.tcap_faults.proofs.component.preceding_components.PrecedingComponents.answers_again.Goals as goal

pub returns-else-is_overspent : goal.returns-else-is_overspent
returns-else-is_overspent c =
    let fits : SFits w8 c.in-ReturnResult.id = search rules in
    let fewer = rw (to_z-of_z fits) at c.is_overspent.ensures in
    rw (c.in-ReturnResult.is, ← fewer, c.if-is_overspent.false)
    (rw (to_z-of_z fits) at c.is_operation_overspent.ensures)

pub returns-in-ReturnError : goal.returns-in-ReturnError
returns-in-ReturnError c =
    let fits : SFits w8 c.in-ReturnError.id = search rules in
    rw c.in-ReturnError.is (rw (to_z-of_z fits) at c.is_overspent-in-ReturnError.ensures)
