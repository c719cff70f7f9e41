use Rattle.std.proofs.Common.{SFits, rules, to_z-of_z, w8}
use Rattle.tcap_faults.specs.KindsByCounts.{counted, is_busy_by}
use Rattle.tcap_faults.proofs.component_laws.CountTests.{seen_before, seen_not}
use Rattle.tcap_faults.proofs.component.preceding_components.PrecedingComponents.invokes_busy.Goals as goal

pub returns-then-count-gt0 : goal.returns-then-count-gt0
returns-then-count-gt0 c =
    let fits : SFits w8 c.in-Invoke.id = search rules in
    rw c.in-Invoke.is (seen_before c.count.result _ (is_busy_by (counted c.args.self.now) c.in-Invoke.id)
    (rw (to_z-of_z fits) at c.count.ensures) c.if-count-gt0.true)

pub returns-else-count-gt0 : goal.returns-else-count-gt0
returns-else-count-gt0 c =
    let fits : SFits w8 c.in-Invoke.id = search rules in
    rw c.in-Invoke.is (seen_not c.count.result _ c.is_busy.result _
    (rw (to_z-of_z fits) at c.count.ensures) c.if-count-gt0.false (rw (to_z-of_z fits) at c.is_busy.ensures))
