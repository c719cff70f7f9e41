use Rattle.std.proofs.Common.{arith, to_z-of_z, ap, ◌∙◌}
use Rattle.tcap_faults.specs.InvokeCounts.{sum}
use Rattle.tcap_faults.proofs.component_laws.CountTests.{link_fine}
use Rattle.tcap_faults.proofs.component.preceding_components.PrecedingComponents.is_invoke_reject_wrong.Goals as goal

pub returns-else-incoming-more : goal.returns-else-incoming-more
returns-else-incoming-more c =
    let same = to_z-of_z c.ranges.id in
    link_fine c.args.problem c.incoming-in-5-to-7.result _ c.more-in-5-to-7.result _ _ c.is_link_fine.result _
    (omega (arith, c.in-5-to-7)) (omega (arith, c.in-5-to-7)) (rw same at c.incoming-in-5-to-7.ensures)
    (c.more-in-5-to-7.ensures ∙ ap (λ n. sum n 1) (rw same at c.outgoing-in-5-to-7.ensures))
    c.if-incoming-more.false (rw same at c.is_link_fine.ensures)
