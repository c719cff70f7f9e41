use Rattle.std.proofs.Common.{false, to_z-of_z, sym, ap, ◌∙◌}
use Rattle.tcap_faults.specs.LinkProblems.{links_as}
use Rattle.tcap_faults.specs.TallyMeaning.{invokes_in, of_kept}
use Rattle.tcap_faults.proofs.component.tally.Tally.has_operation_at.Goals as goal

pub returns-in-Some : goal.returns-in-Some
returns-in-Some c =
    λ so. sym (ap (of_kept false (invokes_in (links_as c.args.table.now c.args.linkable)))
    (rw (to_z-of_z c.ranges.id) at c.in-Some.ensures))
    ∙ c.links_as_at.ensures so
