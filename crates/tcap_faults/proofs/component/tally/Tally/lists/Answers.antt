use Rattle.std.proofs.Common.{false, to_z-of_z, ap, ◌∙◌}
use Rattle.tcap_parts.specs.Meaning.{code_of}
use Rattle.tcap_end.specs.Component.{links}
use Rattle.tcap_faults.specs.TallyMeaning.{invokes_in, of_kept}
use Rattle.tcap_faults.proofs.component.tally.Tally.lists.Goals as goal

pub returns-in-Some : goal.returns-in-Some
returns-in-Some c =
    c.links_as.ensures
    ∙ ap (of_kept false (invokes_in (λ to. links c.args.table.now to (code_of c.args.code))))
    (rw (to_z-of_z c.ranges.id) at c.in-Some.ensures)

pub returns-in-None : goal.returns-in-None
returns-in-None c =
    ap (of_kept false (invokes_in (λ to. links c.args.table.now to (code_of c.args.code))))
    (rw (to_z-of_z c.ranges.id) at c.in-None.ensures)
