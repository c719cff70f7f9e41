use Rattle.std.proofs.Common.{false, to_z-of_z, sym, ap, ◌∙◌}
use Rattle.tcap_parts.specs.Meaning.{code_of}
use Rattle.tcap_end.specs.Component.{links}
use Rattle.tcap_faults.specs.TallyMeaning.{invokes_in, of_kept}
use Rattle.tcap_faults.proofs.component.tally.Tally.lists_again.Goals as goal

pub returns-in-Some : goal.returns-in-Some
returns-in-Some c =
    λ so. sym (ap (of_kept false (invokes_in (λ to. links c.args.table.now to (code_of c.args.code))))
    (rw (to_z-of_z c.ranges.id) at c.in-Some.ensures))
    ∙ c.links_as_at.ensures so
