use Rattle.std.proofs.Common.{false, map, to_z-of_z, sym, ap, ◌∙◌}
use Rattle.tcap_faults.specs.LinkProblems.{names_so}
use Rattle.tcap_faults.specs.TallyMeaning.{links_in, of_kept, tallies_of}
use Rattle.tcap_faults.proofs.component.linked_invokes.links_so_again.Goals as goal

pub returns-in-Some : goal.returns-in-Some
returns-in-Some c =
    λ so. sym (ap (of_kept false
    (links_in (names_so c.args.table.now (tallies_of (map (λ b. b.now) c.args.invoked.now)) c.args.problem)))
    (rw (to_z-of_z c.ranges.id) at c.in-Some.ensures))
    ∙ c.found_has.ensures so
