use Rattle.std.proofs.Common.{false, map, to_z-of_z, ap, ◌∙◌}
use Rattle.tcap_faults.specs.LinkProblems.{names_so}
use Rattle.tcap_faults.specs.TallyMeaning.{links_in, of_kept, tallies_of}
use Rattle.tcap_faults.proofs.component.linked_invokes.links_where.Goals as goal

pub returns-in-Some : goal.returns-in-Some
returns-in-Some c =
    c.any_has.ensures
    ∙ ap (of_kept false
    (links_in (names_so c.args.table.now (tallies_of (map (λ b. b.now) c.args.invoked.now)) c.args.problem)))
    (rw (to_z-of_z c.ranges.id) at c.in-Some.ensures)

pub returns-in-None : goal.returns-in-None
returns-in-None c =
    ap (of_kept false
    (links_in (names_so c.args.table.now (tallies_of (map (λ b. b.now) c.args.invoked.now)) c.args.problem)))
    (rw (to_z-of_z c.ranges.id) at c.in-None.ensures)
