use Rattle.std.proofs.Common.{false, map, to_z-of_z, ap, ◌∙◌}
use Rattle.tcap_faults.specs.LinkProblems.{is_of_none}
use Rattle.tcap_faults.specs.TallyMeaning.{answers_in, of_kept, tallies_of}
use Rattle.tcap_faults.proofs.component.several_tallies.answers_none.Goals as goal

pub returns-in-Some : goal.returns-in-Some
returns-in-Some c =
    (rw (to_z-of_z c.ranges.id) at c.one_is_of_none.ensures)
    ∙ ap (of_kept false (answers_in (is_of_none (tallies_of (map (λ b. b.now) c.args.invoked.now)) c.args.id)))
    (rw (to_z-of_z c.ranges.id) at c.in-Some.ensures)

pub returns-in-None : goal.returns-in-None
returns-in-None c =
    ap (of_kept false (answers_in (is_of_none (tallies_of (map (λ b. b.now) c.args.invoked.now)) c.args.id)))
    (rw (to_z-of_z c.ranges.id) at c.in-None.ensures)
