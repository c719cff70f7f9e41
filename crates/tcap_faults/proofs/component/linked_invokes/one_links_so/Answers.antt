use Rattle.std.proofs.Common.{map, to_z-of_z, refl, sym, ◌∙◌}
use Rattle.tcap_faults.specs.LinkProblems.{names_so}
use Rattle.tcap_faults.specs.TallyMeaning.{tallies_of, tally_of}
use Rattle.tcap_faults.proofs.component_laws.SeveralTalliesLaws.{found_next}
use Rattle.tcap_faults.proofs.component.linked_invokes.one_links_so.Goals as goal

pub returns-then-links_where : goal.returns-then-links_where
returns-then-links_where c =
    found_next
    (λ ts. (tallies_of (map (λ b. b.now) ts)).has_link c.args.id
    (names_so c.args.table.now (tallies_of (map (λ b. b.now) c.args.invoked.now)) c.args.problem))
    (λ t. (tally_of t).has_link c.args.id
    (names_so c.args.table.now (tallies_of (map (λ b. b.now) c.args.invoked.now)) c.args.problem))
    c.loop-tally.tally-index c.args.incoming.now c.tally-item.result (λ t more. refl) c.loop-tally-test.true
    c.tally-item.is (rw (to_z-of_z c.ranges.id) at (sym c.links_where.ensures ∙ c.if-links_where.true))
    (rw (to_z-of_z c.ranges.id) at c.loop-tally.invariant)
