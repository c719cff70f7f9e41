use Rattle.std.proofs.Common.{map, to_z-of_z, refl}
use Rattle.tcap_faults.specs.LinkProblems.{links_as}
use Rattle.tcap_faults.specs.TallyMeaning.{tallies_of, tally_of}
use Rattle.tcap_faults.proofs.component_laws.SeveralTalliesLaws.{found_one}
use Rattle.tcap_faults.proofs.component.linked_invokes.has_operation_at.Goals as goal

pub returns-then-has_operation_at : goal.returns-then-has_operation_at
returns-then-has_operation_at c =
    λ so. found_one
    (λ ts. (tallies_of (map (λ b. b.now) ts)).has_operation c.args.id (links_as c.args.table.now c.args.linkable))
    (λ t. (tally_of t).has_operation c.args.id (links_as c.args.table.now c.args.linkable))
    c.loop-tally.tally-index c.args.tallies.now c.tally-item.result (λ t more. refl) c.loop-tally-test.true
    c.tally-item.is (rw (to_z-of_z c.ranges.id) at (c.has_operation_at.ensures c.if-has_operation_at.true))
