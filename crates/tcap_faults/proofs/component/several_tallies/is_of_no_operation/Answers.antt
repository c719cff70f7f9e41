use Rattle.std.proofs.Common.{map, to_z-of_z, refl, sym, ◌∙◌}
use Rattle.tcap_faults.specs.LinkProblems.{is_of_none}
use Rattle.tcap_faults.specs.TallyMeaning.{tallies_of, tally_of}
use Rattle.tcap_faults.proofs.component_laws.SeveralTalliesLaws.{found_next}
use Rattle.tcap_faults.proofs.component.several_tallies.is_of_no_operation.Goals as goal

pub returns-then-answers_none : goal.returns-then-answers_none
returns-then-answers_none c =
    found_next
    (λ ts. (tallies_of (map (λ b. b.now) ts)).has_result c.args.id
    (is_of_none (tallies_of (map (λ b. b.now) c.args.invoked.now)) c.args.id))
    (λ t. (tally_of t).has_result c.args.id
    (is_of_none (tallies_of (map (λ b. b.now) c.args.invoked.now)) c.args.id))
    c.loop-tally.tally-index c.args.incoming.now c.tally-item.result (λ t more. refl) c.loop-tally-test.true
    c.tally-item.is (rw (to_z-of_z c.ranges.id) at (sym c.answers_none.ensures ∙ c.if-answers_none.true))
    (rw (to_z-of_z c.ranges.id) at c.loop-tally.invariant)
