use Rattle.std.proofs.Common.{map, to_z-of_z, refl, sym, ◌∙◌}
use Rattle.tcap_parts.specs.Meaning.{code_of}
use Rattle.tcap_end.specs.Component.{links}
use Rattle.tcap_faults.specs.TallyMeaning.{tallies_of, tally_of}
use Rattle.tcap_faults.proofs.component_laws.SeveralTalliesLaws.{found_next}
use Rattle.tcap_faults.proofs.component.several_tallies.one_lists.Goals as goal

pub returns-then-lists : goal.returns-then-lists
returns-then-lists c =
    found_next
    (λ ts. (tallies_of (map (λ b. b.now) ts)).has_operation c.args.id
    (λ to. links c.args.table.now to (code_of c.args.code)))
    (λ t. (tally_of t).has_operation c.args.id (λ to. links c.args.table.now to (code_of c.args.code)))
    c.loop-tally.tally-index c.args.tallies.now c.tally-item.result (λ t more. refl) c.loop-tally-test.true
    c.tally-item.is (rw (to_z-of_z c.ranges.id) at (sym c.lists.ensures ∙ c.if-lists.true))
    (rw (to_z-of_z c.ranges.id) at c.loop-tally.invariant)
