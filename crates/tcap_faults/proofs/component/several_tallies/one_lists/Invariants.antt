-- The tallies that are left decide.
use Rattle.std.proofs.Common.{◌≡◌, drop, map}
use Rattle.tcap_parts.specs.Meaning.{code_of}
use Rattle.tcap_end.specs.Component.{links}
use Rattle.tcap_faults.specs.TallyMeaning.{tallies_of}
use Rattle.tcap_faults.proofs.component.several_tallies.one_lists.Given as goal

abbrev pub invariant-loop-tally : goal.invariant-loop-tally
invariant-loop-tally l =
    (tallies_of (map (λ b. b.now) (drop l.tally-index l.tallies))).has_operation l.id
    (λ to. links l.table to (code_of l.code))
    ≡ (tallies_of (map (λ b. b.now) l.tallies)).has_operation l.id
    (λ to. links l.table to (code_of l.code))
