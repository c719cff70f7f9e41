-- The tallies that are left decide.
use Rattle.std.proofs.Common.{◌≡◌, drop, map}
use Rattle.tcap_faults.specs.LinkProblems.{is_of_none}
use Rattle.tcap_faults.specs.TallyMeaning.{tallies_of}
use Rattle.tcap_faults.proofs.component.several_tallies.is_of_no_operation.Given as goal

abbrev pub invariant-loop-tally : goal.invariant-loop-tally
invariant-loop-tally l =
    (tallies_of (map (λ b. b.now) (drop l.tally-index l.incoming))).has_result l.id
    (is_of_none (tallies_of (map (λ b. b.now) l.invoked)) l.id)
    ≡ (tallies_of (map (λ b. b.now) l.incoming)).has_result l.id
    (is_of_none (tallies_of (map (λ b. b.now) l.invoked)) l.id)
