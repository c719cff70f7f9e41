-- The tallies that are left decide.
use Rattle.std.proofs.Common.{◌≡◌, drop, map}
use Rattle.tcap_faults.specs.LinkProblems.{names_so}
use Rattle.tcap_faults.specs.TallyMeaning.{tallies_of}
use Rattle.tcap_faults.proofs.component.linked_invokes.one_links_so.Given as goal

abbrev pub invariant-loop-tally : goal.invariant-loop-tally
invariant-loop-tally l =
    (tallies_of (map (λ b. b.now) (drop l.tally-index l.incoming))).has_link l.id
    (names_so l.table (tallies_of (map (λ b. b.now) l.invoked)) l.problem)
    ≡ (tallies_of (map (λ b. b.now) l.incoming)).has_link l.id
    (names_so l.table (tallies_of (map (λ b. b.now) l.invoked)) l.problem)
