-- The tallies that are left decide.
use Rattle.std.proofs.Common.{◌≡◌, drop, map}
use Rattle.tcap_faults.specs.LinkProblems.{links_as}
use Rattle.tcap_faults.specs.TallyMeaning.{tallies_of}
use Rattle.tcap_faults.proofs.component.linked_invokes.has_operation.Given as goal

abbrev pub invariant-loop-tally : goal.invariant-loop-tally
invariant-loop-tally l =
    (tallies_of (map (λ b. b.now) (drop l.tally-index l.tallies))).has_operation l.id (links_as l.table l.linkable)
    ≡ (tallies_of (map (λ b. b.now) l.tallies)).has_operation l.id (links_as l.table l.linkable)
