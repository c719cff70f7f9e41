-- The codes that are left decide.
use Rattle.std.proofs.Common.{◌≡◌, drop, map}
use Rattle.std.specs.List.{list_any}
use Rattle.tcap_faults.specs.LinkProblems.{names_other}
use Rattle.tcap_faults.specs.TallyMeaning.{tallies_of}
use Rattle.tcap_faults.proofs.component.linked_invokes.any_is_other.Given as goal

abbrev pub invariant-loop-place : goal.invariant-loop-place
invariant-loop-place l =
    list_any (names_other l.table (tallies_of (map (λ b. b.now) l.invoked)) l.id) (drop l.place l.codes)
    ≡ list_any (names_other l.table (tallies_of (map (λ b. b.now) l.invoked)) l.id) l.codes
