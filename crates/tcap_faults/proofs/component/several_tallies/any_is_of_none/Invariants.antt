-- The codes that are left decide.
use Rattle.std.proofs.Common.{◌≡◌, drop, map}
use Rattle.std.specs.List.{list_any}
use Rattle.tcap_faults.specs.LinkProblems.{is_of_none}
use Rattle.tcap_faults.specs.TallyMeaning.{tallies_of}
use Rattle.tcap_faults.proofs.component.several_tallies.any_is_of_none.Given as goal

abbrev pub invariant-loop-code : goal.invariant-loop-code
invariant-loop-code l =
    list_any (is_of_none (tallies_of (map (λ b. b.now) l.invoked)) l.id) (drop l.code-index l.codes)
    ≡ list_any (is_of_none (tallies_of (map (λ b. b.now) l.invoked)) l.id) l.codes
