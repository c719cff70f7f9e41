-- The linked IDs that are left decide.
use Rattle.std.proofs.Common.{◌≡◌, map}
use Rattle.std.specs.List.{list_any}
use Rattle.tcap_faults.specs.LinkProblems.{names_so}
use Rattle.tcap_faults.specs.TallyMeaning.{links_at, tallies_of}
use Rattle.tcap_faults.proofs.component.linked_invokes.any_has.Given as goal

abbrev pub invariant-loop-linked : goal.invariant-loop-linked
invariant-loop-linked l =
    list_any (links_at (names_so l.table (tallies_of (map (λ b. b.now) l.invoked)) l.problem)) l.linked-iterator
    ≡ list_any (links_at (names_so l.table (tallies_of (map (λ b. b.now) l.invoked)) l.problem)) l.by_link.entries
