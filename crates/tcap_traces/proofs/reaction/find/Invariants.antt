-- No result so far is wanted, so the rest decides.
use Rattle.std.proofs.Common.{◌≡◌, drop}
use Rattle.std.specs.List.{find}
use Rattle.tcap_traces.specs.Reaction.{is_wanted}
use Rattle.tcap_traces.proofs.reaction.find.Given as goal

abbrev pub invariant-loop-one : goal.invariant-loop-one
invariant-loop-one l = find (is_wanted l.wanted) (drop l.one-index l.results) ≡ find (is_wanted l.wanted) l.results
