-- The last blame so far and the rest decide.
use Rattle.std.proofs.Common.{◌≡◌, None, drop}
use Rattle.tcap_traces.specs.Reaction.{last_blame}
use Rattle.tcap_traces.proofs.reaction.last_blame.Given as goal

abbrev pub invariant-loop-one : goal.invariant-loop-one
invariant-loop-one l = last_blame l.last (drop l.one-index l.results) ≡ last_blame None l.results
