-- Each blame so far is of a wrong entry, so the rest decides.
use Rattle.std.proofs.Common.{◌≡◌, drop}
use Rattle.std.specs.List.{list_all}
use Rattle.tcap_traces.specs.Reaction.{is_wrong}
use Rattle.tcap_traces.proofs.reaction.are_wrong.Given as goal

abbrev pub invariant-loop-one : goal.invariant-loop-one
invariant-loop-one l =
    list_all (is_wrong l.malformed l.entries) (drop l.one-index l.results)
    ≡ list_all (is_wrong l.malformed l.entries) l.results
