-- The results so far are those by the ways so far.
use Rattle.std.proofs.Common.{◌≡◌, ◌++◌, drop}
use Rattle.std.specs.Prelude.{filter_map}
use Rattle.tcap_traces.specs.Reaction.{result_by_way}
use Rattle.tcap_traces.proofs.reaction.results_by.Given as goal

abbrev pub invariant-loop-way : goal.invariant-loop-way
invariant-loop-way l =
    l.made.items ++ filter_map (result_by_way l.table l.circumstances l.end l.malformed l.entries) (drop l.way-index l.ways)
    ≡ filter_map (result_by_way l.table l.circumstances l.end l.malformed l.entries) l.ways
