-- Which result is that of a given end.
use Rattle.tcap_record.specs.declared.entry.End.{End as Side}
use Rattle.tcap_record.specs.declared.entry.End.TheVariants as sides
use Rattle.tcap_traces.specs.declared.end_result.EndResult.{EndResult}
use Rattle.tcap_traces.specs.declared.judging.Ends.{Ends}

-- the result for an end
abbrev pub result_at : Side → Ends → EndResult
result_at sides.A ends = ends.a
result_at sides.B ends = ends.b
