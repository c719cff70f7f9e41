-- The lines so far and those of the remaining invocations are all.
use Rattle.tcap_evidence.proofs.Common.{◌≡◌, ◌++◌, drop, flat_map, string_bytes, invocation_line}
use Rattle.tcap_evidence.proofs.operation_lines.push_first.Given as goal

abbrev pub invariant-loop-invocation : goal.invariant-loop-invocation
invariant-loop-invocation l =
    string_bytes l.text ++ flat_map (invocation_line l.table l.id) (drop l.invocation-index l.invocations)
    ≡ string_bytes l.fn.text ++ flat_map (invocation_line l.table l.id) l.invocations
