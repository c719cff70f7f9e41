-- The line of each thing so far is appended.
use Rattle.tcap_evidence.proofs.Common.{◌≡◌, ◌++◌, map, take, flat_map, string_bytes, ground_line}
use Rattle.tcap_evidence.proofs.evidence_lines.push_grounds.Given as goal

abbrev pub invariant-loop-ground : goal.invariant-loop-ground
invariant-loop-ground l = string_bytes l.text
    ≡ string_bytes l.fn.text
    ++ flat_map (ground_line l.end l.id) (map (λ g. (g.fact, g.entries.items)) (take l.ground-index l.grounds))
