-- Each number so far is appended.
use Rattle.tcap_evidence.proofs.Common.{◌≡◌, ◌++◌, take, flat_map, string_bytes}
use Rattle.tcap_evidence.specs.EvidenceWords.{number_after}
use Rattle.tcap_evidence.proofs.evidence_lines.push_numbers.Given as goal

abbrev pub invariant-loop-number : goal.invariant-loop-number
invariant-loop-number l = string_bytes l.text ≡ string_bytes l.fn.text ++ flat_map number_after (take l.number-index l.numbers)
