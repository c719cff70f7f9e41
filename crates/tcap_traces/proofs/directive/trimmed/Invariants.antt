use Rattle.std.proofs.Common.{◌≡◌, length, reverse}
use Rattle.tcap_traces.specs.Directive.{after_blanks}
use Rattle.tcap_traces.proofs.directive.trimmed.Given as goal

abbrev pub invariant-loop-rest : goal.invariant-loop-rest
invariant-loop-rest l = after_blanks l.rest ≡ after_blanks l.octets

abbrev pub decreases-loop-rest : goal.decreases-loop-rest
decreases-loop-rest l = length l.rest

-- The front has no blanks, so blanks are dropped only at the end.
abbrev pub invariant-loop-rest-2 : goal.invariant-loop-rest-2
invariant-loop-rest-2 l = after_blanks (reverse l.rest) ≡ after_blanks (reverse (after_blanks l.octets))

abbrev pub decreases-loop-rest-2 : goal.decreases-loop-rest-2
decreases-loop-rest-2 l = length l.rest
