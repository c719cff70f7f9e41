use Rattle.tcap_search.proofs.StretchLaws.{IsBefore, IsSegment}
use Rattle.tcap_search.proofs.searching.found_in.Given as goal

-- The certificate is that before the present segment.
abbrev pub invariant-loop-number : goal.invariant-loop-number
invariant-loop-number l = record {
  so : IsSegment l.entries l.first l.number;
  found : IsBefore l.judged l.entries l.first l.found;
}
