use Rattle.std.proofs.Common.{None, Some}
use Rattle.tcap_record.specs.declared.entry.End.TheVariants as sides
use Rattle.tcap_search.proofs.StretchLaws.{IsBefore, IsSegment}
use Rattle.tcap_search.proofs.proposals.each_in.Given as goal

-- Each certificate is that before the present segment.
abbrev pub invariant-loop-number : goal.invariant-loop-number
invariant-loop-number l = record {
  so : IsSegment l.entries l.first l.number;
  both : IsBefore None l.entries l.first l.each.both;
  a : IsBefore (Some sides.A) l.entries l.first l.each.a;
  b : IsBefore (Some sides.B) l.entries l.first l.each.b;
}
