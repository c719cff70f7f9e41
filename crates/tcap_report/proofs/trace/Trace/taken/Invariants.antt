-- The values at the numbers so far are taken out.
use Rattle.std.proofs.Common.{◌≡◌, take}
use Rattle.std.specs.BTreeMap as tree
use Rattle.std.specs.List.{filter_map}
use Rattle.std.specs.List.Sorted.{IsStrictlySortedBy}
use Rattle.std.specs.Ordering.{nat_cmp}
use Rattle.tcap_report.proofs.TakenLaws.{AreOut}
use Rattle.tcap_report.proofs.trace.Trace.taken.Given as goal

abbrev pub invariant-loop-number : goal.invariant-loop-number
invariant-loop-number l = record {
  those : IsStrictlySortedBy nat_cmp l.gathered.numbers.items
      → l.entries.items ≡ filter_map (tree.get nat_cmp l.fn.self.held) (take l.number-index l.gathered.numbers.items);
  others : AreOut (take l.number-index l.gathered.numbers.items) l.fn.self.held l.self.held;
  rest : l.self ≡ record l.fn.self { held = l.self.held };
}
