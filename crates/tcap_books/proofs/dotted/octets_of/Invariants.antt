use Rattle.std.proofs.Common.{◌≡◌, ◌++◌, drop}
use Rattle.std.specs.List.{flat_map}
use Rattle.tcap_books.specs.DottedContext.{spelled}
use Rattle.tcap_books.proofs.dotted.octets_of.Given as goal

-- the octets so far, and those of the remaining numbers
abbrev pub invariant-loop-number : goal.invariant-loop-number
invariant-loop-number l = record {
  left : l.octets.items ++ flat_map spelled (drop l.number-index l.more) ≡ l.initial.octets.items ++ flat_map spelled l.more;
}
