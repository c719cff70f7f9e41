use Rattle.std.proofs.Common.{◌≡◌, drop}
use Rattle.std.specs.List.{list_any}
use Rattle.std.specs.Str.{bytes_eq}
use Rattle.tcap_books.proofs.book.is_among.Given as goal

-- the result is that of the remaining contexts
abbrev pub invariant-loop-other : goal.invariant-loop-other
invariant-loop-other l = record {
  left : list_any (bytes_eq l.context) (drop l.other-index l.others) ≡ list_any (bytes_eq l.context) l.others;
}
