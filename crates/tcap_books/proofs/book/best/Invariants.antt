use Rattle.std.proofs.Common.{◌≡◌, None, drop}
use Rattle.std.specs.Option.{option_copied}
use Rattle.tcap_books.specs.Book.{best}
use Rattle.tcap_books.proofs.book.best.Given as goal

-- the result is the best so far, or a better one of the remaining tables
abbrev pub invariant-loop-table : goal.invariant-loop-table
invariant-loop-table l = record {
  left : best l.asked l.least (option_copied l.found) (drop l.table-index l.tables) ≡ best l.asked None None l.tables;
}
