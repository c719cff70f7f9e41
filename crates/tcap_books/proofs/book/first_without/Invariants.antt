use Rattle.std.proofs.Common.{◌≡◌, drop}
use Rattle.tcap_books.specs.Book.{first_without}
use Rattle.tcap_books.proofs.book.first_without.Given as goal

-- the result is that of the remaining tables
abbrev pub invariant-loop-table : goal.invariant-loop-table
invariant-loop-table l = record {
  left : first_without (drop l.table-index l.tables) ≡ first_without l.tables;
}
