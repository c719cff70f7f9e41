use Rattle.std.proofs.Common.{◌≡◌, drop}
use Rattle.tcap_books.specs.Book.{clash_from}
use Rattle.tcap_books.proofs.book.Book.clash.Given as goal

-- the result is that of the remaining tables
abbrev pub invariant-loop-first : goal.invariant-loop-first
invariant-loop-first l = record {
  left : clash_from l.tables l.first (drop l.first l.tables) ≡ clash_from l.tables 0 l.tables;
}
