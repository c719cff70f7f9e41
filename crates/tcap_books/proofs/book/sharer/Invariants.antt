use Rattle.std.proofs.Common.{◌≡◌, drop}
use Rattle.tcap_books.specs.Book.{sharer}
use Rattle.tcap_books.proofs.book.sharer.Given as goal

-- the result is that of the remaining tables
abbrev pub invariant-loop-place : goal.invariant-loop-place
invariant-loop-place l = record {
  left : sharer l.table l.first l.place (drop l.place l.tables) ≡ sharer l.table l.first 0 l.tables;
}
