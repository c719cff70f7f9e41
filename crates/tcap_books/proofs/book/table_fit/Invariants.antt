use Rattle.std.proofs.Common.{◌≡◌, None, drop}
use Rattle.tcap_books.specs.Book.{best_fit}
use Rattle.tcap_books.proofs.book.table_fit.Given as goal

-- the result is the best fit so far, or a better one of the remaining contexts
abbrev pub invariant-loop-context : goal.invariant-loop-context
invariant-loop-context l = record {
  left : best_fit l.asked l.best (drop l.context-index l.context-items) ≡ best_fit l.asked None l.context-items;
}
