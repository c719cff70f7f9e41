use Rattle.std.proofs.Common.{◌≡◌, [], drop}
use Rattle.serde_json.specs.View.{items_view}
use Rattle.tcap_books.specs.BookText.{names_with}
use Rattle.tcap_books.proofs.book_text.names_with.Given as goal

-- the names so far, and those of the remaining rows
abbrev pub invariant-loop-row : goal.invariant-loop-row
invariant-loop-row l = record {
  found : names_with l.table l.row l.names (items_view (drop l.row l.rows)) ≡ names_with l.table 0 [] (items_view l.rows);
}
