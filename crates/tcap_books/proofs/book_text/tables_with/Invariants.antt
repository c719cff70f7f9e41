use Rattle.std.proofs.Common.{◌≡◌, ◌≤◌, [], drop}
use Rattle.serde_json.specs.Data.{items_depth}
use Rattle.serde_json.specs.Read.{max_depth}
use Rattle.serde_json.specs.View.{items_view}
use Rattle.tcap_books.specs.BookText.{tables_with}
use Rattle.tcap_books.proofs.book_text.tables_with.Given as goal

-- the tables so far, and those of the remaining items
abbrev pub invariant-loop-place : goal.invariant-loop-place
invariant-loop-place l = record {
  found : tables_with l.place l.book (items_view (drop l.place l.items)) ≡ tables_with 0 [] (items_view l.items);
  nests : items_depth (items_view (drop l.place l.items)) ≤ max_depth;
}
