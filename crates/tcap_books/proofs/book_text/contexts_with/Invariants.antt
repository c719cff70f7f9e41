use Rattle.std.proofs.Common.{◌≡◌, [], drop}
use Rattle.serde_json.specs.View.{items_view}
use Rattle.tcap_books.specs.BookText.{contexts_with}
use Rattle.tcap_books.proofs.book_text.contexts_with.Given as goal

-- the contexts so far, and those of the remaining items
abbrev pub invariant-loop-item : goal.invariant-loop-item
invariant-loop-item l = record {
  found : contexts_with l.found.items (items_view (drop l.item-index l.items)) ≡ contexts_with [] (items_view l.items);
}
