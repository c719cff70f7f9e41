use Rattle.std.proofs.Common.{◌≡◌, map, take}
use Rattle.serde_json.specs.View.{view}
use Rattle.tcap_books.specs.BookText.{bare_row}
use Rattle.tcap_books.proofs.bare.bare_items.Given as goal

-- the rows so far
abbrev pub invariant-loop-row : goal.invariant-loop-row
invariant-loop-row l = map view l.bare.items ≡ map (λ v. bare_row (view v)) (take l.row-index l.row-items)
