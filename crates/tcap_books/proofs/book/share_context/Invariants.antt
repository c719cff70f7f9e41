use Rattle.std.proofs.Common.{◌≡◌, drop}
use Rattle.std.specs.List.{list_any}
use Rattle.std.specs.Str.{bytes_eq}
use Rattle.tcap_books.proofs.book.share_context.Given as goal

-- the result is that of the remaining contexts
abbrev pub invariant-loop-context : goal.invariant-loop-context
invariant-loop-context l = record {
  left : list_any (λ context. list_any (bytes_eq context) l.b.contexts) (drop l.context-index l.context-items)
      ≡ list_any (λ context. list_any (bytes_eq context) l.b.contexts) l.context-items;
}
