use Rattle.std.proofs.Common.{◌≤◌, Some, sym, ap, ◌∙◌, subst, arith}
use Rattle.std.specs.Str.{IsUtf8}
use Rattle.serde_json.specs.Data.{depth}
use Rattle.serde_json.specs.Read.{max_depth, read}
use Rattle.serde_json.specs.View.{view}
use Rattle.tcap_books.specs.BookText.{bare_table}
use Rattle.tcap_books.proofs.DepthLaws.{bare_depth}
use Rattle.tcap_books.proofs.book_text.bare_read.Goals as goal

-- the written table can be read again, because it nests no deeper than the book
pub returns : goal.returns
returns c =
    let d = view c.args.value.now in
    let is = c.in_ok-bare_table.ensures in
    let few : depth (bare_table d) ≤ max_depth = omega (arith, bare_depth d, c.requires.nests) in
    let back = c.in_ok-text.ensures.reads_back (subst (λ x. depth x ≤ max_depth) (sym is) few) in
    λ fine. c.read_table.ensures fine (bare_table d)
    (subst IsUtf8 (sym c.deref.ensures.value) c.in_ok-text.ensures.utf8, ap read c.deref.ensures.value ∙ back ∙ ap Some is)
