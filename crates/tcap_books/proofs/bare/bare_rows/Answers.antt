use Rattle.std.proofs.Common.{sym, ap, ◌∙◌}
use Rattle.serde_json.specs.Data.{array}
use Rattle.serde_json.specs.View.{view, items_of}
use Rattle.serde_json.proofs.Views.{view-Array}
use Rattle.tcap_books.specs.BookText.{bare_rows}
use Rattle.tcap_books.proofs.BareLaws.{bare_each}
use Rattle.tcap_books.proofs.bare.bare_rows.Goals as goal

pub returns-in_ok-bare_items-in-Array : goal.returns-in_ok-bare_items-in-Array
returns-in_ok-bare_items-in-Array c =
    view-Array c.in_ok-bare_items-in-Array.field-0
    ∙ ap (λ ds. array (items_of ds)) c.in_ok-bare_items-in-Array.ensures
    ∙ ap array (bare_each c.in-Array.items.items)
    ∙ sym (ap (λ v. bare_rows (view v)) c.in-Array.is ∙ ap bare_rows (view-Array c.in-Array.items))
