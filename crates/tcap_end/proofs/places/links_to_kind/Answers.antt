use Rattle.std.proofs.Common.{refl, sym, ap, ◌∙◌}
use Rattle.std.proofs.lemmas.Option.{slice_get_read}
use Rattle.tcap_parts.specs.Meaning.{code_of}
use Rattle.tcap_lists.specs.Lists.{row_kinds, row_places}
use Rattle.tcap_end.specs.Half.{Invocation}
use Rattle.tcap_end.specs.Component.{links}
use Rattle.tcap_lists.proofs.PlaceLaws.{kind_there}
use Rattle.tcap_end.proofs.places.links_to_kind.Goals as goal

pub returns-then-is_some : goal.returns-then-is_some
returns-then-is_some c so =
    let look = rw c.kinds.ensures.kinds at c.in-Some.ensures.lookup in
    kind_there (λ item. links c.args.table.now item.code (code_of c.args.code)) (row_kinds c.args.row.now) c.args.kind
    c.in-Some.item.now (row_places c.args.row.now)
    (slice_get_read (row_kinds c.args.row.now) _ c.args.kind c.in-Some.item.now refl look.3.0 look.1)
    (rw (c.view.ensures, ap (λ (item : Invocation). item.code) c.item.view_is) at (sym c.links.ensures ∙ so))
    (rw c.oldest_of.ensures at (sym c.is_some.ensures ∙ c.if-is_some.true))
