use Rattle.std.proofs.Common.{sym, ap, ◌∙◌}
use Rattle.tcap_lists.specs.Lists.{row_kinds, row_places}
use Rattle.tcap_end.specs.Component.{allows}
use Rattle.tcap_lists.specs.Row.{fits_in}
use Rattle.tcap_lists.proofs.ItemLaws.{items_stood}
use Rattle.tcap_end.proofs.places.allows_at.Goals as goal

pub returns-in-Some : goal.returns-in-Some
returns-in-Some c =
    c.allows.ensures ∙ ap (fits_in (allows c.args.problem))
    (c.in-Some.ensures ∙ sym (items_stood (row_kinds c.args.row.now) (row_places c.args.row.now) c.args.at))

pub returns-in-None : goal.returns-in-None
returns-in-None c =
    ap (fits_in (allows c.args.problem))
    (c.in-None.ensures ∙ sym (items_stood (row_kinds c.args.row.now) (row_places c.args.row.now) c.args.at))
