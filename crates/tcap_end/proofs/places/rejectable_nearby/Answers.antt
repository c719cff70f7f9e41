use Rattle.std.proofs.Common.{None, refl, sym, ap, ◌∙◌}
use Rattle.tcap_end.specs.Component.{allows}
use Rattle.tcap_lists.specs.Lists.{row_kinds, row_of, row_places}
use Rattle.tcap_lists.specs.Row.{fits_in, kind_in}
use Rattle.tcap_lists.proofs.ItemLaws.{items_stood}
use Rattle.tcap_lists.proofs.PlaceLaws.{place_at, none_passed}
use Rattle.tcap_end.proofs.places.rejectable_nearby.Goals as goal

pub loop-init : goal.loop-init
loop-init c = record {
  none = λ n below.
      ap (fits_in (allows c.args.problem))
      (items_stood (row_kinds c.args.row.now) (row_places c.args.row.now) n ∙ ap (kind_in (row_kinds c.args.row.now)) (c.front-at.ensures n below));
}

pub returns-then-allows_at : goal.returns-then-allows_at
returns-then-allows_at c = λ at is.
    place_at (fits_in (allows c.args.problem)) None (row_of c.args.row.now) c.loop.at refl c.loop.invariant.none
    (sym c.allows_at.ensures ∙ c.if-allows_at.true) ∙ is

pub loop-preserved : goal.loop-preserved
loop-preserved c = record {
  none = none_passed (fits_in (allows c.args.problem)) None (row_of c.args.row.now) c.loop.at c.loop.invariant.none
      (sym c.allows_at.ensures ∙ c.if-allows_at.false);
}
