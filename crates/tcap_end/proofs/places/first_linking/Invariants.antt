use Rattle.std.proofs.Common.{◌≡◌}
use Rattle.tcap_parts.specs.Meaning.{code_of}
use Rattle.tcap_lists.specs.Lists.{row_kinds, row_places}
use Rattle.tcap_end.specs.Component.{links}
use Rattle.tcap_end.specs.OldestPlace.{place_of}
use Rattle.tcap_lists.proofs.PlaceLaws.{fits_below}
use Rattle.tcap_end.proofs.places.first_linking.Given as goal

-- the oldest place among the kinds so far
abbrev pub invariant-loop-kind : goal.invariant-loop-kind
invariant-loop-kind l = record {
  kinds : l.kinds ≡ row_kinds l.row;
  found : l.found ≡ place_of (fits_below (λ item. links l.table item.code (code_of l.code)) l.kinds l.kind) (row_places l.row);
}
