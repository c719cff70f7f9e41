use Rattle.std.proofs.Common.{◌≡◌, Bool}
use Rattle.tcap_lists.specs.Lists.{row_kinds, row_places}
use Rattle.tcap_end.specs.OldestPlace.{place_of}
use Rattle.tcap_end.specs.KindTest.{IsTest}
use Rattle.tcap_lists.proofs.PlaceLaws.{fits_below}
use Rattle.tcap_end.proofs.places.oldest_that.Given as goal

-- the oldest place among the kinds so far
abbrev pub invariant-loop-kind : goal.invariant-loop-kind
invariant-loop-kind g l = record {
  kinds : l.kinds ≡ row_kinds l.row;
  found : (test : _ → Bool) → IsTest g.F.Fn l.passes test → l.found ≡ place_of (fits_below test l.kinds l.kind) (row_places l.row);
}
