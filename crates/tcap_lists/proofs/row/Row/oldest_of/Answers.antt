use Rattle.std.proofs.Common.{◌≡◌, Some, true, false, sym}
use Rattle.tcap_lists.specs.Row.{is_wanted, kind_at}
use Rattle.tcap_lists.proofs.RowLaws.{oldest_stands, none_stands}
use Rattle.tcap_lists.proofs.row.Row.oldest_of.Goals as goal

pub returns-then-is_wanted : goal.returns-then-is_wanted
returns-then-is_wanted g c =
    let was = rw c.as_slice.ensures at c.place_of_kind-at.ensures in
    let here : is_wanted (Some c.args.kind) (kind_at c.args.self.now.places.items c.place_of_kind-at.result) ≡ true =
    rw (c.kind_at.ensures, c.as_slice-2.ensures) at (sym c.if-is_wanted.ensures) in
    sym (oldest_stands (Some c.args.kind) c.args.self.now.places.items c.place_of_kind-at.result
    (rw was (c.args.self.now.oldest_of_each c.args.kind)) here)

pub returns-else-is_wanted : goal.returns-else-is_wanted
returns-else-is_wanted g c =
    let was = rw c.as_slice.ensures at c.place_of_kind-at.ensures in
    let here : is_wanted (Some c.args.kind) (kind_at c.args.self.now.places.items c.place_of_kind-at.result) ≡ false =
    rw (c.kind_at.ensures, c.as_slice-2.ensures) at (sym c.if-is_wanted.ensures) in
    sym (none_stands (Some c.args.kind) c.args.self.now.places.items c.place_of_kind-at.result
    (rw was (c.args.self.now.oldest_of_each c.args.kind)) here)
