use mir.Syntax.{w8}
use Rattle.std.proofs.Common.{refl, ap}
use Rattle.std.proofs.lemmas.Int.{to_z-of_z}
use Rattle.std.specs.Box.{with_value}
use Rattle.tcap_lists.specs.Lists.{items_of}
use Rattle.tcap_lists.proofs.ListLaws.{changed_same, emptied}
use Rattle.tcap_lists.proofs.lists.Lists.drop_empty_places.Goals as goal

pub returns-then-is_spent : goal.returns-then-is_spent
returns-then-is_spent g c =
    let row = c.in-Some.row.now in let now = with_value row c.clear.new.self in let l = c.args.self.now in
    let found = rw (to_z-of_z w8 c.args.id c.ranges.id) at c.in-Some.ensures.value in
    let set_so = (rw (to_z-of_z w8 c.args.id c.ranges.id) at (c.get_mut.follows.holds now)).0 in
    emptied c.args.id l (c.get_mut.follows.lender now).entries row now found set_so
    (rw c.deref.ensures at (c.is_spent.ensures c.if-is_spent.true)) c.clear.ensures

pub returns-else-is_spent : goal.returns-else-is_spent
returns-else-is_spent g c =
    let row = c.in-Some.row.now in
    ap (λ rows. items_of rows)
    (changed_same c.args.id c.args.self.now (c.get_mut.follows.lender row).entries row row
    (rw (to_z-of_z w8 c.args.id c.ranges.id) at c.in-Some.ensures.value)
    (rw (to_z-of_z w8 c.args.id c.ranges.id) at (c.get_mut.follows.holds row)).0 refl)
