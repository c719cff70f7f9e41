use mir.Syntax.{w8}
use Rattle.std.proofs.Common.{◌-◌, length, take}
use Rattle.std.proofs.lemmas.Int.{to_z-of_z}
use Rattle.std.specs.Box.{with_value}
use Rattle.tcap_lists.proofs.ItemLaws.{row_less}
use Rattle.tcap_lists.proofs.ListLaws.{changed_as, has_none}
use Rattle.tcap_lists.proofs.lists.Lists.remove_newest.Goals as goal

pub unreachable-requires : goal.unreachable-requires
unreachable-requires g c = has_none c.args.id c.args.self.now (rw (to_z-of_z w8 c.args.id c.ranges.id) at c.in-None.ensures.value) c.requires.made

pub returns-clause-left : goal.returns-clause-left
returns-clause-left g c =
    let row = c.in-Some.row.now in let now = with_value row c.remove_newest.new.self in let l = c.args.self.now in
    let found = rw (to_z-of_z w8 c.args.id c.ranges.id) at c.in-Some.ensures.value in
    let set_so = (rw (to_z-of_z w8 c.args.id c.ranges.id) at (c.get_mut.follows.holds now)).0 in
    changed_as c.args.id l (c.get_mut.follows.lender now).entries row now found set_so (λ row. take (length row - 1) row)
    (rw c.deref_mut.ensures.value at (row_less c.deref_mut.result.now c.remove_newest.new.self c.remove_newest.ensures.kinds c.remove_newest.ensures.left))
