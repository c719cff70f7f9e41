use mir.Syntax.{w8}
use Rattle.std.proofs.Common.{◌≡◌, None, get_or, set, sym, ap, ◌∙◌}
use Rattle.std.proofs.lemmas.Int.{to_z-of_z}
use Rattle.std.specs.Box.{with_value}
use Rattle.tcap_lists.specs.Row.{kind_in}
use Rattle.tcap_lists.proofs.ItemLaws.{items_stood, row_set, some_stood}
use Rattle.tcap_lists.proofs.ListLaws.{changed_as, got_kinds, got_row, has_none, item_row}
use Rattle.tcap_lists.proofs.lists.Lists.take.Goals as goal

pub take-requires : goal.take-requires
take-requires g c =
    let row = c.in-Some.row.now in
    let items = got_row c.args.id c.args.self.now row (rw (to_z-of_z w8 c.args.id c.ranges.id) at c.in-Some.ensures.value) in
    rw c.deref_mut.ensures.value (some_stood row.value.kinds.items row.value.places.items c.args.at (rw items c.requires.exists))

pub unreachable-requires : goal.unreachable-requires
unreachable-requires g c =
    has_none c.args.id c.args.self.now (rw (to_z-of_z w8 c.args.id c.ranges.id) at c.in-None.ensures.value)
    (item_row c.args.id c.args.at c.args.self.now c.requires.exists)

pub returns-clause-kind : goal.returns-clause-kind
returns-clause-kind g c =
    let row = c.in-Some.row.now in let l = c.args.self.now in
    let found = rw (to_z-of_z w8 c.args.id c.ranges.id) at c.in-Some.ensures.value in
    ap (λ row. get_or row c.args.at None) (sym (got_row c.args.id l row found))
    ∙ items_stood row.value.kinds.items row.value.places.items c.args.at
    ∙ ap (kind_in row.value.kinds.items) (rw c.deref_mut.ensures.value at c.take.ensures.kind)
    ∙ got_kinds c.args.id l row found c.take.result

pub returns-clause-taken : goal.returns-clause-taken
returns-clause-taken g c =
    let row = c.in-Some.row.now in let now = with_value row c.take.new.self in let l = c.args.self.now in
    let found = rw (to_z-of_z w8 c.args.id c.ranges.id) at c.in-Some.ensures.value in
    let set_so = (rw (to_z-of_z w8 c.args.id c.ranges.id) at (c.get_mut.follows.holds now)).0 in
    changed_as c.args.id l (c.get_mut.follows.lender now).entries row now found set_so (λ row. set row c.args.at None)
    (rw c.deref_mut.ensures.value at (row_set c.deref_mut.result.now c.take.new.self c.args.at None c.take.ensures.kinds c.take.ensures.taken))
