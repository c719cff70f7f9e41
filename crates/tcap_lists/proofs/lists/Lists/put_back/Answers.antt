use mir.Syntax.{w8}
use Rattle.std.proofs.Common.{◌≡◌, ◌<◌, Some, arith, ap, length, set, ◌∙◌}
use Rattle.std.proofs.lemmas.Int.{to_z-of_z}
use Rattle.std.specs.Box.{with_value}
use Rattle.std.specs.List.{slice_get}
use Rattle.tcap_lists.specs.Items.{listed}
use Rattle.tcap_lists.specs.Lists.{kind_of, row_of, rows_of}
use Rattle.tcap_lists.proofs.ItemLaws.{get_within, items_length, none_stood, row_set}
use Rattle.tcap_lists.proofs.ListLaws.{changed_as, got_kinds, got_row, has_none, kind_row}
use Rattle.tcap_lists.proofs.lists.Lists.put_back.Goals as goal

pub put_back-requires : goal.put_back-requires
put_back-requires g c =
    let row = c.deref_mut.result.now in let l = c.args.self.now in
    let found = rw (to_z-of_z w8 c.args.id c.ranges.id) at c.in-Some.ensures.value in
    let items : row_of row ≡ listed c.args.id (rows_of l) = rw c.deref_mut.ensures.value (got_row c.args.id l c.in-Some.row.now found) in
    let kind : slice_get row.kinds.items c.args.kind ≡ kind_of c.args.id c.args.kind l =
    rw c.deref_mut.ensures.value (got_kinds c.args.id l c.in-Some.row.now found c.args.kind) in
    let below : c.args.at < length (row_of row) = rw items c.requires.within in
    record {
      within = omega (arith, below, items_length row.kinds.items row.places.items);
      empty = none_stood row.kinds.items row.places.items c.args.at row.numbered (rw items c.requires.empty);
      exists = get_within row.kinds.items c.args.kind (rw kind c.requires.exists);
    }

pub unreachable-requires : goal.unreachable-requires
unreachable-requires g c =
    has_none c.args.id c.args.self.now (rw (to_z-of_z w8 c.args.id c.ranges.id) at c.in-None.ensures.value)
    (kind_row c.args.id c.args.kind c.args.self.now c.requires.exists)

pub returns-clause-put : goal.returns-clause-put
returns-clause-put g c =
    let row = c.in-Some.row.now in let now = with_value row c.put_back.new.self in let l = c.args.self.now in
    let found = rw (to_z-of_z w8 c.args.id c.ranges.id) at c.in-Some.ensures.value in
    let set_so = (rw (to_z-of_z w8 c.args.id c.ranges.id) at (c.get_mut.follows.holds now)).0 in
    changed_as c.args.id l (c.get_mut.follows.lender now).entries row now found set_so (λ items. set items c.args.at (kind_of c.args.id c.args.kind l))
    ((rw c.deref_mut.ensures.value at (row_set c.deref_mut.result.now c.put_back.new.self c.args.at (Some c.args.kind) c.put_back.ensures.kinds
    c.put_back.ensures.put))
    ∙ ap (set (row_of row.value) c.args.at) (got_kinds c.args.id l row found c.args.kind))
