use mir.Syntax.{w8}
use Rattle.std.proofs.Common.{Some, [], ◌∷◌, ◌++◌}
use Rattle.std.proofs.lemmas.Int.{to_z-of_z}
use Rattle.std.proofs.lemmas.Result.{on_err_weaker, on_ok_weaker}
use Rattle.std.specs.Box.{with_value}
use Rattle.tcap_lists.proofs.ListLaws.{changed_as, changed_has, changed_same, has_none, on_ok}
use Rattle.tcap_end.proofs.places.keep.Goals as goal

pub unreachable-requires : goal.unreachable-requires
unreachable-requires g c = has_none c.args.id c.make.new.self (rw (to_z-of_z w8 c.args.id c.ranges.id) at c.in-None.ensures.value)
    (rw (to_z-of_z w8 c.args.id c.ranges.id) at c.in_ok-make.ensures.made)

pub returns-clause-added : goal.returns-clause-added
returns-clause-added g c item joins =
    let row = c.in-Some.row.now in let now = with_value row c.join.new.arg2 in let l = c.make.new.self in
    let found = rw (to_z-of_z w8 c.args.id c.ranges.id) at c.in-Some.ensures.value in
    let set_so = (rw (to_z-of_z w8 c.args.id c.ranges.id) at (c.get_mut.follows.holds now)).0 in
    on_ok_weaker c.join.result
    (λ joined. rw c.make.ensures.rows at (changed_as c.args.id l (c.get_mut.follows.lender now).entries row now found set_so (λ row. row ++ Some item ∷ [])
    (rw c.deref_mut.ensures.value at joined)))
    ((joins _ _ _ c.join.ensures).0)

pub returns-clause-made : goal.returns-clause-made
returns-clause-made g c =
    let row = c.in-Some.row.now in let now = with_value row c.join.new.arg2 in let l = c.make.new.self in
    let found = rw (to_z-of_z w8 c.args.id c.ranges.id) at c.in-Some.ensures.value in
    let set_so = (rw (to_z-of_z w8 c.args.id c.ranges.id) at (c.get_mut.follows.holds now)).0 in
    on_ok c.join.result (changed_has c.args.id l (c.get_mut.follows.lender now).entries row now found set_so)

pub returns-clause-kept : goal.returns-clause-kept
returns-clause-kept g c item joins =
    let row = c.in-Some.row.now in let now = with_value row c.join.new.arg2 in let l = c.make.new.self in
    let found = rw (to_z-of_z w8 c.args.id c.ranges.id) at c.in-Some.ensures.value in
    let set_so = (rw (to_z-of_z w8 c.args.id c.ranges.id) at (c.get_mut.follows.holds now)).0 in
    on_err_weaker c.join.result
    (λ same. rw c.make.ensures.rows at (changed_same c.args.id l (c.get_mut.follows.lender now).entries row now found set_so
    (rw c.deref_mut.ensures.value at same)))
    ((joins _ _ _ c.join.ensures).1)
