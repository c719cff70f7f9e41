use Rattle.std.proofs.Common.{◌≡◌, ◌<◌, Some, refl, length, arith}
use Rattle.tcap_lists.proofs.RowLaws.{apart_kinds, same_kind, set_numbered, set_oldest}
use Rattle.tcap_lists.proofs.row.Row.put_back.Goals as goal

pub invariant_of-self-clause-marked : goal.invariant_of-self-clause-marked
invariant_of-self-clause-marked g c =
    rw c.put-2.ensures (c.keep.ensures c.args.self.now.places.items c.requires.within c.args.self.now.marked)

pub invariant_of-self-clause-numbered : goal.invariant_of-self-clause-numbered
invariant_of-self-clause-numbered g c =
    rw c.put-2.ensures
    (set_numbered c.args.self.now.places.items c.args.at (Some c.args.kind) c.requires.within (length c.args.self.now.kinds.items)
    (λ kind is. let same : c.args.kind ≡ kind = cc in omega (arith, same, c.requires.exists)) c.args.self.now.numbered)

pub invariant_of-self-clause-oldest_of_each : goal.invariant_of-self-clause-oldest_of_each
invariant_of-self-clause-oldest_of_each g c =
    let there : c.args.kind < length c.args.self.now.oldest.items = omega (arith, c.requires.exists, c.args.self.now.for_each) in
    let was = rw c.as_slice.ensures at c.place_of_kind-oldest.ensures in
    rw (c.put.ensures, c.put-2.ensures)
    (set_oldest c.args.self.now.places.items c.args.at (Some c.args.kind) c.requires.within c.args.self.now.oldest.items c.args.kind _ there
    (λ other apart. rw c.requires.empty (apart_kinds other c.args.kind apart)) c.args.self.now.oldest_of_each
    ((rw c.as_slice-2.ensures at c.oldest_before-oldest.ensures) c.args.kind c.requires.within (same_kind c.args.kind)
    (rw was (c.args.self.now.oldest_of_each c.args.kind))))

pub invariant_of-self-clause-oldest_of_all : goal.invariant_of-self-clause-oldest_of_all
invariant_of-self-clause-oldest_of_all g c =
    rw c.put-2.ensures
    ((rw c.as_slice-3.ensures at c.oldest_before-self.ensures) c.args.kind c.requires.within refl c.args.self.now.oldest_of_all)
