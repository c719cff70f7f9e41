use Rattle.std.proofs.Common.{◌≡◌, None, Some, sym, refl, length, arith, rules}
use Rattle.tcap_lists.specs.Row.{kind_at}
use Rattle.tcap_lists.proofs.ChainLaws.{marked_taken}
use Rattle.tcap_lists.proofs.RowLaws.{apart_kinds, set_numbered, set_oldest, stands_within}
use Rattle.tcap_lists.proofs.row.Row.take.Goals as goal

pub put-requires : goal.put-requires
put-requires g c = (search rules, stands_within c.args.self.now.places.items c.args.at c.requires)

pub oldest_of_kind-oldest-requires : goal.oldest_of_kind-oldest-requires
oldest_of_kind-oldest-requires g c = record {
  marked = rw (c.as_slice-3.ensures, c.put.ensures) (marked_taken c.args.self.now.places.items c.args.self.now.index
      c.args.at (stands_within c.args.self.now.places.items c.args.at c.requires) c.args.self.now.marked);
}

pub invariant_of-self-clause-marked : goal.invariant_of-self-clause-marked
invariant_of-self-clause-marked g c =
    rw c.put.ensures
    (marked_taken c.args.self.now.places.items c.args.self.now.index c.args.at
    (stands_within c.args.self.now.places.items c.args.at c.requires) c.args.self.now.marked)

pub invariant_of-self-clause-numbered : goal.invariant_of-self-clause-numbered
invariant_of-self-clause-numbered g c =
    rw c.put.ensures
    (set_numbered c.args.self.now.places.items c.args.at None (stands_within c.args.self.now.places.items c.args.at c.requires)
    (length c.args.self.now.kinds.items) (λ kind is. cc) c.args.self.now.numbered)

pub invariant_of-self-clause-oldest_of_each : goal.invariant_of-self-clause-oldest_of_each
invariant_of-self-clause-oldest_of_each g c =
    let kind = c.in-Some.kind in
    let there : kind_at c.args.self.now.places.items c.args.at ≡ Some kind = rw c.as_slice.ensures at (sym c.in-Some.ensures) in
    let below = c.args.self.now.numbered c.args.at kind there in
    let was = rw c.as_slice-2.ensures at c.place_of_kind-oldest.ensures in
    rw (c.put.ensures, c.put-2.ensures)
    (set_oldest c.args.self.now.places.items c.args.at None (stands_within c.args.self.now.places.items c.args.at c.requires)
    c.args.self.now.oldest.items kind _
    (omega (arith, below, c.args.self.now.for_each))
    (λ other apart. rw there (sym (apart_kinds other kind apart))) c.args.self.now.oldest_of_each
    ((rw (c.as_slice-3.ensures, c.put.ensures) at c.oldest_of_kind-oldest.ensures) c.args.self.now.places.items refl
    (rw was (c.args.self.now.oldest_of_each kind))))

pub invariant_of-self-clause-oldest_of_all : goal.invariant_of-self-clause-oldest_of_all
invariant_of-self-clause-oldest_of_all g c =
    rw c.put.ensures
    ((rw (c.as_slice-4.ensures, c.put.ensures) at c.oldest_after-self.ensures) c.args.self.now.places.items refl
    c.args.self.now.oldest_of_all)
