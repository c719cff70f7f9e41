use Rattle.std.proofs.Common.{None, Some, get_or}
use Rattle.tcap_lists.proofs.ChainLaws.{marked_less}
use Rattle.tcap_lists.proofs.RowLaws.{less_numbered, less_oldest}
use Rattle.tcap_lists.proofs.row.Row.remove_newest.Goals as goal

pub invariant_of-self-clause-marked : goal.invariant_of-self-clause-marked
invariant_of-self-clause-marked g c =
    rw c.pop.ensures.rest
    (marked_less c.args.self.now.places.items c.args.self.now.index c.pop-2.new.self _
    c.pop-2.ensures c.args.self.now.marked)

pub invariant_of-self-clause-numbered : goal.invariant_of-self-clause-numbered
invariant_of-self-clause-numbered g c =
    rw c.pop.ensures.rest (less_numbered c.args.self.now.places.items _ _ c.args.self.now.numbered)

pub invariant_of-self-clause-oldest_of_each : goal.invariant_of-self-clause-oldest_of_each
invariant_of-self-clause-oldest_of_each g c = λ kind.
    rw c.pop.ensures.rest
    (less_oldest (Some kind) c.args.self.now.places.items _ (get_or c.args.self.now.oldest.items kind 0) (c.args.self.now.oldest_of_each kind))

pub invariant_of-self-clause-oldest_of_all : goal.invariant_of-self-clause-oldest_of_all
invariant_of-self-clause-oldest_of_all g c =
    rw c.pop.ensures.rest (less_oldest None c.args.self.now.places.items _ c.args.self.now.first c.args.self.now.oldest_of_all)
