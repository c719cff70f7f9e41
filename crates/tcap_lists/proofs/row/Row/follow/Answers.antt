use Rattle.tcap_lists.proofs.row.Row.follow.Goals as goal

pub invariant_of-self-2-clause-marked : goal.invariant_of-self-2-clause-marked
invariant_of-self-2-clause-marked g c = rw c.as_slice.ensures at c.follow.ensures

pub invariant_of-self-2-clause-numbered : goal.invariant_of-self-2-clause-numbered
invariant_of-self-2-clause-numbered g c = c.args.self.now.numbered

pub invariant_of-self-2-clause-for_each : goal.invariant_of-self-2-clause-for_each
invariant_of-self-2-clause-for_each g c = c.args.self.now.for_each

pub invariant_of-self-2-clause-oldest_of_each : goal.invariant_of-self-2-clause-oldest_of_each
invariant_of-self-2-clause-oldest_of_each g c = c.args.self.now.oldest_of_each

pub invariant_of-self-2-clause-oldest_of_all : goal.invariant_of-self-2-clause-oldest_of_all
invariant_of-self-2-clause-oldest_of_all g c = c.args.self.now.oldest_of_all
