use Rattle.std.proofs.Common.{None, Some, get_or, is_ok}
use Rattle.tcap_lists.proofs.ChainLaws.{marked_pushed}
use Rattle.tcap_lists.proofs.RowLaws.{pushed_items, pushed_numbered, pushed_oldest}
use Rattle.tcap_lists.proofs.row.Row.grow.Goals as goal

pub invariant_of-self-clause-marked : goal.invariant_of-self-clause-marked
invariant_of-self-clause-marked g c =
    rw (pushed_items c.push.result c.args.self.now.places c.push.new.self None c.push.ensures.ok c.push.ensures.err)
    (marked_pushed (is_ok c.push.result) c.args.self.now.places.items c.args.self.now.index c.args.self.now.marked)

pub invariant_of-self-clause-numbered : goal.invariant_of-self-clause-numbered
invariant_of-self-clause-numbered g c =
    rw (pushed_items c.push.result c.args.self.now.places c.push.new.self None c.push.ensures.ok c.push.ensures.err) (pushed_numbered (is_ok c.push.result) c.args.self.now.places.items _ c.args.self.now.numbered)

pub invariant_of-self-clause-oldest_of_each : goal.invariant_of-self-clause-oldest_of_each
invariant_of-self-clause-oldest_of_each g c = λ kind.
    rw (pushed_items c.push.result c.args.self.now.places c.push.new.self None c.push.ensures.ok c.push.ensures.err)
    (pushed_oldest (is_ok c.push.result) (Some kind) c.args.self.now.places.items (get_or c.args.self.now.oldest.items kind 0)
    (c.args.self.now.oldest_of_each kind))

pub invariant_of-self-clause-oldest_of_all : goal.invariant_of-self-clause-oldest_of_all
invariant_of-self-clause-oldest_of_all g c =
    rw (pushed_items c.push.result c.args.self.now.places c.push.new.self None c.push.ensures.ok c.push.ensures.err)
    (pushed_oldest (is_ok c.push.result) None c.args.self.now.places.items c.args.self.now.first c.args.self.now.oldest_of_all)
