use Rattle.std.proofs.Common.{is_ok}
use Rattle.tcap_lists.proofs.RowLaws.{long_enough, pushed_items, widened}
use Rattle.tcap_lists.proofs.row.Row.widen.Goals as goal

pub invariant_of-self-clause-oldest_of_each : goal.invariant_of-self-clause-oldest_of_each
invariant_of-self-clause-oldest_of_each g c =
    rw (pushed_items c.push.result c.args.self.now.oldest c.push.new.self 0 c.push.ensures.ok c.push.ensures.err)
    (widened (is_ok c.push.result) c.args.self.now.places.items c.args.self.now.oldest.items c.args.self.now.oldest_of_each)

pub invariant_of-self-clause-for_each : goal.invariant_of-self-clause-for_each
invariant_of-self-clause-for_each g c =
    rw (pushed_items c.push.result c.args.self.now.oldest c.push.new.self 0 c.push.ensures.ok c.push.ensures.err)
    (long_enough (is_ok c.push.result) c.args.self.now.oldest.items _ c.args.self.now.for_each)
