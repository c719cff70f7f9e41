-- One more empty list.
use Rattle.std.proofs.Common.{arith, length-append}
use Rattle.tcap_search.proofs.SweepLaws.{one_more_empty}
use Rattle.tcap_search.proofs.expiries.empty_lists.Goals as goal

pub loop-preserved : goal.loop-preserved
loop-preserved c = record {
  empty = λ gap. rw c.in_ok-push.ensures.items
      (one_more_empty c.loop.lists.items c.new.result c.new.ensures.items c.loop.invariant.empty gap);
  count = rw (c.in_ok-push.ensures.items, length-append c.loop.lists.items) (omega arith);
}
