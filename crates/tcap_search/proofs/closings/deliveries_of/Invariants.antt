-- the gaps noted for the entries so far
use Rattle.tcap_search.proofs.ClosingLaws.{Delivered}
use Rattle.tcap_search.proofs.closings.deliveries_of.Given as goal

abbrev pub invariant-loop-number : goal.invariant-loop-number
invariant-loop-number l = Delivered l.entries l.fates l.number l.delivered
