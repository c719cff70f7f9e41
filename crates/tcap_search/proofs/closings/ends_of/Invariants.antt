-- the numbers noted for the entries so far
use Rattle.tcap_search.proofs.ClosingLaws.{Ended}
use Rattle.tcap_search.proofs.closings.ends_of.Given as goal

abbrev pub invariant-loop-number : goal.invariant-loop-number
invariant-loop-number l = Ended l.entries l.number l.ended
