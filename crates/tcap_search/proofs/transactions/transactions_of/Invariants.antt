-- the map and the transactions of the entries so far
use Rattle.tcap_search.proofs.LatestLaws.{Noted}
use Rattle.tcap_search.proofs.transactions.transactions_of.Given as goal

abbrev pub invariant-loop-number : goal.invariant-loop-number
invariant-loop-number l = Noted l.entries l.number l.latest l.transactions.items
