-- the ties from this number on, and the candidates before
use Rattle.tcap_search.proofs.TieLaws.{Tied}
use Rattle.tcap_search.proofs.ties.traced_ties.Given as goal

abbrev pub invariant-loop-number : goal.invariant-loop-number
invariant-loop-number l = Tied l.entries l.number l.candidates l.ties.items

abbrev pub decreases-loop-number : goal.decreases-loop-number
decreases-loop-number l = l.number
