-- the candidates of the entries so far
use Rattle.tcap_search.proofs.TieLaws.{Collected}
use Rattle.tcap_search.proofs.ties.candidates_of.Given as goal

abbrev pub invariant-loop-number : goal.invariant-loop-number
invariant-loop-number l = Collected l.entries l.number l.candidates
