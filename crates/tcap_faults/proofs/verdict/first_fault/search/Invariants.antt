-- What is known of the ends that are asked for holds for the entries so far.
use Rattle.tcap_faults.proofs.verdict_laws.SearchLaws.{IsSearched}
use Rattle.tcap_faults.proofs.verdict.first_fault.search.Given as goal

abbrev pub invariant-loop-number : goal.invariant-loop-number
invariant-loop-number l = IsSearched l.table l.record.entries.items l.a l.b l.number l.state
