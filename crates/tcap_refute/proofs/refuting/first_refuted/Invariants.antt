-- The entries that are left decide.
use Rattle.tcap_refute.proofs.ItemLaws.{Searches}
use Rattle.tcap_refute.proofs.refuting.first_refuted.Given as goal

abbrev pub invariant-loop-number : goal.invariant-loop-number
invariant-loop-number l = Searches l.table l.record.entries.items l.number l.notes
