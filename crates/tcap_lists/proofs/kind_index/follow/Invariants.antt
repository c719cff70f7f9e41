use Rattle.tcap_lists.specs.Chains.{AreMarked, kinds_in}
use Rattle.tcap_lists.proofs.kind_index.follow.Given as goal

abbrev pub invariant-loop : goal.invariant-loop
invariant-loop l = AreMarked l.places (kinds_in l.chains.marks.items)
