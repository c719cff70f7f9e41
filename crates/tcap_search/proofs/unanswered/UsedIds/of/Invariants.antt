-- the IDs of the entries so far
use Rattle.std.proofs.Common.{take}
use Rattle.tcap_search.specs.UnansweredIds.{AreUsedIds}
use Rattle.tcap_search.proofs.unanswered.UsedIds.of.Given as goal

abbrev pub invariant-loop-entry : goal.invariant-loop-entry
invariant-loop-entry l = AreUsedIds l.side (take l.entry-index l.entries) l.spoken
