-- The entries so far and those of the remaining messages are all.
use Rattle.tcap_evidence.proofs.Common.{◌≡◌, ◌++◌, drop, AreMessagesByEnd, entries_where, numbered_of, Scene, is_open_continue}
use Rattle.tcap_evidence.proofs.mark.open_continues.Given as goal

abbrev pub invariant-loop-one : goal.invariant-loop-one
invariant-loop-one l =
    (s : Scene) → s.table ≡ l.table → AreMessagesByEnd s l.messages_by_end
    → l.entries.items ++ entries_where (is_open_continue s) (numbered_of (drop l.one-index l.one-items))
    ≡ entries_where (is_open_continue s) (numbered_of l.one-items)
