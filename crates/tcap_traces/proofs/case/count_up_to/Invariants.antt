-- The count so far and that of the rest add up.
use Rattle.std.proofs.Common.{◌≡◌, ◌+◌, ◌≤◌, drop}
use Rattle.tcap_traces.specs.Dialogue.{first_after}
use Rattle.tcap_traces.proofs.case.count_up_to.Given as goal

abbrev pub invariant-loop-number : goal.invariant-loop-number
invariant-loop-number l = record {
  sum : l.count + first_after (drop l.number-index l.numbers) l.most ≡ first_after l.numbers l.most;
  few : l.count ≤ l.number-index;
}
