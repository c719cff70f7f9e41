-- All contexts so far are the same, so the rest decides.
use Rattle.std.proofs.Common.{◌≡◌, drop}
use Rattle.tcap_traces.specs.TableChoice.{are_same}
use Rattle.tcap_traces.proofs.table_choice.have_same.Given as goal

abbrev pub invariant-loop-one : goal.invariant-loop-one
invariant-loop-one l = are_same (drop l.one-index l.ones) l.rest ≡ are_same l.ones l.others
