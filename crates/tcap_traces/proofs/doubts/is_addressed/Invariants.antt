-- The result so far and the rest decide.
use Rattle.std.proofs.Common.{◌≡◌, false, drop, map}
use Rattle.tcap_model.specs.Entries.{item_of}
use Rattle.tcap_traces.specs.Verdict.{is_addressed}
use Rattle.tcap_traces.proofs.doubts.is_addressed.Given as goal

abbrev pub invariant-loop-entry : goal.invariant-loop-entry
invariant-loop-entry l =
    is_addressed l.end l.id.octets.now l.so (map item_of (drop l.entry-index l.before))
    ≡ is_addressed l.end l.id.octets.now false (map item_of l.before)
