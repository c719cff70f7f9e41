-- The entries so far are decoded.
use Rattle.std.proofs.Common.{◌≡◌, map, take}
use Rattle.tcap_traces.specs.Dialogue.{entry_of}
use Rattle.tcap_traces.proofs.case.entries_of.Given as goal

abbrev pub invariant-loop-entry : goal.invariant-loop-entry
invariant-loop-entry l = l.made.items ≡ map entry_of (take l.entry-index l.entries)
