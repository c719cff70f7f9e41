-- No entry so far is the reaction, so the rest decides.
use Rattle.std.proofs.Common.{◌≡◌, ◌+◌, ◌<◌, suc, drop, length}
use Rattle.std.specs.List.{position_from}
use Rattle.tcap_readings.specs.Reactions.{reacts}
use Rattle.tcap_readings.proofs.reactions.next.Given as goal

abbrev pub invariant-loop-entry : goal.invariant-loop-entry
invariant-loop-entry l = record {
  rest : position_from (reacts l.reaction l.malformed) (suc l.at) (drop l.entry-index l.rest)
      ≡ position_from (reacts l.reaction l.malformed) (suc l.after) l.rest;
  few : l.at + length (drop l.entry-index l.rest) < length l.entries;
}
