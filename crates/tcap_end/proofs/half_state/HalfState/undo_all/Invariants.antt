use Rattle.std.proofs.Common.{◌≡◌, ◌+◌, length}
use Rattle.tcap_end.specs.HalfState.{StillUndoes}
use Rattle.tcap_end.proofs.half_state.HalfState.undo_all.Given as goal

-- The remaining changes undo the rest of what all changes undo; each pass removes one.
abbrev pub invariant-loop : goal.invariant-loop
invariant-loop l = record {
  still : StillUndoes l.fn.changes l.fn.self l.changes l.self;
  slot : l.self.slot ≡ l.fn.self.slot;
  left : length l.changes + l.counter ≡ l.end;
}
