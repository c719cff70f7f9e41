use Rattle.std.proofs.Common.{◌≡◌}
use Rattle.tcap_end.specs.HalfState.{half_of}
use Rattle.tcap_end.proofs.half_state.HalfState.settle.Given as goal

-- The half means the same as before.
abbrev pub invariant-loop-change : goal.invariant-loop-change
invariant-loop-change l = record {
  half : half_of l.self ≡ half_of l.fn.self;
  slot : l.self.slot ≡ l.fn.self.slot;
}
