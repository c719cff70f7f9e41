use Rattle.std.proofs.Common.{◌≡◌, ◌<◌, ◌+◌, ◌^◌, length}
use Rattle.tcap_end.specs.Halves.{closing, end_of, halves_at}
use Rattle.tcap_end.specs.ReachableEnd.{halves_of}
use Rattle.tcap_lists.proofs.PlaceLaws.{shifted}
use Rattle.tcap_end.proofs.halves.Halves.closing_of.Given as goal

-- `count` halves before this place are open, and each may close.
abbrev pub invariant-loop-place : goal.invariant-loop-place
invariant-loop-place l = record {
  left : shifted l.count (closing l.table (halves_at l.self.slab l.fn.slot l.place-iterator))
      ≡ closing l.table (halves_of l.fn.slot (end_of l.self));
  room : l.count + length l.place-iterator < 2 ^ 63;
}
