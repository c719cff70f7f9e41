-- part of the piece is taken, with its entries
use Rattle.std.proofs.Common.{◌≡◌, ℕ, ◌+◌, ◌≤◌, length, take, drop}
use Rattle.tcap_record.specs.PartialRecord.{IsFramerState}
use Rattle.tcap_judge.specs.PiecewiseReplay.{Leads}
use Rattle.tcap_judge.proofs.checking.take_piece.Given as goal

abbrev pub invariant-loop-taken : goal.invariant-loop-taken
invariant-loop-taken l = record {
  held : IsFramerState l.initial.frames → IsFramerState l.frames;
  n : ℕ;
  most : n ≤ length l.piece;
  rest_is : l.rest ≡ drop n l.piece;
  grown_by : l.frames.place + length l.frames.octets ≡ l.initial.frames.place + length l.initial.frames.octets + n;
  leads : Leads l.initial.frames l.initial.checker (take n l.piece) l.frames l.checker;
}

abbrev pub decreases-loop-taken : goal.decreases-loop-taken
decreases-loop-taken l = length l.rest + length l.frames.octets
