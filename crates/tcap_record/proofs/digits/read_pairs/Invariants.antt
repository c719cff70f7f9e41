-- the octets so far and those of the digits left are the octets of all digits
use Rattle.std.proofs.Common.{◌≡◌, ◌*◌, take, drop}
use Rattle.hex.specs.Hex.{decode_pairs}
use Rattle.hex.proofs.Pairs.{prepend}
use Rattle.tcap_record.proofs.digits.read_pairs.Given as goal

abbrev pub invariant-pairs : goal.invariant-pairs
invariant-pairs l = record {
  read : decode_pairs 0 l.digits ≡ prepend (take l.i l.octets) (decode_pairs (2 * l.i) (drop (2 * l.i) l.digits));
}
