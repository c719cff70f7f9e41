-- the items so far, each with a comma, and the rest
use Rattle.std.proofs.Common.{◌≡◌, ◌++◌, ◌∷◌, length}
use Rattle.std.specs.List.{AllByRecursion}
use Rattle.tcap_certificate_text.proofs.CompactLaws.{led}
use Rattle.tcap_certificate_text.proofs.compact_reading.read_list.Given as goal

abbrev pub invariant-loop-part : goal.invariant-loop-part
invariant-loop-part g l = record {
  text : l.fn.octets ≡ 91 ∷ (led g.T.Piece.piece_data l.parts.items ++ l.left);
  fits : AllByRecursion g.T.Piece.piece_fits l.parts.items;
}

abbrev pub decreases-loop-part : goal.decreases-loop-part
decreases-loop-part g l = length l.left
