-- some of the piece was packed, and the others are left
use Rattle.std.proofs.Common.{◌≡◌, ℕ, ◌++◌, List, length}
use Rattle.tcap_record.specs.PackState.{IsOpen, Packs}
use Rattle.tcap_record.proofs.packing.PackState.pack_piece.Given as goal

abbrev pub invariant-loop-rest : goal.invariant-loop-rest
invariant-loop-rest g l = record {
  octets : List ℕ;
  joined : l.fn.piece ≡ octets ++ l.rest;
  is_open : IsOpen l.self;
  packs : Packs l.fn.self l.self octets (g.W.Write.taken l.fn.writer) (g.W.Write.taken l.writer);
  count : g.W.Write.failures l.writer ≡ g.W.Write.failures l.fn.writer;
}

abbrev pub decreases-loop-rest : goal.decreases-loop-rest
decreases-loop-rest g l = length l.rest
