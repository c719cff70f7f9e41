-- the appended text and the digits of the octets left are the digits of all
use Rattle.std.proofs.Common.{◌≡◌, ◌++◌}
use Rattle.std.specs.String.{string_bytes}
use Rattle.std.specs.Slice.Iter.{chunks_rest, chunks_size}
use Rattle.hex.specs.Hex.{encode_lower}
use Rattle.tcap_record.proofs.digits.push_many.Given as goal

abbrev pub invariant-loop-chunk : goal.invariant-loop-chunk
invariant-loop-chunk l = record {
  can_next : goal.iterator-loop-chunk.can_next l.chunk-iterator;
  is_finite : goal.iterator-loop-chunk.is_finite l.chunk-iterator;
  size : chunks_size l.chunk-iterator ≡ 128;
  made : string_bytes l.text ++ encode_lower (chunks_rest l.chunk-iterator) ≡ string_bytes l.initial.text ++ encode_lower l.fn.octets;
}
