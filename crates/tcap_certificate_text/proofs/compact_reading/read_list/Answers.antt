use Rattle.std.proofs.Common.{arith}
use Rattle.tcap_certificate_text.proofs.CompactLaws.{all_more, first_then, list_taken, part_taken}
use Rattle.tcap_certificate_text.proofs.compact_reading.read_list.Goals as goal

pub loop-part-preserved : goal.loop-part-preserved
loop-part-preserved g c =
    let so_far = c.loop-part.invariant in
    let read = c.in-Some-read in
    let comma = first_then 44 _ c.in-44.len_at_least (omega arith) in
    let more = c.in_ok-push.ensures.items in
    record {
      text = part_taken g.T.Piece.piece_data _ _ _ _ _ _ read.part so_far.text read.ensures.text comma more;
      fits = all_more g.T.Piece.piece_fits _ _ read.part so_far.fits read.ensures.fits more;
    }

pub returns-in-93-clause-text : goal.returns-in-93-clause-text
returns-in-93-clause-text g c =
    let read = c.in-Some-read in
    let bracket = first_then 93 _ c.in-93.len_at_least (omega arith) in
    list_taken g.T.Piece.piece_data _ _ _ _ _ _ read.part c.loop-part.invariant.text read.ensures.text bracket
    c.in_ok-push.ensures.items
