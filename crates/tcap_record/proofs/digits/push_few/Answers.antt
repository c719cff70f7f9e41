use Rattle.std.proofs.Common.{◌∷◌, [], ◌-◌, length, take, drop, slice_index, arith}
use Rattle.tcap_record.proofs.DigitLaws.{piece_more, none_left, first_then}
use Rattle.tcap_record.proofs.digits.push_few.Goals as goal

pub loop-rest-preserved : goal.loop-rest-preserved
loop-rest-preserved c =
    let rest = c.loop-rest.rest.now in
    piece_more _ _ _ (slice_index rest 0 ∷ []) (take (length rest - 1) (drop 1 rest)) rest (first_then rest (omega (arith, c.in-len1-up.len_at_least))) c.in_ok-push_octet.ensures c.loop-rest.invariant

pub returns : goal.returns
returns c = none_left _ _ c.loop-rest.rest.now (omega (arith, c.in_default.len_below)) c.loop-rest.invariant
