use Rattle.std.proofs.Common.{◌≡◌, ◌*◌, ◌+◌, ◌<◌, ◌⊎◌, inl, inr, Ok, slice_index, arith}
use Rattle.hex.specs.Hex.{pair_value}
use Rattle.hex.proofs.Pairs.{decode_step, decode_done, decode_err}
use Rattle.tcap_record.proofs.HexLaws.{reads_pair, refuses_pair, value_or_none}
use Rattle.tcap_record.proofs.digits.read_pairs.Goals as goal
use Rattle.tcap_record.proofs.digits.read_pairs.Goals.{then-high-gt15-via-then-high-gt15, then-high-gt15-via-else-high-gt15+then-low-gt15}

pub returns-then-high-gt15-clause-others : goal.returns-then-high-gt15-clause-others
returns-then-high-gt15-clause-others c others =
    let high = slice_index c.args.digits.now (2 * c.pairs.i) in
    let low = slice_index c.args.digits.now (2 * c.pairs.i + 1) in
    let big : (15 < value_or_none high) ⊎ (15 < value_or_none low) = elim c.then-high-gt15.branch [
      | then-high-gt15-via-then-high-gt15 w ↦ inl (omega (arith, w.if-high-gt15.true, c.value_of-high.ensures))
      | then-high-gt15-via-else-high-gt15+then-low-gt15 w ↦ inr (omega (arith, w.if-low-gt15.true, c.value_of-low.ensures))
    ] in
    let bad = refuses_pair high low (2 * c.pairs.i) big in
    (bad.0, decode_err _ c.pairs.octets c.pairs.i bad.0 (omega arith) bad.1 c.pairs.invariant.read)

pub pairs-preserved : goal.pairs-preserved
pairs-preserved c =
    let high = slice_index c.args.digits.now (2 * c.pairs.i) in
    let low = slice_index c.args.digits.now (2 * c.pairs.i + 1) in
    let made : pair_value high low (2 * c.pairs.i) ≡ Ok (c.value_of-high.result * 16 + c.value_of-low.result) =
    rw (c.value_of-high.ensures, c.value_of-low.ensures) (reads_pair high low (2 * c.pairs.i)
    (omega (arith, c.if-high-gt15.false, c.value_of-high.ensures)) (omega (arith, c.if-low-gt15.false, c.value_of-low.ensures))) in
    record { read = decode_step _ c.pairs.octets c.pairs.i _ (omega arith) (omega arith) made c.pairs.invariant.read }

pub returns-clause-digits : goal.returns-clause-digits
returns-clause-digits c digits =
    decode_done _ c.pairs.octets c.pairs.i (omega arith) (omega arith) c.pairs.invariant.read
