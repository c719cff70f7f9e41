use Rattle.std.proofs.Common.{◌∙◌, arith}
use Rattle.tcap_certificate_text.proofs.CompactLaws.{digit_taken}
use Rattle.tcap_certificate_text.proofs.compact_reading.more_digits.Goals as goal

pub loop-left-preserved : goal.loop-left-preserved
loop-left-preserved c =
    let so_far = c.loop-left.invariant in
    record {
      above = omega arith;
      within = omega arith;
      text = so_far.text
          ∙ digit_taken c.loop-left.number _ c.loop-left.left.now so_far.above so_far.within (omega arith) (omega arith)
          (omega arith) (omega arith);
    }
