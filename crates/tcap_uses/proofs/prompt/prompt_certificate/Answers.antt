use Rattle.std.proofs.Common.{arith}
use Rattle.tcap_certificate.specs.Certificate.{prompt_fates}
use Rattle.tcap_uses.proofs.PromptLaws.{fates_more}
use Rattle.tcap_uses.proofs.prompt.prompt_certificate.Goals as goal

pub loop-number-preserved : goal.loop-number-preserved
loop-number-preserved c = record {
  within = omega (arith, c.loop-number-test.true);
  fates = rw c.in-Ok.ensures.items
      (fates_more c.loop-number.number c.args.count c.loop-number.fates.items (prompt_fates 0 c.args.count)
      c.loop-number-test.true c.loop-number.invariant.fates);
}
