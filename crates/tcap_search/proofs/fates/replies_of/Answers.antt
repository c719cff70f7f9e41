-- One more tie.
use Rattle.std.proofs.Common.{◌∙◌, arith}
use Rattle.tcap_search.proofs.FateSteps.{reply_step}
use Rattle.tcap_search.proofs.fates.replies_of.Goals as goal

pub loop-tie-preserved : goal.loop-tie-preserved
loop-tie-preserved c = record {
  replies = λ number within.
      c.note_reply.ensures.noted number (omega arith)
      ∙ reply_step c.args.ties.now c.loop-tie.tie-index number _ _ c.loop-tie-test.true
      (c.loop-tie.invariant.replies number within);
  count = c.note_reply.ensures.count ∙ c.loop-tie.invariant.count;
}
