-- One more entry.
use Rattle.std.proofs.Common.{◌≡◌, map, ap, ◌∙◌, arith}
use Rattle.tcap_search.specs.SegmentEntries.{lines_of}
use Rattle.tcap_search.specs.ProposedCertificate.{fate_of, reply_of}
use Rattle.tcap_search.proofs.FateSteps.{all_lines, fate_step, highest_step, reply_fits, reply_read}
use Rattle.tcap_search.proofs.LineLaws.{count_transactions}
use Rattle.tcap_search.proofs.fates.first_fates.Goals as goal

pub bounds-transactions-number : goal.bounds-transactions-number
bounds-transactions-number c =
    omega (arith, count_transactions c.args.entries.now c.args.transactions.now c.requires.transactions)

pub raise-requires : goal.raise-requires
raise-requires c =
    let reply : c.index-reply.result.now ≡ reply_of c.args.ties.now c.loop-number.number =
    reply_read c.in_ok-replies.replies.items c.loop-number.number c.index-reply.result.now c.args.ties.now
    (c.in_ok-replies.ensures.replies c.loop-number.number c.loop-number-test.true) c.index-reply.ensures in
    rw reply (reply_fits c.args.entries.now c.args.ties.now c.loop-number.number c.requires.ties c.requires.few)

pub loop-number-preserved : goal.loop-number-preserved
loop-number-preserved c =
    let reply : c.index-reply.result.now ≡ reply_of c.args.ties.now c.loop-number.number =
    reply_read c.in_ok-replies.replies.items c.loop-number.number c.index-reply.result.now c.args.ties.now
    (c.in_ok-replies.ensures.replies c.loop-number.number c.loop-number-test.true) c.index-reply.ensures in
    record {
      fates = c.in_ok-push.ensures.items ∙
          rw (
            c.first_fate.ensures,
            reply,
            c.receiver_gap-behind.ensures,
            c.deref.ensures.value,
            c.gap_raised-least.ensures,
          )
          (fate_step c.args.entries.now c.args.transactions.now c.requires.transactions c.loop-number.number
          c.loop-number-test.true c.index-entries-number.result c.index-entries-number.is c.args.judged c.args.ties.now
          c.in_ok-gaps.gaps.items c.loop-number.raised c.in_ok-gaps.ensures c.loop-number.invariant.raised
          c.loop-number.fates.items c.loop-number.invariant.fates);
      raised = λ side. c.raise.ensures side ∙ rw reply
          (highest_step c.args.entries.now c.args.transactions.now c.requires.transactions c.loop-number.number
          c.loop-number-test.true c.index-entries-number.result c.index-entries-number.is c.args.ties.now side _
          (c.loop-number.invariant.raised side));
    }

pub returns : goal.returns
returns c = c.loop-number.invariant.fates
    ∙ ap (map (fate_of c.args.judged (lines_of c.args.entries.now) c.args.ties.now))
    (all_lines c.args.entries.now c.loop-number.number c.loop-number-test.false)
