-- One more entry.
use Rattle.std.proofs.Common.{ap, ◌∙◌, arith}
use Rattle.tcap_search.specs.Fates.{gap_after_last}
use Rattle.tcap_search.proofs.FateSteps.{all_lines, gap_step}
use Rattle.tcap_search.proofs.LineLaws.{count_transactions}
use Rattle.tcap_search.proofs.fates.last_gaps.Goals as goal

pub bounds-transactions-number : goal.bounds-transactions-number
bounds-transactions-number c =
    omega (arith, count_transactions c.args.entries.now c.args.transactions.now c.requires.transactions)

pub loop-number-preserved : goal.loop-number-preserved
loop-number-preserved c = record {
  gaps = λ side t within.
      c.note_last.ensures.noted side t (omega arith)
      ∙ gap_step c.args.entries.now c.args.transactions.now c.requires.transactions c.loop-number.number
      c.loop-number-test.true c.index-entries-number.result c.index-entries-number.is c.args.judged side t _
      (c.loop-number.invariant.gaps side t within);
  count = c.note_last.ensures.count ∙ c.loop-number.invariant.count;
}

pub returns : goal.returns
returns c = λ side t within. c.loop-number.invariant.gaps side t within
    ∙ ap (gap_after_last c.args.judged side t) (all_lines c.args.entries.now c.loop-number.number (omega arith))
