use Rattle.tcap_search.proofs.LatestLaws.{noted_more}
use Rattle.tcap_search.proofs.transactions.transactions_of.Goals as goal

pub loop-number-preserved : goal.loop-number-preserved
loop-number-preserved c =
    let l = c.loop-number in
    rw c.in_ok-push.ensures.items
    (noted_more c.args.entries.now l.number l.latest c.note.new.self l.transactions.items c.index-entries-number.result
    c.transaction_of-transaction.result c.loop-number-test.true c.index-entries-number.is l.invariant
    c.transaction_of-transaction.ensures c.in_ok-note.ensures)
