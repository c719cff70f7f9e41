use Rattle.tcap_search.proofs.TieLaws.{collected_more}
use Rattle.tcap_search.proofs.ties.candidates_of.Goals as goal

pub loop-number-preserved : goal.loop-number-preserved
loop-number-preserved c =
    let l = c.loop-number in
    collected_more c.args.entries.now l.number l.candidates c.push.new.self c.index-entries-number.result
    c.loop-number-test.true c.index-entries-number.is l.invariant c.in_ok-push.ensures
