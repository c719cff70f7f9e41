-- One more entry.
use Rattle.tcap_search.proofs.UnansweredLaws.{spoken_more}
use Rattle.tcap_search.proofs.unanswered.UsedIds.of.Goals as goal

pub loop-entry-preserved : goal.loop-entry-preserved
loop-entry-preserved c =
    spoken_more c.args.side c.args.entries.now c.loop-entry.entry-index c.loop-entry.spoken c.note.new.self
    c.entry-item.result c.loop-entry-test.true c.entry-item.is c.loop-entry.invariant c.in_ok-note.ensures.to c.in_ok-note.ensures.from
