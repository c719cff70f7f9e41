use Rattle.tcap_search.proofs.UnansweredLaws.{set_more}
use Rattle.tcap_search.proofs.unanswered.note_id.Goals as goal

pub returns-in_ok-insert : goal.returns-in_ok-insert
returns-in_ok-insert c = rw c.in-Some.is
    (set_more c.in-Some.id.octets.now c.args.ids.now c.insert.new.self
    (rw c.to_transaction_id.ensures at c.in_ok-insert.ensures.updates.0))
