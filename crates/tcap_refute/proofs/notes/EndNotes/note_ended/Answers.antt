use Rattle.tcap_refute.proofs.EndLaws.{ended_more}
use Rattle.tcap_refute.proofs.notes.EndNotes.note_ended.Goals as goal

pub returns-in_ok-insert-clause-ended : goal.returns-in_ok-insert-clause-ended
returns-in_ok-insert-clause-ended g c =
    rw (← c.in-Some.ensures)
    (ended_more c.in-Some.id.octets.now c.args.self.now.ended c.insert.new.self
    (rw c.to_transaction_id.ensures at c.in_ok-insert.ensures.keys))
