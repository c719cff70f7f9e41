use Rattle.tcap_dialogues.proofs.LiveLaws.{add_to_a, add_to_b}
use Rattle.tcap_dialogues.proofs.live.LiveDialogue.add_id.Goals as goal

pub returns-in_ok-insert-in-A : goal.returns-in_ok-insert-in-A
returns-in_ok-insert-in-A c = rw (c.in-A.is, c.in-Some.is)
    (add_to_a c.args.self.now c.insert.new.self c.in-Some.id.octets.now
    (rw c.to_transaction_id.ensures at c.in_ok-insert-in-A.ensures.updates.0))

pub returns-in_ok-insert-in-B : goal.returns-in_ok-insert-in-B
returns-in_ok-insert-in-B c = rw (c.in-B.is, c.in-Some.is)
    (add_to_b c.args.self.now c.insert-in-B.new.self c.in-Some.id.octets.now
    (rw c.to_transaction_id-in-B.ensures at c.in_ok-insert-in-B.ensures.updates.0))
