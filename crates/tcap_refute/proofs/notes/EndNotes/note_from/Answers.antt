use Rattle.std.proofs.lemmas.Result.{on_ok_weaker}
use Rattle.tcap_refute.proofs.EndLaws.{from_made, from_written}
use Rattle.tcap_refute.proofs.notes.EndNotes.note_from.Goals as goal

pub returns-in-Some-clause-from : goal.returns-in-Some-clause-from
returns-in-Some-clause-from g c =
    on_ok_weaker c.note.result
    (from_written c.args.table.now c.args.id.octets.now (g.M.MessageParts.meaning c.args.message.now)
    c.args.self.now.from (c.get_mut.follows.lender c.note.new.self) c.note.new.self c.in-Some.kept.now
    (rw c.to_transaction_id-key.ensures at c.in-Some.ensures.value)
    (rw c.to_transaction_id-key.ensures at c.get_mut.follows.holds c.note.new.self))
    c.note.ensures

pub returns-clause-from : goal.returns-clause-from
returns-clause-from g c =
    from_made c.args.table.now c.args.id.octets.now (g.M.MessageParts.meaning c.args.message.now)
    c.args.self.now.from c.insert.new.self c.note-2.new.self c.new-kept.result
    (rw c.to_transaction_id-key.ensures at c.in_default.ensures.value)
    (rw (c.get_mut.follows.holds-at-none, c.to_transaction_id-key.ensures) at c.in_ok-insert.ensures.updates.0)
    c.new-kept.ensures
    c.in_ok-note.ensures
