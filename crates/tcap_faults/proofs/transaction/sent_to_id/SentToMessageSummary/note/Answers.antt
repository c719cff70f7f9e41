use Rattle.std.proofs.Common.{sym}
use Rattle.std.proofs.lemmas.Result.{on_ok_weaker}
use Rattle.tcap_faults.proofs.transaction_laws.SentToLaws.{to_cause, to_user}
use Rattle.tcap_faults.proofs.transaction.sent_to_id.SentToMessageSummary.note.Goals as goal

pub returns-in-Some : goal.returns-in-Some
returns-in-Some g c = λ ms was.
    to_cause c.args.table.now ms (g.M.MessageParts.meaning c.args.message.now) c.args.self.now was
    c.note_cause.new.self c.in-Some.cause.number (sym c.in-Some.ensures)
    (rw (c.ends.ensures, c.is_end_or_abort.ensures) at c.note_cause.ensures)

pub returns-in-None : goal.returns-in-None
returns-in-None g c = λ ms was.
    let m = g.M.MessageParts.meaning c.args.message.now in
    on_ok_weaker c.note_of_user.result
    (λ outgoing. to_user c.args.table.now ms m c.args.self.now was c.note_of_user.new.self (sym c.in-None.ensures)
    (rw (c.ends.ensures, c.is_end_or_abort.ensures) at outgoing))
    (c.note_of_user.ensures ms (sym c.in-None.ensures) was.from was.components)
