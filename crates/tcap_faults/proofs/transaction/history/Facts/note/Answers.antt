use Rattle.std.proofs.lemmas.Result.{on_ok_weaker}
use Rattle.tcap_record.specs.declared.entry.End.TheVariants as sides
use Rattle.tcap_refute.specs.EarlierMessages.{since_quiet}
use Rattle.tcap_faults.proofs.verdict_laws.NextEntryLaws.{kept_more}
use Rattle.tcap_faults.proofs.transaction.history.Facts.note.Goals as goal

pub returns-in-A : goal.returns-in-A
returns-in-A g c = λ items are effects.
    rw c.in-A.is
    (on_ok_weaker c.note_sent.result
    (λ both. kept_more c.args.table.now sides.A items (g.M.MessageParts.meaning c.args.message.now) _
    (record { a = both.0; b = both.1 }))
    (c.note_sent.ensures sides.A (since_quiet items) are.a are.b (rw c.in-A.is at effects)))

pub returns-in-B : goal.returns-in-B
returns-in-B g c = λ items are effects.
    rw c.in-B.is
    (on_ok_weaker c.note_sent-in-B.result
    (λ both. kept_more c.args.table.now sides.B items (g.M.MessageParts.meaning c.args.message.now) _
    (record { a = both.1; b = both.0 }))
    (c.note_sent-in-B.ensures sides.B (since_quiet items) are.b are.a (rw c.in-B.is at effects)))
