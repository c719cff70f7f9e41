use Rattle.std.proofs.lemmas.Result.{on_ok_weaker}
use Rattle.tcap_refute.proofs.EndLaws.{end_noted}
use Rattle.tcap_refute.proofs.notes.EndNotes.note.Goals as goal

pub returns : goal.returns
returns g c =
    on_ok_weaker c.note_ended.result
    (λ ended. end_noted c.args.table.now (g.M.MessageParts.meaning c.args.message.now) c.args.self.now
    c.note_otid.new.self c.note_ended.new.self c.in_ok-note_otid.ensures.from c.note_otid.ensures.ended ended c.note_ended.ensures.from)
    c.note_ended.ensures.ended
