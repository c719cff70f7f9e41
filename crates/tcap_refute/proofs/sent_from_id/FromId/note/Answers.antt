use Rattle.std.proofs.lemmas.Result.{on_ok_weaker}
use Rattle.tcap_refute.proofs.FromLaws.{message_noted}
use Rattle.tcap_refute.proofs.sent_from_id.FromId.note.Goals as goal

pub returns : goal.returns
returns g c =
    on_ok_weaker c.note_components.result
    (message_noted c.args.table.now (g.M.MessageParts.meaning c.args.message.now) c.args.self.now c.note_head.new.self
    c.note_components.new.self c.note_head.ensures c.note_components.ensures.head)
    (rw c.components.ensures at c.note_components.ensures.ids)
