use Rattle.std.proofs.Common.{sym}
use Rattle.tcap_refute.proofs.ItemLaws.{passes}
use Rattle.tcap_refute.proofs.notes.Notes.take_message.Goals as goal

pub returns-in-Some : goal.returns-in-Some
returns-in-Some g c = λ items are. sym (c.in-Some.ensures items are)

pub returns : goal.returns
returns g c = λ items are.
    passes c.args.side (g.M.MessageParts.meaning c.args.message.now) c.args.table.now items c.args.self.now
    c.note.new.self are c.kind_of.result (c.kind_of.ensures items are) c.in_default.is c.in_ok-note.ensures
