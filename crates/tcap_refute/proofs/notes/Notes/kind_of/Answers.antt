use Rattle.std.proofs.Common.{false, ◌∙◌}
use Rattle.tcap_refute.proofs.AskLaws.{kind_kept, noted_of_ids}
use Rattle.tcap_refute.proofs.notes.Notes.kind_of.Goals as goal

pub returns : goal.returns
returns g c = λ items are.
    let m = g.M.MessageParts.meaning c.args.message.now in
    let table = c.args.table.now in
    c.kind_by.ensures
    ∙ kind_kept false table items c.args.side m _ _ _
    (noted_of_ids table items c.args.self.now are c.args.side m _ _ _
    (rw (c.at-sender.ensures, c.otid.ensures) at c.from-own.ensures)
    (rw (c.at.ensures, c.other.ensures, c.dtid.ensures) at c.from-from_peer.ensures)
    (rw (c.at-sender.ensures, c.dtid-2.ensures) at c.has_ended-has_ended.ensures))
