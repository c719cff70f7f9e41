use Rattle.tcap_faults.proofs.verdict_laws.SubjectLaws.{mark_noted}
use Rattle.tcap_faults.proofs.transaction.history.Facts.note_entry.Goals as goal

pub returns-in-None-Quiet : goal.returns-in-None-Quiet
returns-in-None-Quiet c = λ items are.
    mark_noted c.args.table.now items c.args.entry.now c.note_mark.new.self c.in-None-Quiet.is-0 c.in-None-Quiet.is-1
    (c.note_mark.ensures c.args.table.now items)
