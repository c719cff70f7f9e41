use Rattle.tcap_faults.proofs.verdict_laws.SearchLaws.{mark_taken}
use Rattle.tcap_faults.proofs.verdict.first_fault.SearchState.take_mark.Goals as goal

pub returns : goal.returns
returns c = λ items are.
    mark_taken c.args.table.now items c.args.number c.args.self.now _ c.at_mark-a.result c.at_mark-b.result
    (c.note_mark.ensures c.args.table.now items) (c.at_mark-a.ensures items are) (c.at_mark-b.ensures items are)
