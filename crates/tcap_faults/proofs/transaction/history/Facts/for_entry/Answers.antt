use Rattle.std.proofs.Common.{ap, sym}
use Rattle.tcap_faults.specs.RelevantItems.{items_for_half}
use Rattle.tcap_faults.specs.Replay.{items_up_to}
use Rattle.tcap_faults.proofs.verdict_laws.RelevantEntriesLaws.{none_for_bad, none_from_no_end, noted_nothing}
use Rattle.tcap_faults.proofs.transaction.history.Facts.for_entry.Goals as goal
use Rattle.tcap_faults.proofs.transaction.history.Facts.for_entry.Goals.{in_default-via-in-Some+in_default, in_default-via-in_default}

pub returns-in_default : goal.returns-in_default
returns-in_default c =
    let items = items_up_to c.args.record.now.entries.items c.args.number in
    noted_nothing c.args.table.now _ c.args.number c.new.result
    (elim c.in_default.branch [
      | in_default-via-in-Some+in_default w ↦ none_for_bad c.args.side items c.args.entry.now w.in_default.not-Good-1
      | in_default-via-in_default w ↦ none_from_no_end c.args.side items c.args.entry.now w.in_default.is-0
    ])
    (c.new.ensures c.args.table.now)

pub returns-in-None : goal.returns-in-None
returns-in-None c =
    let items = items_up_to c.args.record.now.entries.items c.args.number in
    noted_nothing c.args.table.now _ c.args.number c.new-in-None.result
    (rw (c.in-Some-Good.is-0, c.in-Some-Good.is-1)
    (ap (λ o. items_for_half c.args.side o items) (sym (rw c.view-view.ensures at c.in-None.ensures))))
    (c.new-in-None.ensures c.args.table.now)
