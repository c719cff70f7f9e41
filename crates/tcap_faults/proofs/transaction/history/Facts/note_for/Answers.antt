use Rattle.std.proofs.Common.{filter, sym, ◌∙◌}
use Rattle.tcap_faults.specs.RelevantItems.{matters_for_half}
use Rattle.tcap_faults.specs.Replay.{items_up_to}
use Rattle.tcap_faults.proofs.verdict_laws.RelevantEntriesLaws.{noted_more, on_ok_then, passed_over}
use Rattle.tcap_faults.proofs.transaction.history.Facts.note_for.Goals as goal

pub returns-then-not-entry_matters : goal.returns-then-not-entry_matters
returns-then-not-entry_matters c = λ entries number so_far there.
    passed_over c.args.table.now c.args.side c.args.id.octets.now entries number c.args.self.now so_far c.args.entry.now there
    (λ item good. sym (c.entry_matters.ensures item good) ∙ c.if-not-entry_matters.true)

pub returns : goal.returns
returns c = λ entries number so_far there.
    let before = filter (matters_for_half c.args.side c.args.id.octets.now) (items_up_to entries number) in
    on_ok_then c.note_entry.result
    (noted_more c.args.table.now c.args.side c.args.id.octets.now entries number c.args.self.now so_far c.args.entry.now there
    c.entry_count-count.result c.entry_count-count.ensures.count c.entry_count-count.ensures.small
    (λ item good. sym (c.entry_matters.ensures item good) ∙ c.if-not-entry_matters.false) c.note_entry.new.self)
    (c.note_entry.ensures before so_far.are)
