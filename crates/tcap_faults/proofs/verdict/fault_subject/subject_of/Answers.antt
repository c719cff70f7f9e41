use Rattle.std.proofs.Common.{refl, sym, ◌∙◌}
use Rattle.tcap_model.specs.Entries.{item_of}
use Rattle.tcap_faults.specs.RelevantItems.{items_for_entry}
use Rattle.tcap_faults.specs.Replay.{items_up_to}
use Rattle.tcap_faults.proofs.verdict_laws.RelevantItemsLaws.{matters_alone}
use Rattle.tcap_faults.proofs.verdict_laws.RelevantEntriesLaws.{noted_roomy}
use Rattle.tcap_faults.proofs.verdict_laws.SubjectLaws.{subject_nowhere, subject_there}
use Rattle.tcap_faults.proofs.verdict.fault_subject.subject_of.Goals as goal

pub returns-in_default : goal.returns-in_default
returns-in_default c =
    c.no_subject.ensures
    ∙ subject_nowhere c.args.of_one c.args.table.now c.args.end c.args.record.now.entries.items c.args.at
    (sym c.in_default.ensures.entry)

pub returns : goal.returns
returns c =
    let table = c.args.table.now in
    let side = c.args.end in
    let entries = c.args.record.now.entries.items in
    let entry = c.in-Some.entry.now in
    let number = c.args.at.entry in
    let items = items_up_to entries number in
    let those = items_for_entry side (item_of entry) items in
    let known = c.in_ok-kept.ensures in
    c.in_ok-subject_of_entry.ensures those known.are
    (noted_roomy table those number c.in_ok-kept.kept known (c.in-Some.ensures.small refl)
    c.entry_count-count.result c.entry_count-count.ensures.small entry c.entry_count-count.ensures.count)
    ∙ matters_alone c.args.of_one table side items (item_of entry) c.args.at.kind
    ∙ subject_there c.args.of_one table side entries c.args.at entry (sym c.in-Some.ensures.entry)
