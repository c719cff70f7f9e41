use Rattle.tcap_faults.proofs.verdict_laws.SubjectLaws.{sent_subject}
use Rattle.tcap_faults.proofs.transaction.history.Facts.subject_of_entry.Goals as goal

pub returns-in-Some-Good : goal.returns-in-Some-Good
returns-in-Some-Good c = λ items are roomy.
    sent_subject c.args.of_one c.args.table.now c.args.side items c.args.entry.now c.in-Some-Good.field-0-0
    c.in-Some-Good.message c.args.kind c.subject.result c.in-Some-Good.is-0 c.in-Some-Good.is-1 roomy
    (rw c.view.ensures at c.subject.ensures items are)
