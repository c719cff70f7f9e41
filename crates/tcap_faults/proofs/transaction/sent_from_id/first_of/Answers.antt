use Rattle.tcap_faults.proofs.transaction_laws.HistoryLookupLaws.{first_nowhere, first_there}
use Rattle.tcap_faults.proofs.transaction.sent_from_id.first_of.Goals as goal

pub returns-in-Some : goal.returns-in-Some
returns-in-Some c = λ table side items id fact is.
    first_there table side items id c.in-Some.kept.now (rw c.in-Some.is at is).1 fact

pub returns-in-None : goal.returns-in-None
returns-in-None c = λ table side items id fact is. first_nowhere table side items id (rw c.in-None.is at is) fact
