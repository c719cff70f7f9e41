use Rattle.tcap_faults.proofs.transaction_laws.HistoryLookupLaws.{ended_nowhere, ended_there}
use Rattle.tcap_faults.proofs.transaction.sent_to_id.is_ended.Goals as goal

pub returns-in-Some : goal.returns-in-Some
returns-in-Some c = λ table side items id is.
    ended_there table side items id c.in-Some.kept.now (rw c.in-Some.is at is).1

pub returns-in-None : goal.returns-in-None
returns-in-None c = λ table side items id is. ended_nowhere table side items id (rw c.in-None.is at is)
