use Rattle.std.proofs.Common.{◌∙◌}
use Rattle.tcap_faults.proofs.transaction_laws.HistoryLookupLaws.{began_nowhere, began_there}
use Rattle.tcap_faults.proofs.transaction.sent_from_id.begins.Goals as goal

pub returns-in-Some : goal.returns-in-Some
returns-in-Some c = λ table side items id is.
    c.is_some.ensures ∙ began_there table side items id c.in-Some.kept.now (rw c.in-Some.is at is).1.from

pub returns-in-None : goal.returns-in-None
returns-in-None c = λ table side items id is. began_nowhere table side items id (rw c.in-None.is at is)
