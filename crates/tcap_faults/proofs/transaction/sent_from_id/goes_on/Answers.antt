use Rattle.std.proofs.Common.{sym, ap, ◌∙◌}
use Rattle.std.specs.List.{list_any}
use Rattle.tcap_faults.specs.SentToId.{is_continue_to}
use Rattle.tcap_faults.proofs.transaction_laws.HistoryLookupLaws.{goes_there}
use Rattle.tcap_faults.proofs.transaction.sent_from_id.goes_on.Goals as goal

pub returns-in-Some : goal.returns-in-Some
returns-in-Some c = λ table ms is.
    c.contains_key.ensures ∙ goes_there table ms c.in-Some.kept.now (rw c.in-Some.is at is).1.from c.args.to.now

pub returns-in-None : goal.returns-in-None
returns-in-None c = λ table ms is. ap (list_any (is_continue_to c.args.to.now)) (sym (rw c.in-None.is at is))
