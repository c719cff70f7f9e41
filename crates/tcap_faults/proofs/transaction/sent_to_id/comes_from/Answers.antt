use Rattle.std.proofs.Common.{ap}
use Rattle.tcap_faults.specs.History.{otids_of}
use Rattle.tcap_faults.proofs.transaction_laws.SameIdsLaws.{among_these}
use Rattle.tcap_faults.proofs.transaction.sent_to_id.comes_from.Goals as goal

pub returns-in-Some : goal.returns-in-Some
returns-in-Some c = λ table ms is.
    among_these (otids_of ms) c.in-Some.kept.now.from (rw c.in-Some.is at is).1.from

pub returns-in-None : goal.returns-in-None
returns-in-None c = λ table ms is. ap otids_of (rw c.in-None.is at is)
