use Rattle.std.proofs.Common.{ap}
use Rattle.tcap_faults.specs.History.{dtids_of}
use Rattle.tcap_faults.proofs.transaction_laws.SameIdsLaws.{among_these}
use Rattle.tcap_faults.proofs.transaction.sent_from_id.goes_to.Goals as goal

pub returns-in-Some : goal.returns-in-Some
returns-in-Some c = λ table ms is.
    among_these (dtids_of ms) c.in-Some.kept.now.to (rw c.in-Some.is at is).1.from.to

pub returns-in-None : goal.returns-in-None
returns-in-None c = λ table ms is. ap dtids_of (rw c.in-None.is at is)
