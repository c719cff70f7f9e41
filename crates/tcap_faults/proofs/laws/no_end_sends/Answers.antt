use Rattle.tcap_faults.proofs.kind_laws.FaultLaws.{none_at_fault}
use Rattle.tcap_faults.proofs.laws.no_end_sends.Goals as goal

pub returns : goal.returns
returns c = none_at_fault
