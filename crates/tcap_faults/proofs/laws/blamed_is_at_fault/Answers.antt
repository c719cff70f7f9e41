use Rattle.tcap_faults.proofs.kind_laws.BlamedLaws.{blamed_at_fault}
use Rattle.tcap_faults.proofs.laws.blamed_is_at_fault.Goals as goal

pub returns : goal.returns
returns c = blamed_at_fault
