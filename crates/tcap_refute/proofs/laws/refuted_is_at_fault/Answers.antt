use Rattle.tcap_refute.proofs.RefutedLaws.{at_fault}
use Rattle.tcap_refute.proofs.laws.refuted_is_at_fault.Goals as goal

pub returns : goal.returns
returns c = at_fault
