use Rattle.tcap_msg.proofs.MessageLaws.{one_fault}
use Rattle.tcap_msg.proofs.laws.one_fault.Goals as goal

pub returns : goal.returns
returns c = one_fault
