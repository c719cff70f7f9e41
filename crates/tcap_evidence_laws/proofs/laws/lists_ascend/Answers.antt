use Rattle.tcap_evidence_laws.proofs.AscendingLaws.{grounds_ascend, invocations_ascend}
use Rattle.tcap_evidence_laws.proofs.laws.lists_ascend.Goals as goal

pub returns : goal.returns
returns c = record { grounds = grounds_ascend; invocations = invocations_ascend }
