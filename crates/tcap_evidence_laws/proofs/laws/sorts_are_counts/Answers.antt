use Rattle.tcap_evidence_laws.proofs.CountedLaws.{sorts_are}
use Rattle.tcap_evidence_laws.proofs.laws.sorts_are_counts.Goals as goal

pub returns : goal.returns
returns c = sorts_are
