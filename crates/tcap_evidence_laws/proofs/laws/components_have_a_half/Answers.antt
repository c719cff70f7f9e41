use Rattle.tcap_evidence_laws.proofs.GroundLaws.{has_half}
use Rattle.tcap_evidence_laws.proofs.laws.components_have_a_half.Goals as goal

pub returns : goal.returns
returns c = λ table side items m kind to. has_half table side items m to kind
