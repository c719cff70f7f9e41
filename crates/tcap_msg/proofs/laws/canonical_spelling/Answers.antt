use Rattle.tcap_msg.proofs.CanonicalLaws.{canonical_spells}
use Rattle.tcap_msg.proofs.laws.canonical_spelling.Goals as goal

pub returns : goal.returns
returns c = canonical_spells
