use Rattle.tcap_refute.proofs.RefutedLaws.{never_lawful}
use Rattle.tcap_refute.proofs.laws.refuted_is_never_lawful.Goals as goal

pub returns : goal.returns
returns c = never_lawful
