use Rattle.tcap_judge.proofs.NeverGivenLaws.{never_given}
use Rattle.tcap_judge.proofs.laws.blamed_is_never_given.Goals as goal

pub returns : goal.returns
returns c = never_given
