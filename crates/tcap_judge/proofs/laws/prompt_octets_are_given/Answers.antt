use Rattle.tcap_judge.proofs.OctetLaws.{prompt_given}
use Rattle.tcap_judge.proofs.laws.prompt_octets_are_given.Goals as goal

pub returns : goal.returns
returns c = prompt_given
