use Rattle.tcap_judge.proofs.OctetLaws.{prompt_says}
use Rattle.tcap_judge.proofs.laws.prompt_certificates_say_so_of_octets.Goals as goal

pub returns : goal.returns
returns c = prompt_says
