use Rattle.tcap_judge.proofs.OctetLaws.{one_list}
use Rattle.tcap_judge.proofs.laws.octets_spell_one_list.Goals as goal

pub returns : goal.returns
returns c = one_list
