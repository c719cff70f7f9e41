use Rattle.tcap_judge.proofs.OctetLaws.{read_spells}
use Rattle.tcap_judge.proofs.laws.what_is_read_spells_its_items.Goals as goal

pub returns : goal.returns
returns c = read_spells
