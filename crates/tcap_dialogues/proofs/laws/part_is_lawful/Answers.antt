use Rattle.tcap_dialogues.proofs.PartLaws.{part_lawful}
use Rattle.tcap_dialogues.proofs.laws.part_is_lawful.Goals as goal

pub returns : goal.returns
returns c = part_lawful
