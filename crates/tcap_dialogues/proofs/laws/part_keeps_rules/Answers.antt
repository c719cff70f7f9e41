use Rattle.tcap_dialogues.proofs.PartLaws.{part_keeps}
use Rattle.tcap_dialogues.proofs.laws.part_keeps_rules.Goals as goal

pub returns : goal.returns
returns c = part_keeps
