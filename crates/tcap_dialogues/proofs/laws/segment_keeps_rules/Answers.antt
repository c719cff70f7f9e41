use Rattle.tcap_dialogues.proofs.StretchLaws.{segment_keeps}
use Rattle.tcap_dialogues.proofs.laws.segment_keeps_rules.Goals as goal

pub returns : goal.returns
returns c = λ side before items table. segment_keeps table side before items
