use Rattle.tcap_dialogues.proofs.OnceLaws.{is_the_cut}
use Rattle.tcap_dialogues.proofs.laws.once_is_the_cut.Goals as goal

pub returns : goal.returns
returns c = is_the_cut
