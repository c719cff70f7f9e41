use Rattle.tcap_msg.proofs.SpellingLaws.{no_longer_spelling}
use Rattle.tcap_msg.proofs.laws.no_longer_spelling.Goals as goal

pub returns : goal.returns
returns c = no_longer_spelling
