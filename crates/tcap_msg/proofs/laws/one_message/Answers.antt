use Rattle.tcap_msg.proofs.SpellingLaws.{one_message}
use Rattle.tcap_msg.proofs.laws.one_message.Goals as goal

pub returns : goal.returns
returns c = one_message
