use Rattle.tcap_msg.proofs.MessageLaws.{message_complete}
use Rattle.tcap_msg.proofs.CanonicalLaws.{canonical_spells}
use Rattle.tcap_msg.proofs.laws.read_again.Goals as goal

pub returns : goal.returns
returns c = λ m octets more valid is. message_complete m octets more (canonical_spells m octets valid is)
