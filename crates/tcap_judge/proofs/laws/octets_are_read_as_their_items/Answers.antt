use Rattle.tcap_judge.proofs.OctetLaws.{read_as_items}
use Rattle.tcap_judge.proofs.laws.octets_are_read_as_their_items.Goals as goal

pub returns : goal.returns
returns c = read_as_items
