use Rattle.tcap_ber.proofs.ResultLaws.{tag_iff}
use Rattle.tcap_ber.proofs.element.Tag.is.Goals as goal

pub returns-clause-own : goal.returns-clause-own
returns-clause-own c = tag_iff c.args.octet c.args.self.octets.now c.is_only.result c.is_only.ensures
