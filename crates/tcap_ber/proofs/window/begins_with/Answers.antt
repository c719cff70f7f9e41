use Rattle.tcap_ber.proofs.ResultLaws.{begins_iff}
use Rattle.tcap_ber.proofs.window.begins_with.Goals as goal

pub returns-clause-begins : goal.returns-clause-begins
returns-clause-begins c = begins_iff c.args.tag c.args.window.octets.now c.is_first.result c.is_first.ensures
