use Rattle.tcap_ber.proofs.ResultLaws.{whole_iff, needs_more, fault_iff}
use Rattle.tcap_ber.proofs.window.outer.Goals as goal

pub returns-clause-whole : goal.returns-clause-whole
returns-clause-whole c = whole_iff c.args.octets.now c.read_outer.result c.read_outer.ensures.exact

pub returns-clause-need : goal.returns-clause-need
returns-clause-need c = needs_more c.args.octets.now c.read_outer.result c.read_outer.ensures.exact

pub returns-clause-fault : goal.returns-clause-fault
returns-clause-fault c = fault_iff c.args.octets.now c.read_outer.result c.read_outer.ensures.exact
