use Rattle.tcap_msg.proofs.DecodeLaws.{value_found, value_only, value_faulty, value_refused, value_none, value_never}
use Rattle.tcap_msg.proofs.message.decode.Goals as goal

pub returns-clause-found : goal.returns-clause-found
returns-clause-found c = value_found c.args.octets.now c.read.result c.read.ensures.exact

pub returns-clause-only : goal.returns-clause-only
returns-clause-only c = value_only c.args.octets.now c.read.result c.read.ensures.exact

pub returns-clause-faulty : goal.returns-clause-faulty
returns-clause-faulty c = value_faulty c.args.octets.now c.read.result c.read.ensures.exact

pub returns-clause-refused : goal.returns-clause-refused
returns-clause-refused c = value_refused c.args.octets.now c.read.result c.read.ensures.exact

pub returns-clause-none : goal.returns-clause-none
returns-clause-none c = value_none c.args.octets.now c.read.result c.read.ensures.exact

pub returns-clause-never : goal.returns-clause-never
returns-clause-never c = value_never c.args.octets.now c.read.result c.read.ensures.exact
