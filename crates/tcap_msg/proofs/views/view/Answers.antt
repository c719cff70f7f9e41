use Rattle.tcap_msg.specs.Meaning.{message_of}
use Rattle.tcap_msg.proofs.DecodeLaws.{view_found, view_only, view_faulty, view_none, view_never}
use Rattle.tcap_msg.proofs.views.view.Goals as goal

pub returns-clause-found : goal.returns-clause-found
returns-clause-found c = view_found message_of c.args.octets.now c.read.result c.read.ensures.exact

pub returns-clause-only : goal.returns-clause-only
returns-clause-only c = view_only message_of c.args.octets.now c.read.result c.read.ensures.exact

pub returns-clause-faulty : goal.returns-clause-faulty
returns-clause-faulty c = view_faulty message_of c.args.octets.now c.read.result c.read.ensures.exact

pub returns-clause-none : goal.returns-clause-none
returns-clause-none c = view_none message_of c.args.octets.now c.read.result c.read.ensures.exact

pub returns-clause-never : goal.returns-clause-never
returns-clause-never c = view_never message_of c.args.octets.now c.read.result c.read.ensures.exact
