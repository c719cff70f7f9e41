use Rattle.tcap_ber.specs.Reading.{span}
use Rattle.tcap_ber.proofs.ResultLaws.{required_found, required_only, required_faulty}
use Rattle.tcap_ber.proofs.window.required.Goals as goal

pub returns-clause-found : goal.returns-clause-found
returns-clause-found c = required_found c.args.tag (span c.args.window) c.read_required.result c.read_required.ensures.exact

pub returns-clause-only : goal.returns-clause-only
returns-clause-only c = required_only c.args.tag (span c.args.window) c.read_required.result c.read_required.ensures.exact

pub returns-clause-faulty : goal.returns-clause-faulty
returns-clause-faulty c = required_faulty c.args.tag (span c.args.window) c.read_required.result c.read_required.ensures.exact
