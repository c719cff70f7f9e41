use Rattle.tcap_ber.specs.Reading.{span}
use Rattle.tcap_ber.proofs.ResultLaws.{any_found, any_only, any_faulty}
use Rattle.tcap_ber.proofs.window.required_any.Goals as goal

pub returns-clause-found : goal.returns-clause-found
returns-clause-found c = any_found (span c.args.window) c.read_any.result c.read_any.ensures.exact

pub returns-clause-only : goal.returns-clause-only
returns-clause-only c = any_only (span c.args.window) c.read_any.result c.read_any.ensures.exact

pub returns-clause-faulty : goal.returns-clause-faulty
returns-clause-faulty c = any_faulty (span c.args.window) c.read_any.result c.read_any.ensures.exact
