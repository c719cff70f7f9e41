use Rattle.tcap_ber.specs.Reading.{span}
use Rattle.tcap_ber.proofs.ResultLaws.{raw_found, raw_only, raw_faulty}
use Rattle.tcap_ber.proofs.raw.RawView.next.Goals as goal

pub returns-clause-found : goal.returns-clause-found
returns-clause-found c = raw_found (span c.args.window) c.read_next.result c.read_next.ensures.exact

pub returns-clause-only : goal.returns-clause-only
returns-clause-only c = raw_only (span c.args.window) c.read_next.result c.read_next.ensures.exact

pub returns-clause-faulty : goal.returns-clause-faulty
returns-clause-faulty c = raw_faulty (span c.args.window) c.read_next.result c.requires c.read_next.ensures.exact
