use Rattle.tcap_ber.specs.Reading.{span}
use Rattle.tcap_ber.proofs.ResultLaws.{next_found, next_only, next_faulty}
use Rattle.tcap_ber.proofs.window.next_tlv.Goals as goal

pub returns-clause-found : goal.returns-clause-found
returns-clause-found c = next_found (span c.args.window) c.read_next.result c.read_next.ensures.exact

pub returns-clause-only : goal.returns-clause-only
returns-clause-only c = next_only (span c.args.window) c.read_next.result c.read_next.ensures.exact

pub returns-clause-faulty : goal.returns-clause-faulty
returns-clause-faulty c = next_faulty (span c.args.window) c.read_next.result c.requires c.read_next.ensures.exact
