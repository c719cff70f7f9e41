use Rattle.tcap_ber.proofs.ResultLaws.{raw_iff}
use Rattle.tcap_ber.proofs.raw.is_whole.Goals as goal

pub returns-clause-raw : goal.returns-clause-raw
returns-clause-raw c = raw_iff c.args.octets.now c.is_read_whole.result c.is_read_whole.ensures
