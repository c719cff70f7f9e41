use Rattle.tcap_ber.specs.Reading.{span}
use Rattle.tcap_parts.proofs.InfoLaws.{none_refused, count_is, count_spelled}
use Rattle.tcap_parts.proofs.info.InfoView.count.Goals as goal

pub unreachable-requires : goal.unreachable-requires
unreachable-requires c = none_refused c.args.self.octets.now (span c.new.result) c.in_default.field-0 c.new.ensures c.args.self.externals c.in_default.ensures.err

pub returns-clause-spelled : goal.returns-clause-spelled
returns-clause-spelled c = count_spelled c.args.self.octets.now (span c.new.result) c.in-Ok.count c.new.ensures c.in-Ok.ensures.ok

pub returns-clause-exact : goal.returns-clause-exact
returns-clause-exact c = count_is c.args.self.octets.now (span c.new.result) c.in-Ok.count c.new.ensures c.in-Ok.ensures.ok
