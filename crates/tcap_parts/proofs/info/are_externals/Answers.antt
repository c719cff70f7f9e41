use Rattle.std.proofs.Common.{◌∙◌}
use Rattle.tcap_ber.specs.Reading.{span}
use Rattle.tcap_parts.proofs.InfoLaws.{is_ok_are, are_iff}
use Rattle.tcap_parts.proofs.info.are_externals.Goals as goal

pub returns-clause-all : goal.returns-clause-all
returns-clause-all c =
    are_iff c.args.octets.now c.is_ok.result
    (c.is_ok.ensures.value ∙ is_ok_are c.args.octets.now (span c.new.result) c.count_externals.result c.new.ensures c.count_externals.ensures.ok c.count_externals.ensures.err)

pub returns-clause-exact : goal.returns-clause-exact
returns-clause-exact c =
    c.is_ok.ensures.value ∙ is_ok_are c.args.octets.now (span c.new.result) c.count_externals.result c.new.ensures c.count_externals.ensures.ok c.count_externals.ensures.err
