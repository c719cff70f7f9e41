use Rattle.std.specs.Option.{option_map}
use Rattle.tcap_ber.specs.Grammar.{parameter}
use Rattle.tcap_ber.specs.Reading.{span, parameter_at}
use Rattle.tcap_ber.proofs.GrammarLaws.{reads_parameter}
use Rattle.tcap_ber.proofs.ResultLaws.{field_found, field_only, field_faulty}
use Rattle.tcap_ber.proofs.raw.RawView.parameter.Goals as goal

pub returns-clause-found : goal.returns-clause-found
returns-clause-found c = field_found parameter parameter_at reads_parameter (option_map (λ raw. raw.octets.now)) (span c.args.window) c.read_parameter.result c.read_parameter.ensures.exact

pub returns-clause-only : goal.returns-clause-only
returns-clause-only c = field_only parameter parameter_at reads_parameter (option_map (λ raw. raw.octets.now)) (span c.args.window) c.read_parameter.result c.read_parameter.ensures.exact

pub returns-clause-faulty : goal.returns-clause-faulty
returns-clause-faulty c = field_faulty parameter parameter_at reads_parameter (option_map (λ raw. raw.octets.now)) (span c.args.window) c.read_parameter.result c.read_parameter.ensures.exact
