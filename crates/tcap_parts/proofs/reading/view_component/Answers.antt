use Rattle.tcap_ber.specs.Reading.{span}
use Rattle.tcap_ber.proofs.ResultLaws.{field_found, field_only, field_faulty}
use Rattle.tcap_parts.specs.Component.{component}
use Rattle.tcap_parts.specs.Meaning.{component_of}
use Rattle.tcap_parts.specs.Reading.{component_at}
use Rattle.tcap_parts.proofs.ComponentLaws.{reads_component}
use Rattle.tcap_parts.proofs.reading.view_component.Goals as goal

pub returns-clause-found : goal.returns-clause-found
returns-clause-found c = field_found component component_at reads_component component_of (span c.args.window) c.read_component.result c.read_component.ensures.exact

pub returns-clause-only : goal.returns-clause-only
returns-clause-only c = field_only component component_at reads_component component_of (span c.args.window) c.read_component.result c.read_component.ensures.exact

pub returns-clause-faulty : goal.returns-clause-faulty
returns-clause-faulty c = field_faulty component component_at reads_component component_of (span c.args.window) c.read_component.result c.read_component.ensures.exact
