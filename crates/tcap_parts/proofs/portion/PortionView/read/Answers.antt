use Rattle.tcap_ber.specs.Reading.{element}
use Rattle.tcap_ber.proofs.ResultLaws.{body_found, body_only, body_faulty}
use Rattle.tcap_parts.specs.Component.{portion}
use Rattle.tcap_parts.specs.Meaning.{components_of}
use Rattle.tcap_parts.specs.Reading.{portion_at}
use Rattle.tcap_parts.proofs.PortionLaws.{reads_portion}
use Rattle.tcap_parts.proofs.portion.PortionView.read.Goals as goal

pub returns-clause-found : goal.returns-clause-found
returns-clause-found c = body_found portion portion_at reads_portion components_of (element c.args.tlv) c.from_content.result c.from_content.ensures.exact

pub returns-clause-only : goal.returns-clause-only
returns-clause-only c = body_only portion portion_at reads_portion components_of (element c.args.tlv) c.from_content.result c.from_content.ensures.exact

pub returns-clause-faulty : goal.returns-clause-faulty
returns-clause-faulty c = body_faulty portion portion_at reads_portion components_of (element c.args.tlv) c.from_content.result c.from_content.ensures.exact
