use Rattle.tcap_ber.specs.Reading.{element}
use Rattle.tcap_ber.proofs.ResultLaws.{body_found, body_only, body_faulty}
use Rattle.tcap_parts.specs.Info.{info}
use Rattle.tcap_parts.specs.InfoReading.{info_of}
use Rattle.tcap_parts.proofs.InfoLaws.{reads_info}
use Rattle.tcap_parts.proofs.info.InfoView.read.Goals as goal

pub returns-clause-found : goal.returns-clause-found
returns-clause-found c = body_found info info_of reads_info (λ view. view.octets.now) (element c.args.tlv) c.from_content.result c.from_content.ensures.exact

pub returns-clause-only : goal.returns-clause-only
returns-clause-only c = body_only info info_of reads_info (λ view. view.octets.now) (element c.args.tlv) c.from_content.result c.from_content.ensures.exact

pub returns-clause-faulty : goal.returns-clause-faulty
returns-clause-faulty c = body_faulty info info_of reads_info (λ view. view.octets.now) (element c.args.tlv) c.from_content.result c.from_content.ensures.exact
