use Rattle.tcap_certificate_text.proofs.CertificateTextLaws.{certificate_again}
use Rattle.tcap_certificate_text.proofs.laws.what_is_written_is_read.Goals as goal

pub returns : goal.returns
returns c = certificate_again
