use Rattle.tcap_certificate_text.proofs.CertificateTextLaws.{certificate_fits}
use Rattle.tcap_certificate_text.proofs.laws.what_is_read_is_in_limits.Goals as goal

pub returns : goal.returns
returns c = certificate_fits
