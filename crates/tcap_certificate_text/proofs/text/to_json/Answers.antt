use Rattle.std.proofs.Common.{◌≡◌, ◌∙◌}
use Rattle.serde_json.specs.View.{view}
use Rattle.tcap_certificate_text.specs.CertificateText.{certificate_data}
use Rattle.tcap_certificate_text.proofs.CertificateTextLaws.{text_read, text_written}
use Rattle.tcap_certificate_text.proofs.text.to_json.Goals as goal

-- the value is the one written for the certificate
is_value : (c : goal.Joined-branch-2) → view c.in_ok-certificate_value.field-0 ≡ certificate_data c.args.certificate.now
is_value c = rw (c.fates-fates.ensures.lends, c.expiries.ensures, c.closings.ensures) at c.in_ok-certificate_value.ensures

pub returns-clause-text : goal.returns-clause-text
returns-clause-text c = text_written _ _ _ (is_value c) c.to_string.ensures.text

pub returns-clause-read_again : goal.returns-clause-read_again
returns-clause-read_again c = text_read _ _ _ (is_value c) c.fates-fates.ensures.limits c.to_string.ensures.reads_back
