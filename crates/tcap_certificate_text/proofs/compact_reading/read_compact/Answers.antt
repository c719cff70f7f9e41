use Rattle.std.proofs.Common.{arith, subst, sym}
use Rattle.tcap_certificate.specs.Certificate.{IsInLimits}
use Rattle.tcap_certificate.specs.Certificate.{Certificate}
use Rattle.tcap_certificate_text.specs.CertificateText.{IsCertificateText}
use Rattle.tcap_certificate_text.proofs.CompactLaws.{pieces_say}
use Rattle.tcap_certificate_text.proofs.compact_reading.read_compact.Goals as goal

pub returns : goal.returns
returns c =
    let close = rw c.in-Some.is at c.in_ok-close.ensures in
    let expire = rw c.in-Some-2.is at c.in_ok-expire.ensures in
    let fates = rw c.in-Some-3.is at c.in_ok-fates.ensures in
    let made : Certificate = record {
      fates = c.in-Some-3.fates.items;
      expire = c.in-Some-2.expire.items;
      close = c.in-Some.close.items;
    } in
    let limits : IsInLimits made = record {
      count = omega arith;
      fates = fates.fits;
      closings = close.fits;
      expiries = expire.fits;
    } in
    subst (λ found. IsCertificateText c.args.octets.now found) (sym c.of_parts.ensures)
    (pieces_say made _ _ _ _ limits close.text expire.text fates.text (c.is_end.ensures c.if-not-is_end.false))
