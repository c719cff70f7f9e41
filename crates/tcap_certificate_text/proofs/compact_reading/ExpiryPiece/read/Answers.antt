use Rattle.tcap_certificate_text.proofs.CompactLaws.{expiry_joined}
use Rattle.tcap_certificate_text.proofs.compact_reading.ExpiryPiece.read.Goals as goal

pub returns-clause-text : goal.returns-clause-text
returns-clause-text c =
    expiry_joined _ _ _ _ _ _ _ _ c.in_ok-gap.ensures.text c.in_ok-component.ensures.text c.in_ok-after.ensures c.in_ok-side.ensures
    c.in_ok-entry.ensures.text c.in_ok-rest.ensures
