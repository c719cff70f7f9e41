use Rattle.std.proofs.Common.{arith, sym}
use Rattle.serde_json.specs.View.{members_view}
use Rattle.tcap_certificate_text.proofs.CertificateTextLaws.{lists_fit}
use Rattle.tcap_certificate_text.proofs.text.certificate_in.Goals as goal

pub of_parts-requires : goal.of_parts-requires
of_parts-requires c =
    lists_fit (members_view c.in-Some.members.now.entries) _ _ _
    (sym (rw c.in-Some-Some-Some.is-0 at c.in_ok-close.ensures))
    (sym (rw c.in-Some-Some-Some.is-1 at c.in_ok-expire.ensures))
    (sym (rw c.in-Some-Some-Some.is-2 at c.in_ok-fates.ensures))
    (omega arith)
