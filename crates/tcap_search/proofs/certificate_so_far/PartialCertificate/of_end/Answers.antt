use Rattle.std.proofs.Common.{◌∙◌, ap, sym}
use Rattle.tcap_certificate.specs.Certificate.{Certificate}
use Rattle.tcap_search.proofs.FoundLaws.{same_as_both, same_fates}
use Rattle.tcap_search.proofs.certificate_so_far.PartialCertificate.of_end.Goals as goal

pub returns-then-eq : goal.returns-then-eq
returns-then-eq c =
    same_as_both c.args.side c.args.marked c.args.entries.now c.args.self.now c.requires.both
    c.in_ok-fates.fates.items c.in_ok-fates.ensures
    (same_fates _ _ (sym c.if-eq.ensures) ∙ ap (λ (found : Certificate). found.fates) c.self.view_is)
