use Rattle.std.proofs.Common.{sym, ◌∙◌}
use Rattle.tcap_search.proofs.FoundLaws.{certificate_is, same_closings, same_expiries, same_fates}
use Rattle.tcap_search.proofs.certificate_so_far.PartialCertificate.is_same.Goals.{then-eq, else-eq}
use Rattle.tcap_search.proofs.certificate_so_far.PartialCertificate.is_same.Goals as goal

pub returns-then-eq-2 : goal.returns-then-eq-2
returns-then-eq-2 c =
    λ same.
    elim c.if-eq.branch [
      | then-eq w ↦
          sym c.self.view_is
          ∙ certificate_is _ _ (same_fates _ _ (sym c.eq.ensures ∙ w.if-eq.true))
          (same_expiries _ _ (sym w.eq-then-eq.ensures ∙ sym w.value-is ∙ c.if-eq-2.true))
          (same_closings _ _ (sym c.eq-then-eq-2.ensures ∙ same))
          ∙ c.other.view_is
      | else-eq w ↦ cc (sym w.value-is ∙ c.if-eq-2.true)
    ]
