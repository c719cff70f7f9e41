use Rattle.std.proofs.Common.{ℕ, List, Ok, refl, sym, ap, subst, inr}
use Rattle.std.specs.Prelude.{◌≢◌}
use Rattle.tcap_certificate.specs.declared.fault.CheckFault.{CheckFault}
use Rattle.tcap_model.specs.declared.reason.Reason.TheVariants.{Memory}
use Rattle.tcap_certificate.specs.Replay.{fault_at}
use Rattle.tcap_certificate_text.specs.CertificateText.{IsCertificateText}
use Rattle.tcap_judge.proofs.table_and_certificate.read_certificate.Goals.{in-Memory, in_default}
use Rattle.tcap_judge.proofs.table_and_certificate.read_certificate.Goals as goal

pub returns-in-Ok : goal.returns-in-Ok
returns-in-Ok g c =
    let f = c.in-Err-from_json.fault in
    let other : f ≢ fault_at Memory 0 = elim c.match-matches.branch [
      | in-Memory w ↦ λ e. cc
      | in_default w ↦ λ e. w.in_default.not-Memory (ap (λ (x : CheckFault). x.reason) e)
    ] in
    let none = (c.in-Err-from_json.ensures.refused f refl other).1 in
    record {
      text = Ok c.in-Ok.text.items;
      reads = c.in-Ok.ensures.reads;
      is = inr (refl, λ x is. none x (subst (λ (o : List ℕ). IsCertificateText o x) (sym c.deref.ensures.value) is));
    }
