use Rattle.std.proofs.Common.{Option, None, refl, sym, ap, ◌∙◌, false}
use Rattle.tcap_certificate.specs.declared.fault.CheckFault.{CheckFault}
use Rattle.tcap_check.specs.CheckerMeaning.{CheckerState, answer_of, so_far_of}
use Rattle.tcap_check.specs.ReplayInvariants.{kept_in}
use Rattle.tcap_check.proofs.checker_laws.CheckerLaws.{stays, took_err, turned}
use Rattle.tcap_check.proofs.checker_laws.RefusalLaws.{refusal, refuses_for_good}
use Rattle.tcap_check.proofs.checker.Checker.no_item.Goals as goal

pub returns-in-Some-clause-took : goal.returns-in-Some-clause-took
returns-in-Some-clause-took c =
    stays false c.args.self.now c.in-Some.fault _
    (ap (λ (x : CheckerState). x.so_far) (sym c.self.view_is) ∙ ap (λ (o : Option CheckFault). so_far_of o (kept_in c.self.inside.replaying)) c.in-Some.is)

pub returns-clause-took : goal.returns-clause-took
returns-clause-took c =
    let r = c.self.inside.replaying in
    λ entries took. took_err false r.judged r.table.now r.certificate.now (kept_in r) (kept_in r) _ c.refuse-fault.result c.refuse-fault.ensures entries
    (turned false c.args.self.now r.judged r.table.now r.certificate.now c.self.inside.fault None (kept_in r) (sym c.self.view_is) c.in_default.is entries took)

pub returns-in-Some-clause-refuses : goal.returns-in-Some-clause-refuses
returns-in-Some-clause-refuses c =
    refuses_for_good c.args.self.now c.args.self.now _ (refusal c.in-Some.fault) (λ entries took other. returns-in-Some-clause-took c entries took)
    (sym (ap answer_of (ap (λ (x : CheckerState). x.so_far) (sym c.self.view_is)
    ∙ ap (λ (o : Option CheckFault). so_far_of o (kept_in c.self.inside.replaying)) c.in-Some.is))) refl refl refl

pub returns-clause-refuses : goal.returns-clause-refuses
returns-clause-refuses c =
    refuses_for_good c.args.self.now _ _ (refusal c.refuse-fault.result) (λ entries took other. returns-clause-took c entries took) refl
    (ap (λ (x : CheckerState). x.judged) c.self.view_is) (ap (λ (x : CheckerState). x.table) c.self.view_is) (ap (λ (x : CheckerState). x.certificate) c.self.view_is)
