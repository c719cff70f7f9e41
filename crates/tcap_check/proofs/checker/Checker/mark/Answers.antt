use Rattle.std.proofs.Common.{Option, None, Result, Err, refl, sym, ap, ◌∙◌, false}
use Rattle.tcap_certificate.specs.declared.fault.CheckFault.{CheckFault}
use Rattle.tcap_check.specs.CheckerMeaning.{CheckerState, answer_of, so_far_of}
use Rattle.tcap_check.specs.ReplayInvariants.{kept_in}
use Rattle.tcap_check.proofs.checker_laws.CheckerLaws.{stays, took_ok, took_err, turned}
use Rattle.tcap_check.proofs.checker_laws.RefusalLaws.{refusal, refuses_for_good}
use Rattle.tcap_check.proofs.checker.Checker.mark.Goals as goal

pub returns-in-Some-clause-took : goal.returns-in-Some-clause-took
returns-in-Some-clause-took c = λ entries took other.
    stays false c.args.self.now c.in-Some.fault _
    (ap (λ (x : CheckerState). x.so_far) (sym c.self.view_is) ∙ ap (λ (o : Option CheckFault). so_far_of o (kept_in c.self.inside.replaying)) c.in-Some.is)
    entries took

pub returns-in-Err-clause-took : goal.returns-in-Err-clause-took
returns-in-Err-clause-took c = λ entries took other.
    let r = c.self.inside.replaying in
    rw (c.take_mark-answer.ensures.judged, c.take_mark-answer.ensures.table, c.take_mark-answer.ensures.certificate)
    (took_err false r.judged r.table.now r.certificate.now (kept_in r) (kept_in r) _ c.in-Err.fault
    (c.in-Err.ensures.taken (λ is. other (ap (λ (f : CheckFault). let x : Result (Unit {0}) CheckFault = Err f in x) is))) entries
    (turned false c.args.self.now r.judged r.table.now r.certificate.now c.self.inside.fault None (kept_in r) (sym c.self.view_is) c.in_default.is entries took))

pub returns-in_default-answer-clause-took : goal.returns-in_default-answer-clause-took
returns-in_default-answer-clause-took c = λ entries took other.
    let r = c.self.inside.replaying in
    rw (c.in_default.is, c.take_mark-answer.ensures.judged, c.take_mark-answer.ensures.table, c.take_mark-answer.ensures.certificate)
    (took_ok false r.judged r.table.now r.certificate.now (kept_in r) (kept_in c.take_mark-answer.new.self) _ c.in_default-answer.ensures.taken entries
    (turned false c.args.self.now r.judged r.table.now r.certificate.now c.self.inside.fault None (kept_in r) (sym c.self.view_is) c.in_default.is entries took))

pub returns-in-Some-clause-refuses : goal.returns-in-Some-clause-refuses
returns-in-Some-clause-refuses c =
    refuses_for_good c.args.self.now c.args.self.now _ (refusal c.in-Some.fault) (returns-in-Some-clause-took c)
    (sym (ap answer_of (ap (λ (x : CheckerState). x.so_far) (sym c.self.view_is)
    ∙ ap (λ (o : Option CheckFault). so_far_of o (kept_in c.self.inside.replaying)) c.in-Some.is))) refl refl refl

pub returns-in-Err-clause-refuses : goal.returns-in-Err-clause-refuses
returns-in-Err-clause-refuses c =
    refuses_for_good c.args.self.now _ _ (refusal c.in-Err.fault) (returns-in-Err-clause-took c) refl
    (c.take_mark-answer.ensures.judged ∙ ap (λ (x : CheckerState). x.judged) c.self.view_is)
    (ap (λ x. x.now) c.take_mark-answer.ensures.table ∙ ap (λ (x : CheckerState). x.table) c.self.view_is)
    (ap (λ x. x.now) c.take_mark-answer.ensures.certificate ∙ ap (λ (x : CheckerState). x.certificate) c.self.view_is)
