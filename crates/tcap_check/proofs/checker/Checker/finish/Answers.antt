use Rattle.std.proofs.Common.{Option, Result, Err, sym, ap, ◌∙◌, false}
use Rattle.tcap_check.specs.declared.checker.Report.{Report}
use Rattle.tcap_certificate.specs.declared.fault.CheckFault.{CheckFault}
use Rattle.tcap_check.specs.CheckerMeaning.{CheckerState, so_far_of}
use Rattle.tcap_check.specs.ReplayInvariants.{kept_in}
use Rattle.tcap_check.proofs.checker_laws.CheckerLaws.{finishes_so, finishes_still, kept_fault, no_fault}
use Rattle.tcap_check.proofs.checker_laws.RefusalLaws.{ends_as_described, ends_bounded, ends_lawful, ends_with_reason}
use Rattle.tcap_check.proofs.checker.Checker.finish.Goals as goal

abbrev refusal : CheckFault → Result Report CheckFault
refusal fault = Err fault

pub returns-in-Some-clause-finished : goal.returns-in-Some-clause-finished
returns-in-Some-clause-finished c = λ entries took other.
    finishes_still false c.args.self c.in-Some.fault
    (ap (λ (x : CheckerState). x.so_far) (sym c.self.view_is) ∙ ap (λ (o : Option CheckFault). so_far_of o (kept_in c.self.inside.replaying)) c.in-Some.is)
    entries took

pub returns-in-None-clause-finished : goal.returns-in-None-clause-finished
returns-in-None-clause-finished c = λ entries took other.
    let r = c.self.inside.replaying in
    finishes_so false c.args.self r.judged r.table.now r.certificate.now c.self.inside.fault (kept_in r) c.finish.result
    (sym c.self.view_is) c.in-None.is entries (λ so. c.finish.ensures false entries so other) took

pub returns-in-Some-clause-for_ever : goal.returns-in-Some-clause-for_ever
returns-in-Some-clause-for_ever c =
    let r = c.self.inside.replaying in
    kept_fault c.args.self r.judged r.table.now r.certificate.now c.self.inside.fault (kept_in r) c.in-Some.fault (sym c.self.view_is) c.in-Some.is

pub returns-in-None-clause-for_ever : goal.returns-in-None-clause-for_ever
returns-in-None-clause-for_ever c = λ f refused.
    let r = c.self.inside.replaying in
    elim (no_fault c.args.self r.judged r.table.now r.certificate.now c.self.inside.fault (kept_in r) f (sym c.self.view_is) c.in-None.is refused) [ ]

pub returns-in-None-clause-lawful : goal.returns-in-None-clause-lawful
returns-in-None-clause-lawful c = ends_lawful c.args.self c.finish.result (returns-in-None-clause-finished c)

pub returns-in-Some-clause-described : goal.returns-in-Some-clause-described
returns-in-Some-clause-described c = ends_as_described c.args.self (refusal c.in-Some.fault) (returns-in-Some-clause-finished c)

pub returns-in-None-clause-described : goal.returns-in-None-clause-described
returns-in-None-clause-described c = ends_as_described c.args.self c.finish.result (returns-in-None-clause-finished c)

pub returns-in-Some-clause-refuses : goal.returns-in-Some-clause-refuses
returns-in-Some-clause-refuses c = ends_with_reason c.args.self (refusal c.in-Some.fault) (returns-in-Some-clause-finished c)

pub returns-in-None-clause-refuses : goal.returns-in-None-clause-refuses
returns-in-None-clause-refuses c = ends_with_reason c.args.self c.finish.result (returns-in-None-clause-finished c)

pub returns-in-None-clause-bound : goal.returns-in-None-clause-bound
returns-in-None-clause-bound c = ends_bounded c.args.self c.finish.result (returns-in-None-clause-finished c)
