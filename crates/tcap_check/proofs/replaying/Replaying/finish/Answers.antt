use Rattle.std.proofs.Common.{Result, Err, ap}
use Rattle.tcap_check.specs.declared.checker.Report.{Report}
use Rattle.tcap_certificate.specs.declared.fault.CheckFault.{CheckFault}
use Rattle.tcap_check.specs.ReplayInvariants.{kept_in}
use Rattle.tcap_check.proofs.checker_laws.CheckerLaws.{finished_err, finished_ok}
use Rattle.tcap_check.proofs.replaying.Replaying.finish.Goals as goal

pub returns-in-Ok : goal.returns-in-Ok
returns-in-Ok c = λ listed entries took other.
    let r = c.args.self in (finished_ok listed r.judged r.table.now r.certificate.now (kept_in r) c.end.new.self.progress c.in-Ok.ensures.ended entries took)

pub returns : goal.returns
returns c = λ listed entries took other.
    let r = c.args.self in
    finished_err listed r.judged r.table.now r.certificate.now (kept_in r) c.in-Err.fault
    (c.in-Err.ensures.ended (λ is. other (ap (λ (f : CheckFault). let x : Result Report CheckFault = Err f in x) is))) entries took
