use Rattle.std.proofs.Common.{Option, ap, sym, ◌∙◌, false}
use Rattle.tcap_record.specs.declared.entry.End.{End as Side}
use Rattle.tcap_check.specs.declared.progress.SideState.{SideState}
use Rattle.tcap_check.specs.CheckerMeaning.{CheckerState, count_waiting}
use Rattle.tcap_check.specs.Progress.{count_kept, side_at}
use Rattle.tcap_check.specs.ReplayInvariants.{kept_in}
use Rattle.tcap_check.proofs.checker_laws.CheckerLaws.{waits_so}
use Rattle.tcap_check.proofs.checker.Checker.pending.Goals as goal

pub returns-in-None-clause-ahead : goal.returns-in-None-clause-ahead
returns-in-None-clause-ahead c = λ entries took so.
    let r = c.self.inside.replaying in
    let s = c.args.self.now in
    let is = sym c.self.view_is in
    rw (c.count_kept.ensures.count, c.count_kept-in-None.ensures.count)
    (ap (λ (judged : Option Side). count_waiting judged r.progress) (sym (ap (λ (x : CheckerState). x.judged) is ∙ c.in-None.is))
    ∙ waits_so false s r.judged r.table.now r.certificate.now c.self.inside.fault (kept_in r) is entries took so)

pub returns-in-Some-clause-ahead : goal.returns-in-Some-clause-ahead
returns-in-Some-clause-ahead c = λ entries took so.
    let r = c.self.inside.replaying in
    let s = c.args.self.now in
    let is = sym c.self.view_is in
    c.count_kept-in-Some.ensures.count ∙ ap (λ (x : SideState). count_kept x.waiting) c.side_state.ensures
    ∙ ap (λ (side : Side). count_kept (side_at side r.progress).waiting) c.other.ensures
    ∙ ap (λ (judged : Option Side). count_waiting judged r.progress) (sym (ap (λ (x : CheckerState). x.judged) is ∙ c.in-Some.is))
    ∙ waits_so false s r.judged r.table.now r.certificate.now c.self.inside.fault (kept_in r) is entries took so
