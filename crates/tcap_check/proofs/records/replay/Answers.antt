use Rattle.std.proofs.Common.{refl, sym, ap, ◌∙◌, map, false}
use Rattle.std.proofs.lemmas.Result.{err_from_is_err_and}
use Rattle.tcap_model.specs.Entries.{item_of}
use Rattle.tcap_check.proofs.checker_laws.CheckerLaws.{refusing}
use Rattle.tcap_check.proofs.checker_laws.RefusalLaws.{no_report, refused_for}
use Rattle.tcap_check.proofs.records.replay.Goals as goal

pub returns-in_err-take_all : goal.returns-in_err-take_all
returns-in_err-take_all c =
    let r = c.in_ok-replaying.replaying in
    let took = c.in_ok-replaying.ensures.took in
    let entries = map item_of c.args.record.now.entries.items in
    let p = err_from_is_err_and c.from_residual-in_err-take_all.result c.from_residual-in_err-take_all.ensures.1 in
    rw p.1 (λ other. no_report c.args.judged c.args.table.now c.args.certificate.now entries p.0
    (refused_for r c.args.judged c.args.table.now c.args.certificate.now entries c.in_err-take_all.field-0.0 p.0 took.1 took.2 took.3 (sym p.2)
    (c.in_err-take_all.ensures.refused false c.in_err-take_all.field-0.0 took.0 refl (λ is. other (ap refusing (p.2 ∙ is))))))
