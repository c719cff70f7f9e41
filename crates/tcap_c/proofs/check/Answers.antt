use Rattle.std.proofs.Common.{sym, ap, ◌∙◌}
use Rattle.tcap_c.specs.declared.answer.Answer.{Answer}
use Rattle.tcap_c.proofs.InMemoryLaws.{checked_right}
use Rattle.tcap_c.proofs.check.Goals as goal

pub returns-clause-right : goal.returns-clause-right
returns-clause-right c = λ is.
    checked_right c.args.who c.args.octets.now c.args.table.now c.args.certificate.now c.checked.result c.checked.ensures
    (sym (ap (λ (a : Answer). a.verdict) c.put.ensures.given) ∙ is)
