-- The map of Return Results, or of Return Errors.
use Rattle.std.proofs.Common.{Bool, SFits, ap, rules, sym, to_z-of_z, w8, ◌∙◌}
use Rattle.tcap_search.specs.Sweep.{answer_kept}
use Rattle.tcap_search.proofs.sweep.Sweep.answer.Goals as goal

pub returns-then-is_result : goal.returns-then-is_result
returns-then-is_result c =
    let fits : SFits w8 c.args.id = search rules in
    rw (to_z-of_z fits) at c.get.ensures
    ∙ ap (λ (b : Bool). answer_kept b c.args.transaction c.args.side c.args.id c.args.self.now)
    (sym c.if-is_result.true)

pub returns-else-is_result : goal.returns-else-is_result
returns-else-is_result c =
    let fits : SFits w8 c.args.id = search rules in
    rw (to_z-of_z fits) at c.get-else-is_result.ensures
    ∙ ap (λ (b : Bool). answer_kept b c.args.transaction c.args.side c.args.id c.args.self.now)
    (sym c.if-is_result.false)
