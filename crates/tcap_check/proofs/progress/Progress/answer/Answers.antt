use Rattle.std.proofs.Common.{ap, subst, ◌∙◌}
use Rattle.tcap_record.specs.declared.entry.End.{End as Side}
use Rattle.tcap_record.specs.Ends.{other}
use Rattle.tcap_check.specs.declared.progress.Progress.{Progress}
use Rattle.tcap_check.specs.Progress.{GrewBy, YieldsInMemory, first_answered, front_lost, reply_kept, side_at}
use Rattle.tcap_check.proofs.progress_laws.KeptGrowth.{reply_grows, yields_so}
use Rattle.tcap_check.proofs.progress.Progress.answer.Goals as goal

pub returns-clause-grows : goal.returns-clause-grows
returns-clause-grows g c =
    let abort = g.A.MessageParts.meaning c.args.abort.now in
    let p = c.args.self.now in
    let before = c.in_ok-lose_front.ensures.lost ∙ ap (λ (s : Side). front_lost c.args.judged s p) c.other.ensures in
    yields_so (GrewBy 2 1 p) (reply_kept c.args.judged c.args.side c.args.fate c.args.number abort c.args.taken p)
    c.answer_first.result c.answer_first.new.self
    (subst (λ (x : Progress). YieldsInMemory (first_answered c.args.side c.args.fate c.args.number abort c.args.taken
    (side_at (other c.args.side) x).waiting x) c.answer_first.result c.answer_first.new.self) before c.answer_first.ensures.answered)
    (λ next is. reply_grows c.args.judged c.args.side c.args.fate c.args.number abort c.args.taken p next is)
