use Rattle.std.proofs.Common.{[], ◌∷◌, Option, Ok, ap, ap₂, ◌∙◌}
use Rattle.tcap_record.specs.declared.entry.End.{End as Side}
use Rattle.tcap_end.specs.Table.{Table}
use Rattle.tcap_model.specs.declared.reason.Reason.TheVariants.{Memory}
use Rattle.tcap_model.specs.World.{Item}
use Rattle.tcap_certificate.specs.Certificate.{Certificate}
use Rattle.tcap_check.specs.CheckerMeaning.{map_ok, reported}
use Rattle.tcap_certificate.specs.Replay.{fault_at, run_by}
use Rattle.tcap_uses.proofs.MarkLaws.{not_before}
use Rattle.tcap_uses.proofs.checker_lives.given_of_mark.Goals as goal

pub returns : goal.returns
returns c = λ other.
    let marked = not_before c.mark.new.self.so_far c.mark.result c.finish.result (fault_at Memory 0) c.mark.ensures.answers
    c.finish.ensures.for_ever other in
    c.finish.ensures.finished (Ok Item.Quiet ∷ []) (c.mark.ensures.took [] c.in-Ok.ensures.took.0 marked) other
    ∙ ap₂ (λ (t : Table) (x : Certificate). map_ok (reported c.mark.new.self.judged) (run_by c.mark.new.self.judged t x (Ok Item.Quiet ∷ [])))
    (c.mark.ensures.table ∙ c.in-Ok.ensures.took.2) (c.mark.ensures.certificate ∙ c.in-Ok.ensures.took.3)
    ∙ ap (λ (judged : Option Side). map_ok (reported judged) (run_by judged c.args.given.0 c.args.given.1 (Ok Item.Quiet ∷ [])))
    (c.mark.ensures.judged ∙ c.in-Ok.ensures.took.1)
