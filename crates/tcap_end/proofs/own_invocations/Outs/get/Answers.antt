use mir.Syntax.{w8}
use Rattle.std.proofs.Common.{sym, subst, ◌∙◌}
use Rattle.std.proofs.lemmas.Int.{to_z-of_z}
use Rattle.std.specs.List.Sorted.{IsSearchInRange}
use Rattle.std.specs.Vec.{vec_len}
use Rattle.tcap_end.proofs.OutLaws.{was_absent, was_there}
use Rattle.tcap_end.proofs.own_invocations.Outs.get.Goals as goal

pub index-requires : goal.index-requires
index-requires c = subst (λ r. IsSearchInRange r (vec_len c.args.self.now.places)) c.in-Ok.is c.find.ensures.range

pub returns-in-Ok : goal.returns-in-Ok
returns-in-Ok c =
    c.as_ref.ensures.value
    ∙ was_there c.args.id c.args.self.now.places.items c.in-Ok.at c.args.self.now.ordered
    (sym (rw (to_z-of_z w8 c.args.id c.ranges.id) at c.find.ensures.value) ∙ c.in-Ok.is) c.index.result.now c.index.ensures

pub returns-in-Err : goal.returns-in-Err
returns-in-Err c =
    was_absent c.args.id c.args.self.now.places.items c.in-Err.field-0 c.args.self.now.ordered
    (sym (rw (to_z-of_z w8 c.args.id c.ranges.id) at c.find.ensures.value) ∙ c.in-Err.is)
