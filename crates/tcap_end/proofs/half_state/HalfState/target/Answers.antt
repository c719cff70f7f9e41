use mir.Syntax.{w8}
use Rattle.std.proofs.Common.{cond, sym, ap, ◌∙◌}
use Rattle.std.proofs.lemmas.Int.{to_z-of_z}
use Rattle.tcap_parts.specs.Meaning.{code_of}
use Rattle.tcap_end.specs.HalfState.{half_of}
use Rattle.tcap_end.specs.declared.received.Target.TheVariants as targets
use Rattle.tcap_end.proofs.ReceivingLaws.{target_class, target_none, target_unknown}
use Rattle.tcap_end.proofs.half_state.HalfState.target.Goals as goal

pub returns-in_default : goal.returns-in_default
returns-in_default c =
    target_none c.args.table.now (half_of c.args.self.now) c.args.is_result c.args.id
    (sym (rw (to_z-of_z w8 c.args.id c.ranges.id) at c.in_default.ensures))

pub returns-in-None : goal.returns-in-None
returns-in-None c =
    target_unknown c.args.table.now (half_of c.args.self.now) c.args.is_result c.args.id (code_of c.in-Some.code)
    (sym (rw (to_z-of_z w8 c.args.id c.ranges.id) at c.in-Some.ensures)) (sym c.in-None.ensures.exact)

pub returns-in-Some-class_of : goal.returns-in-Some-class_of
returns-in-Some-class_of c =
    ap (λ b. cond b targets.Invocation targets.OtherClass) c.if-reports.ensures
    ∙ target_class c.args.table.now (half_of c.args.self.now) c.args.is_result c.args.id (code_of c.in-Some.code) c.in-Some-class_of.class
    (sym (rw (to_z-of_z w8 c.args.id c.ranges.id) at c.in-Some.ensures)) (sym c.in-Some-class_of.ensures.exact)

pub returns-in-Some-2 : goal.returns-in-Some-2
returns-in-Some-2 c =
    ap (λ b. cond b targets.Invocation targets.OtherClass) c.if-reports.ensures
    ∙ target_class c.args.table.now (half_of c.args.self.now) c.args.is_result c.args.id (code_of c.in-Some.code) c.in-Some-class_of.class
    (sym (rw (to_z-of_z w8 c.args.id c.ranges.id) at c.in-Some.ensures)) (sym c.in-Some-class_of.ensures.exact)
