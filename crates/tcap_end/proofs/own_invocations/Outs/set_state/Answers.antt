use mir.Syntax.{w8}
use Rattle.std.proofs.Common.{Some, None, sym, ap, ◌∙◌}
use Rattle.std.proofs.lemmas.Int.{to_z-of_z}
use Rattle.tcap_end.specs.OwnInvocations.{kept_outs, in_state, with_out}
use Rattle.tcap_end.proofs.BackLaws.{out_twice}
use Rattle.tcap_end.proofs.own_invocations.Outs.set_state.Goals as goal

pub put-requires-in-Some : goal.put-requires-in-Some
put-requires-in-Some c =
    record { made = rw (to_z-of_z w8 c.args.id c.ranges.id) (c.put.ensures.others c.args.id c.requires.made) }

pub returns-in-Some-clause-in_state : goal.returns-in-Some-clause-in_state
returns-in-Some-clause-in_state c =
    rw (to_z-of_z w8 c.args.id c.ranges.id) at c.put-in-Some.ensures.put
    ∙ ap (with_out c.args.id (in_state c.args.state (Some c.in-Some.field-0)))
    (rw (to_z-of_z w8 c.args.id c.ranges.id) at c.put.ensures.put)
    ∙ out_twice c.args.id None (in_state c.args.state (Some c.in-Some.field-0)) c.args.self.now
    ∙ ap (λ was. with_out c.args.id (in_state c.args.state was) (kept_outs c.args.self.now))
    (sym c.in-Some.is ∙ rw (to_z-of_z w8 c.args.id c.ranges.id) at c.put.ensures.was)

pub returns-in_default-clause-in_state : goal.returns-in_default-clause-in_state
returns-in_default-clause-in_state c =
    rw (to_z-of_z w8 c.args.id c.ranges.id) at c.put.ensures.put
    ∙ ap (λ was. with_out c.args.id (in_state c.args.state was) (kept_outs c.args.self.now))
    (sym c.in_default.is ∙ rw (to_z-of_z w8 c.args.id c.ranges.id) at c.put.ensures.was)
