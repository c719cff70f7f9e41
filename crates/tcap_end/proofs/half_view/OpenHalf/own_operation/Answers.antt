use mir.Syntax.{w8}
use Rattle.std.proofs.Common.{sym, ap, ◌∙◌}
use Rattle.std.proofs.lemmas.Int.{to_z-of_z}
use Rattle.std.specs.Option.{option_copied, option_map}
use Rattle.tcap_end.specs.declared.own_invocations.OwnInvocation.{OwnInvocation}
use Rattle.tcap_end.proofs.half_view.OpenHalf.own_operation.Goals as goal

pub returns-in-Some : goal.returns-in-Some
returns-in-Some c =
    let found = sym (rw (to_z-of_z w8 c.args.id c.ranges.id) at c.get.ensures) ∙ ap option_copied c.in-Some.is in
    rw (sym c.self.view_is, c.view.ensures) (ap (option_map (λ (own : OwnInvocation). own.code)) found)

pub returns-in-None : goal.returns-in-None
returns-in-None c =
    rw (sym c.self.view_is) (sym (rw (to_z-of_z w8 c.args.id c.ranges.id) at c.get.ensures) ∙ ap option_copied c.in-None.is)
