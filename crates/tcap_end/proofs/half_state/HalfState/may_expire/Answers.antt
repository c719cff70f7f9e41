use mir.Syntax.{w8}
use Rattle.std.proofs.Common.{sym, ap, ◌∙◌}
use Rattle.std.proofs.lemmas.Int.{to_z-of_z}
use Rattle.std.specs.Option.{option_copied}
use Rattle.tcap_end.specs.HiddenSteps.{may_expire}
use Rattle.tcap_end.proofs.HiddenLaws.{sent_may, waits_may}
use Rattle.tcap_end.proofs.half_state.HalfState.may_expire.Goals as goal

pub returns-in-WaitForReject : goal.returns-in-WaitForReject
returns-in-WaitForReject c =
    let found = sym (rw (to_z-of_z w8 c.args.id c.ranges.id) at c.get.ensures) ∙ ap option_copied c.in-Some.is in
    sym (ap (may_expire c.args.table.now) found ∙ waits_may c.args.table.now c.in-Some.own.now c.in-WaitForReject.is)

pub returns-in-OperationSent : goal.returns-in-OperationSent
returns-in-OperationSent c =
    let found = sym (rw (to_z-of_z w8 c.args.id c.ranges.id) at c.get.ensures) ∙ ap option_copied c.in-Some.is in
    rw (c.expires.ensures, c.view.ensures)
    (sym (ap (may_expire c.args.table.now) found ∙ sent_may c.args.table.now c.in-Some.own.now c.in-OperationSent.is))

pub returns-in-None : goal.returns-in-None
returns-in-None c =
    let none = sym (rw (to_z-of_z w8 c.args.id c.ranges.id) at c.get.ensures) ∙ ap option_copied c.in-None.is in
    sym (ap (may_expire c.args.table.now) none)
