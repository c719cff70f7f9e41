use mir.Syntax.{w8}
use Rattle.std.proofs.Common.{sym, ap, ◌∙◌}
use Rattle.std.proofs.lemmas.Int.{to_z-of_z}
use Rattle.std.specs.Option.{option_copied}
use Rattle.tcap_end.specs.Component.{operation_sent_by}
use Rattle.tcap_end.proofs.ReceivingLaws.{is_sent, is_waiting}
use Rattle.tcap_end.proofs.half_state.HalfState.operation_sent.Goals as goal

pub returns-in_err-own : goal.returns-in_err-own
returns-in_err-own c =
    rw (c.from_residual.ensures)
    (ap operation_sent_by (sym (ap option_copied c.in_err-own.was) ∙ (rw (to_z-of_z w8 c.args.id c.ranges.id) at c.get.ensures)))

pub returns-in-OperationSent : goal.returns-in-OperationSent
returns-in-OperationSent c =
    rw (c.view.ensures)
    (is_sent c.in_ok-own.own.now c.in-OperationSent.is
    ∙ ap operation_sent_by (sym (ap option_copied c.in_ok-own.was) ∙ (rw (to_z-of_z w8 c.args.id c.ranges.id) at c.get.ensures)))

pub returns-in-WaitForReject : goal.returns-in-WaitForReject
returns-in-WaitForReject c =
    is_waiting c.in_ok-own.own.now c.in-WaitForReject.is
    ∙ ap operation_sent_by (sym (ap option_copied c.in_ok-own.was) ∙ (rw (to_z-of_z w8 c.args.id c.ranges.id) at c.get.ensures))
