use mir.Syntax.{w8}
use Rattle.std.proofs.Common.{refl}
use Rattle.std.proofs.lemmas.Int.{to_z-of_z}
use Rattle.tcap_end.proofs.half_state.HalfState.rejected_place.Goals as goal

pub returns-in_err-get-in-Invoke : goal.returns-in_err-get-in-Invoke
returns-in_err-get-in-Invoke c =
    rw (c.from_residual.ensures, c.in-Invoke.is, rw (to_z-of_z w8 c.args.id c.ranges.id) at c.in_err-get-in-Invoke.ensures) refl

pub returns-in_err-get-in-ReturnResult : goal.returns-in_err-get-in-ReturnResult
returns-in_err-get-in-ReturnResult c =
    rw (
      c.from_residual-in_err-get-in-ReturnResult.ensures,
      c.in-ReturnResult.is,
      rw (to_z-of_z w8 c.args.id c.ranges.id) at c.in_err-get-in-ReturnResult.ensures,
    )
    refl

pub returns-in_err-get-in-ReturnError : goal.returns-in_err-get-in-ReturnError
returns-in_err-get-in-ReturnError c =
    rw (
      c.from_residual-in_err-get-in-ReturnError.ensures,
      c.in-ReturnError.is,
      rw (to_z-of_z w8 c.args.id c.ranges.id) at c.in_err-get-in-ReturnError.ensures,
    )
    refl

pub returns-in_ok-get-in-Invoke : goal.returns-in_ok-get-in-Invoke
returns-in_ok-get-in-Invoke c =
    rw (c.first_rejectable.ensures, c.in-Invoke.is, rw (to_z-of_z w8 c.args.id c.ranges.id) at c.in_ok-get-in-Invoke.ensures) refl

pub returns-in_ok-get-in-ReturnResult : goal.returns-in_ok-get-in-ReturnResult
returns-in_ok-get-in-ReturnResult c =
    rw (
      c.first_rejectable_answer.ensures,
      c.in-ReturnResult.is,
      rw (to_z-of_z w8 c.args.id c.ranges.id) at c.in_ok-get-in-ReturnResult.ensures,
    ) refl

pub returns-in_ok-get-in-ReturnError : goal.returns-in_ok-get-in-ReturnError
returns-in_ok-get-in-ReturnError c =
    rw (
      c.first_rejectable_answer-in-ReturnError.ensures,
      c.in-ReturnError.is,
      rw (to_z-of_z w8 c.args.id c.ranges.id) at c.in_ok-get-in-ReturnError.ensures,
    ) refl
