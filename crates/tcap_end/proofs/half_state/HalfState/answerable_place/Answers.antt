use mir.Syntax.{w8}
use Rattle.std.proofs.Common.{refl}
use Rattle.std.proofs.lemmas.Int.{to_z-of_z}
use Rattle.tcap_end.proofs.half_state.HalfState.answerable_place.Goals as goal

pub returns-in_err-get : goal.returns-in_err-get
returns-in_err-get c = rw (c.from_residual.ensures, rw (to_z-of_z w8 c.args.id c.ranges.id) at c.in_err-get.ensures) refl

pub returns : goal.returns
returns c = rw (c.first_answerable.ensures, rw (to_z-of_z w8 c.args.id c.ranges.id) at c.in_ok-get.ensures) refl
