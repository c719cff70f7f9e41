use Rattle.std.proofs.Common.{arith, refl}
use Rattle.tcap_check.proofs.worked_partial_replays.stops_at_a_mark.Goals as goal

pub returns-clause-halves : goal.returns-clause-halves
returns-clause-halves c = (refl, record { within = omega arith; front = _; takes = refl; no_more = λ less. (_, refl) }, (refl, refl))

pub returns-clause-losses : goal.returns-clause-losses
returns-clause-losses c = (refl, record { within = omega arith; front = _; takes = refl; no_more = λ less. (_, refl) }, (refl, refl))
