use Rattle.std.proofs.Common.{arith, refl}
use Rattle.tcap_check.proofs.worked_partial_replays.stops_in_a_gap.Goals as goal

pub returns-clause-expiry : goal.returns-clause-expiry
returns-clause-expiry c = (refl, record { within = omega arith; front = _; takes = refl; no_more = λ less. (_, refl) }, (refl, refl))

pub returns-clause-closing : goal.returns-clause-closing
returns-clause-closing c = (refl, record { within = omega arith; front = _; takes = refl; no_more = λ less. absurd (omega (arith, less)) }, (refl, refl))

pub returns-clause-delivery : goal.returns-clause-delivery
returns-clause-delivery c = (refl, record { within = omega arith; front = _; takes = refl; no_more = λ less. absurd (omega (arith, less)) }, (refl, refl))
