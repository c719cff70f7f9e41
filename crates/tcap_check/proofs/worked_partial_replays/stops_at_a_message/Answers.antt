use Rattle.std.proofs.Common.{arith, refl}
use Rattle.tcap_check.proofs.worked_partial_replays.stops_at_a_message.Goals as goal

pub returns-clause-send : goal.returns-clause-send
returns-clause-send c = (refl, record { within = omega arith; front = _; takes = refl; no_more = λ less. (_, refl) }, (refl, refl))

pub returns-clause-reply : goal.returns-clause-reply
returns-clause-reply c = (refl, record { within = omega arith; front = _; takes = refl; no_more = λ less. (_, refl) }, (refl, refl))

pub returns-clause-order : goal.returns-clause-order
returns-clause-order c = (refl, record { within = omega arith; front = _; takes = refl; no_more = λ less. (_, refl) }, (refl, refl))

pub returns-clause-discard : goal.returns-clause-discard
returns-clause-discard c = (refl, record { within = omega arith; front = _; takes = refl; no_more = λ less. (_, refl) }, (refl, refl))
