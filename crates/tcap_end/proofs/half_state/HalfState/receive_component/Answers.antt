use mir.Syntax.{w8}
use Rattle.std.proofs.Common.{SFits, rules}
use Rattle.std.proofs.lemmas.Int.{to_z-of_z}
use Rattle.tcap_end.proofs.half_state.HalfState.receive_component.Goals as goal

pub returns-in-Invoke-clause-received : goal.returns-in-Invoke-clause-received
returns-in-Invoke-clause-received c =
    let fits : SFits w8 c.in-Invoke.id = search rules in
    rw (c.in-Invoke.is) (rw (to_z-of_z w8 c.in-Invoke.id fits) at c.receive_invoke.ensures.received)

pub returns-in-ReturnResult-clause-received : goal.returns-in-ReturnResult-clause-received
returns-in-ReturnResult-clause-received c =
    let fits : SFits w8 c.in-ReturnResult.id = search rules in
    rw (c.in-ReturnResult.is) (rw (to_z-of_z w8 c.in-ReturnResult.id fits) at c.receive_answer.ensures.received)

pub returns-in-ReturnError-clause-received : goal.returns-in-ReturnError-clause-received
returns-in-ReturnError-clause-received c =
    let fits : SFits w8 c.in-ReturnError.id = search rules in
    rw (c.in-ReturnError.is) (rw (to_z-of_z w8 c.in-ReturnError.id fits) at c.receive_answer-in-ReturnError.ensures.received)
