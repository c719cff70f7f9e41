use mir.Syntax.{w8}
use mir.Val.{SFits}
use Rattle.std.proofs.Common.{◌≡◌, refl, rules}
use Rattle.std.proofs.lemmas.Int.{to_z-of_z}
use Rattle.std.specs.Prelude.{option_map}
use Rattle.tcap_parts.specs.Meaning.{body_of, code_of}
use Rattle.tcap_end.proofs.half_state.HalfState.send_component.Goals as goal
use Rattle.tcap_end.proofs.half_state.HalfState.send_component.Goals.{After-send_answer, in-None, in-Some}

pub returns-in-Invoke-clause-step : goal.returns-in-Invoke-clause-step
returns-in-Invoke-clause-step c =
    let fits : SFits w8 c.in-Invoke.id = search rules in
    rw c.in-Invoke.is (rw (to_z-of_z w8 c.in-Invoke.id fits) at c.send_invoke.ensures.step)

-- the operation in the body of a Return Result
named_is : (c : After-send_answer)
    → option_map code_of c.match-body.named ≡ option_map (λ body. body.code) (option_map body_of c.in-ReturnResult.body)
named_is c = elim c.match-body.branch [ in-Some w ↦ rw (w.named-is, w.in-Some.is) refl | in-None w ↦ rw (w.named-is, w.in-None.is) refl ]

pub returns-after-body-clause-step : goal.returns-after-body-clause-step
returns-after-body-clause-step c =
    let fits : SFits w8 c.in-ReturnResult.id = search rules in
    rw c.in-ReturnResult.is (rw (to_z-of_z w8 c.in-ReturnResult.id fits, named_is c) at c.send_answer.ensures.step)

pub returns-in-ReturnError-clause-step : goal.returns-in-ReturnError-clause-step
returns-in-ReturnError-clause-step c =
    let fits : SFits w8 c.in-ReturnError.id = search rules in
    rw c.in-ReturnError.is (rw (to_z-of_z w8 c.in-ReturnError.id fits) at c.send_answer-in-ReturnError.ensures.step)
