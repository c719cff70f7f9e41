use Rattle.std.proofs.Common.{Result, Err, sym, ap, ◌∙◌}
use Rattle.std.proofs.lemmas.Result.{err_from_is_err_and}
use Rattle.tcap_parts.specs.Meaning.{components_left}
use Rattle.tcap_end.specs.declared.fault.EndFault.{EndFault}
use Rattle.tcap_end.specs.Half.{Half}
use Rattle.tcap_end.specs.HalfState.{half_of}
use Rattle.tcap_end.proofs.RoundLaws.{all_went, goes_all, goes_more, goes_not, keeps_more, keeps_self}
use Rattle.tcap_end.proofs.half_state.HalfState.step_noted.Goals as goal

pub loop-component-init : goal.loop-component-init
loop-component-init c = rw (c.into_iter-component-iterator.ensures.into_iter_gives) (
  goes_all c.args.way c.args.table.now (half_of c.args.self.now) (components_left c.args.components),
  keeps_self c.args.self.now c.args.changes.now,
)

pub loop-component-preserved : goal.loop-component-preserved
loop-component-preserved c = (
  goes_more c.loop-component.invariant.0 c.in-Some.ensures.steps c.in_ok-step_component.ensures.step,
  keeps_more c.loop-component.invariant.1 c.step_component.ensures.undoes c.step_component.ensures.slot,
)

pub returns-in_err-step_component-clause-step : goal.returns-in_err-step_component-clause-step
returns-in_err-step_component-clause-step c =
    let p = err_from_is_err_and c.from_residual.result c.from_residual.ensures.1 in
    rw p.1 (λ other. goes_not c.loop-component.invariant.0 c.in-Some.ensures.steps
    (c.in_err-step_component.ensures.step (λ is. other (p.2 ∙ is))
    ∙ ap (λ (f : EndFault). let r : Result Half EndFault = Err f in r) (sym p.2)))

pub returns-in_err-step_component-clause-undoes : goal.returns-in_err-step_component-clause-undoes
returns-in_err-step_component-clause-undoes c = λ start u.
    c.step_component.ensures.undoes start (c.loop-component.invariant.1.undoes start u)

pub returns-in_err-step_component-clause-slot : goal.returns-in_err-step_component-clause-slot
returns-in_err-step_component-clause-slot c = c.step_component.ensures.slot ∙ c.loop-component.invariant.1.slot

pub returns-clause-step : goal.returns-clause-step
returns-clause-step c = all_went c.loop-component.invariant.0 c.in-None.ensures.steps.0

pub returns-clause-undoes : goal.returns-clause-undoes
returns-clause-undoes c = c.loop-component.invariant.1.undoes

pub returns-clause-slot : goal.returns-clause-slot
returns-clause-slot c = c.loop-component.invariant.1.slot
