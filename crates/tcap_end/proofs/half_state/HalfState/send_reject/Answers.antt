use mir.Syntax.{w8}
use mir.Val.{SFits}
use Rattle.std.proofs.Common.{Result, Ok, rules, sym, ap, ◌∙◌}
use Rattle.std.proofs.lemmas.Int.{to_z-of_z}
use Rattle.tcap_parts.specs.Meaning.{problem_of}
use Rattle.tcap_end.specs.declared.fault.EndFault.{EndFault}
use Rattle.tcap_end.specs.Half.{Half}
use Rattle.tcap_end.specs.HalfState.{half_in, kept_of}
use Rattle.tcap_lists.proofs.ListLaws.{whole_rows}
use Rattle.tcap_end.proofs.SendLaws.{not_rejected, rejects_grant, rejects_inn}
use Rattle.tcap_end.proofs.half_state.HalfState.send_reject.Goals as goal

pub returns-in_default-rejected_place-clause-step : goal.returns-in_default-rejected_place-clause-step
returns-in_default-rejected_place-clause-step c = λ _.
    let fits : SFits w8 c.in-Some.id = search rules in
    rw c.in-Some.is
    (not_rejected (kept_of c.args.self.now) (whole_rows c.args.self.now.inn) (whole_rows c.args.self.now.grants) c.in-Some.id (problem_of c.args.problem)
    (rw (to_z-of_z w8 c.in-Some.id fits) at (sym c.rejected_place.ensures ∙ c.in_default-rejected_place.is)))

pub take_inn-requires : goal.take_inn-requires
take_inn-requires c = record {
  exists = (rejects_inn (kept_of c.args.self.now) (whole_rows c.args.self.now.inn) (whole_rows c.args.self.now.grants) _ _ c.in-Some-rejected_place.at
      (rw c.in-Invoke.is at (sym c.rejected_place.ensures ∙ c.in-Some-rejected_place.is))).0;
}

pub take_grant-requires : goal.take_grant-requires
take_grant-requires c = record {
  exists = (rejects_grant (kept_of c.args.self.now) (whole_rows c.args.self.now.inn) (whole_rows c.args.self.now.grants) _ c.args.problem c.in-Some-rejected_place.at c.in_default-problem.not-Invoke
      (sym c.rejected_place.ensures ∙ c.in-Some-rejected_place.is)).0;
}

pub returns-in_ok-take_inn-in-Invoke-clause-step :
    goal.returns-in_ok-take_inn-in-Invoke-clause-step
returns-in_ok-take_inn-in-Invoke-clause-step c =
    let fits : SFits w8 c.in-Some.id = search rules in
    let taken = ap half_in (rw (to_z-of_z w8 c.in-Some.id fits) at c.in_ok-take_inn-in-Invoke.ensures.taken) in
    rw (c.in-Some.is, c.in-Invoke.is)
    ((rejects_inn (kept_of c.args.self.now) (whole_rows c.args.self.now.inn) (whole_rows c.args.self.now.grants) c.in-Some.id c.in-Invoke.field-0.number c.in-Some-rejected_place.at
    (rw (c.in-Invoke.is, to_z-of_z w8 c.in-Some.id fits) at (sym c.rejected_place.ensures ∙ c.in-Some-rejected_place.is))).1
    ∙ ap (λ (h : Half). let r : Result Half EndFault = Ok h in r) (sym taken))

pub returns-in_ok-take_grant-in_default-problem-clause-step : goal.returns-in_ok-take_grant-in_default-problem-clause-step
returns-in_ok-take_grant-in_default-problem-clause-step c =
    let fits : SFits w8 c.in-Some.id = search rules in
    let taken = ap half_in (rw (to_z-of_z w8 c.in-Some.id fits) at c.in_ok-take_grant-in_default-problem.ensures.taken) in
    rw c.in-Some.is
    ((rejects_grant (kept_of c.args.self.now) (whole_rows c.args.self.now.inn) (whole_rows c.args.self.now.grants) c.in-Some.id c.args.problem c.in-Some-rejected_place.at c.in_default-problem.not-Invoke
    (rw (to_z-of_z w8 c.in-Some.id fits) at (sym c.rejected_place.ensures ∙ c.in-Some-rejected_place.is))).1
    ∙ ap (λ (h : Half). let r : Result Half EndFault = Ok h in r) (sym taken))
