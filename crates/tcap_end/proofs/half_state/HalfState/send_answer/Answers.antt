use mir.Syntax.{w8}
use Rattle.std.proofs.Common.{Result, Ok, true, false, sym, ap, ◌∙◌}
use Rattle.std.proofs.lemmas.Int.{to_z-of_z}
use Rattle.std.specs.Prelude.{option_map}
use Rattle.tcap_parts.specs.Meaning.{code_of}
use Rattle.tcap_end.specs.declared.fault.EndFault.{EndFault}
use Rattle.tcap_end.specs.Half.{Half}
use Rattle.tcap_end.specs.HalfState.{half_in, kept_of}
use Rattle.tcap_end.proofs.BackLaws.{place_some}
use Rattle.tcap_lists.proofs.ListLaws.{whole_rows}
use Rattle.tcap_end.proofs.SendLaws.{answers_one}
use Rattle.tcap_end.proofs.half_state.HalfState.send_answer.Goals as goal

pub returns-in_default-clause-step : goal.returns-in_default-clause-step
returns-in_default-clause-step c = λ _.
    (rw (to_z-of_z w8 c.args.id c.ranges.id) at c.why_no_answer.ensures) c.args.last (option_map code_of c.args.named)
    (rw (to_z-of_z w8 c.args.id c.ranges.id) at (sym c.answerable_place.ensures ∙ c.in_default.is))

pub take_inn-requires : goal.take_inn-requires
take_inn-requires c = record { exists = (place_some _ _ c.in-Some.at (sym c.answerable_place.ensures ∙ c.in-Some.is)).1 }

pub returns-in_ok-take_inn-clause-step : goal.returns-in_ok-take_inn-clause-step
returns-in_ok-take_inn-clause-step c =
    let taken = ap half_in (rw (to_z-of_z w8 c.args.id c.ranges.id) at c.in_ok-take_inn.ensures.taken) in
    rw c.if-last.true
    (answers_one c.args.table.now (kept_of c.args.self.now) (whole_rows c.args.self.now.inn) c.args.is_result true c.args.id (option_map code_of c.args.named) c.in-Some.at
    (rw (to_z-of_z w8 c.args.id c.ranges.id) at (sym c.answerable_place.ensures ∙ c.in-Some.is))
    ∙ ap (λ (h : Half). let r : Result Half EndFault = Ok h in r) (sym taken))

pub returns-else-last-clause-step : goal.returns-else-last-clause-step
returns-else-last-clause-step c =
    rw c.if-last.false
    (answers_one c.args.table.now (kept_of c.args.self.now) (whole_rows c.args.self.now.inn) c.args.is_result false c.args.id (option_map code_of c.args.named) c.in-Some.at
    (rw (to_z-of_z w8 c.args.id c.ranges.id) at (sym c.answerable_place.ensures ∙ c.in-Some.is)))
