use Rattle.std.proofs.Common.{◌≡◌, Result, Ok, Err, OnErr, refl, sym, subst}
use Rattle.std.proofs.lemmas.Result.{on_err_weaker}
use Rattle.tcap_parts.specs.Meaning.{components_left}
use Rattle.tcap_end.specs.declared.fault.EndFault.{EndFault}
use Rattle.tcap_end.specs.Half.{Half}
use Rattle.tcap_end.specs.Step.{AnswersInMemory}
use Rattle.tcap_end.specs.HalfState.{half_of}
use Rattle.tcap_end.specs.ComponentSteps.{components_by}
use Rattle.tcap_end.proofs.FindLaws.{still_numbered}
use Rattle.tcap_end.proofs.HalfLaws.{Follows, follows_self}
use Rattle.tcap_end.proofs.AnswerLaws.{steps_follow}
use Rattle.tcap_end.proofs.ChangeLaws.{answers_on, held_on, kept_on}
use Rattle.tcap_end.proofs.AllPlacedLaws.{placed_on}
use Rattle.tcap_end.proofs.halves.Halves.step_over.Goals as goal

pub returns-clause-step : goal.returns-clause-step
returns-clause-step c =
    answers_on c.args.self.now c.args.found.now.slot c.args.found.now.key c.number-number.result c.in-Some.half.now
    c.requires.held c.number-number.ensures (sym c.in-Some.ensures.value) c.step_components.new.self
    (λ h. components_by c.args.way c.args.table.now h (components_left c.args.components)) c.step_components.result
    c.step_components.ensures.step

pub returns-clause-kept : goal.returns-clause-kept
returns-clause-kept c =
    on_err_weaker c.step_components.result
    (kept_on c.args.self.now c.args.found.now.slot c.args.found.now.key c.number-number.result c.in-Some.half.now
    c.requires.held c.number-number.ensures (sym c.in-Some.ensures.value) c.step_components.new.self)
    c.step_components.ensures.kept

-- The phase, the IDs and the dialogue state do not change.
follows : (step : Result Half EndFault) (h g : Half) (r : Result (Unit {0}) EndFault) → ((k : Half) → step ≡ Ok k → Follows h k)
    → AnswersInMemory step r g → OnErr r (g ≡ h) → Follows h g
follows step h g (Ok _) made answers kept = made g answers
follows step h g (Err _) made answers kept = subst (λ (x : Half). Follows h x) (sym kept) (follows_self h)

pub returns-clause-held : goal.returns-clause-held
returns-clause-held c =
    let h = half_of c.in-Some.half.now in
    let components = components_left c.args.components in
    held_on c.args.self.now c.args.found.now.slot c.args.found.now.key c.number-number.result c.in-Some.half.now
    c.requires.held c.number-number.ensures (sym c.in-Some.ensures.value) c.step_components.new.self c.step_components.ensures.slot
    (follows (components_by c.args.way c.args.table.now h components) h (half_of c.step_components.new.self)
    c.step_components.result (λ k made. steps_follow c.args.way c.args.table.now components h k made)
    c.step_components.ensures.step c.step_components.ensures.kept)

pub returns-clause-placed : goal.returns-clause-placed
returns-clause-placed c =
    placed_on c.args.self.now c.number-number.result c.in-Some.half.now c.step_components.new.self
    (sym c.in-Some.ensures.value) c.step_components.ensures.slot

pub returns-clause-found : goal.returns-clause-found
returns-clause-found c = still_numbered c.args.self.now _ c.args.found.now refl refl c.requires.found
