use Rattle.std.proofs.Common.{◌≡◌, Result, Ok, sym, ap, ◌∙◌}
use Rattle.std.proofs.lemmas.Result.{err_from_is_err_and}
use Rattle.std.specs.Option.{option_map}
use Rattle.tcap_parts.specs.DialogueMeaning.{dialogue_of}
use Rattle.tcap_parts.specs.Meaning.{components_left}
use Rattle.tcap_end.specs.declared.fault.EndFault.{EndFault}
use Rattle.tcap_end.specs.Begins.{fresh_in}
use Rattle.tcap_end.specs.Half.{Half}
use Rattle.tcap_end.specs.HalfState.{half_of}
use Rattle.tcap_end.specs.End.{End, named, put}
use Rattle.tcap_end.specs.Halves.{end_of, name_in}
use Rattle.tcap_end.specs.Step.{◌>>=◌}
use Rattle.tcap_end.specs.ComponentSteps.{components_by}
use Rattle.tcap_end.proofs.AnswerLaws.{steps_follow}
use Rattle.tcap_end.proofs.BeginLaws.{begins, carries_wrong, is_used}
use Rattle.tcap_end.proofs.OverLaws.{new_by, told_none, told_some}
use Rattle.tcap_end.proofs.halves.Halves.begin.Goals as goal

pub returns-then-is_some-clause-step : goal.returns-then-is_some-clause-step
returns-then-is_some-clause-step c _ =
    let e = end_of c.args.self.now in let slot = c.args.slot in let id = c.args.otid.octets.now in
    is_used c.args.table.now e id (option_map dialogue_of c.args.dialogue) (components_left c.args.components) slot
    (told_some (named e (name_in slot id)) c.with_id.result (sym c.is_some.ensures ∙ c.if-is_some.true) c.with_id.ensures.half)

pub returns-then-not-may_begin_in-clause-step : goal.returns-then-not-may_begin_in-clause-step
returns-then-not-may_begin_in-clause-step c _ =
    let e = end_of c.args.self.now in let slot = c.args.slot in let id = c.args.otid.octets.now in
    carries_wrong c.args.table.now e id (option_map dialogue_of c.args.dialogue) (components_left c.args.components) slot
    (told_none (named e (name_in slot id)) c.with_id.result (sym c.is_some.ensures ∙ c.if-is_some.false) c.with_id.ensures.half)
    (sym c.may_begin_in.ensures ∙ c.if-not-may_begin_in.true)

pub add-requires-clause-new : goal.add-requires-clause-new
add-requires-clause-new c =
    let s = c.args.self.now in let slot = c.args.slot in let id = c.args.otid.octets.now in
    let table = c.args.table.now in let components = components_left c.args.components in
    let dialogue_state = c.first_dialogue_state-dialogue_state.result in
    let none = told_none (named (end_of s) (name_in slot id)) c.with_id.result
    (sym c.is_some.ensures ∙ c.if-is_some.false) c.with_id.ensures.half in
    let first : half_of c.new-half.result ≡ fresh_in slot id dialogue_state = rw c.to_transaction_id.ensures at c.new-half.ensures.half in
    let made = ap (λ (h : Half). components_by c.way.result table h components) (sym first) ∙ c.in_ok-step_components.ensures.step in
    rw c.to_transaction_id-2.ensures
    (new_by s slot id c.step_components.new.self dialogue_state c.requires.sound none
    (c.in_ok-step_components.ensures.slot ∙ c.new-half.ensures.slot)
    (steps_follow c.way.result table components (fresh_in slot id dialogue_state) (half_of c.step_components.new.self) made))

pub returns-in_err-step_components-clause-step : goal.returns-in_err-step_components-clause-step
returns-in_err-step_components-clause-step c =
    let e = end_of c.args.self.now in let slot = c.args.slot in let id = c.args.otid.octets.now in
    let none = told_none (named e (name_in slot id)) c.with_id.result
    (sym c.is_some.ensures ∙ c.if-is_some.false) c.with_id.ensures.half in
    let half = rw (c.to_transaction_id.ensures, c.first_dialogue_state-dialogue_state.ensures) at c.new-half.ensures.half in
    let p = err_from_is_err_and c.from_residual.result c.from_residual.ensures.1 in
    rw (p.1, p.2) (λ apart.
    begins c.args.table.now e id (option_map dialogue_of c.args.dialogue) (components_left c.args.components) slot none
    (sym c.may_begin_in.ensures ∙ c.if-not-may_begin_in.false) half
    ∙ ap (λ (r : Result Half EndFault). r >>= λ g. Ok (put e slot id g))
    (rw (c.way.ensures, c.other.ensures) at (c.in_err-step_components.ensures.step apart)))

pub returns-clause-step : goal.returns-clause-step
returns-clause-step c =
    let e = end_of c.args.self.now in let slot = c.args.slot in let id = c.args.otid.octets.now in
    let none = told_none (named e (name_in slot id)) c.with_id.result
    (sym c.is_some.ensures ∙ c.if-is_some.false) c.with_id.ensures.half in
    let half = rw (c.to_transaction_id.ensures, c.first_dialogue_state-dialogue_state.ensures) at c.new-half.ensures.half in
    let its = c.in_ok-step_components.ensures.slot ∙ c.new-half.ensures.slot in
    let added = rw (its, c.to_transaction_id-2.ensures) at c.in_ok-add.ensures.added in
    begins c.args.table.now e id (option_map dialogue_of c.args.dialogue) (components_left c.args.components) slot none
    (sym c.may_begin_in.ensures ∙ c.if-not-may_begin_in.false) half
    ∙ (ap (λ (r : Result Half EndFault). r >>= λ g. Ok (put e slot id g))
    (rw (c.way.ensures, c.other.ensures) at c.in_ok-step_components.ensures.step)
    ∙ ap (λ (x : End). let r : Result End EndFault = Ok x in r) (sym added))
