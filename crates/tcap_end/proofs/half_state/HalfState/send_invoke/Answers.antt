use mir.Syntax.{w8}
use Rattle.std.proofs.Common.{ℤ, List, Option, Some, Result, Ok, false, true, refl, sym, ap, ◌∙◌}
use Rattle.std.proofs.lemmas.Int.{to_z-of_z}
use Rattle.tcap_end.specs.declared.half_state.HalfState.{HalfState}
use Rattle.tcap_end.specs.declared.half_state.Change.TheVariants.{Out}
use Rattle.tcap_end.specs.declared.half.InvocationState.TheVariants as states
use Rattle.tcap_end.specs.declared.own_invocations.OwnInvocation.{OwnInvocation}
use Rattle.std.specs.BTreeMap.{insert_entry}
use Rattle.std.specs.Ordering.{int_cmp}
use Rattle.tcap_parts.specs.declared.code.Code.{Code}
use Rattle.tcap_end.specs.declared.fault.EndFault.{EndFault}
use Rattle.tcap_end.specs.Half.{Half}
use Rattle.tcap_end.specs.HalfState.{StillUndoes, half_of, kept_of}
use Rattle.tcap_end.specs.OwnInvocations.{kept_outs}
use Rattle.tcap_end.proofs.NoteLaws.{keeps_out, still_noted}
use Rattle.tcap_end.proofs.SendLaws.{none_there, out_back}
use Rattle.tcap_end.proofs.UndoLaws.{undoes_too}
use Rattle.tcap_end.proofs.half_state.HalfState.send_invoke.Goals as goal
use Rattle.tcap_end.proofs.half_state.HalfState.send_invoke.Goals.{After-note}

pub returns-then-is_some-clause-step : goal.returns-then-is_some-clause-step
returns-then-is_some-clause-step c = λ _.
    rw (
      sym c.has.ensures ∙ c.if-not-has.false,
      none_there c.get.result _ true (rw (to_z-of_z w8 c.args.id c.ranges.id) at c.get.ensures) (sym c.is_some.ensures ∙ c.if-is_some.true),
    )
    refl

pub returns-then-not-may_link-clause-step : goal.returns-then-not-may_link-clause-step
returns-then-not-may_link-clause-step c = λ _.
    rw (
      sym c.has.ensures ∙ c.if-not-has.false,
      none_there c.get.result _ false (rw (to_z-of_z w8 c.args.id c.ranges.id) at c.get.ensures)
          (sym c.is_some.ensures ∙ c.if-is_some.false),
      sym c.may_link.ensures ∙ c.if-not-may_link.true,
    )
    refl

pub returns-in_err-was-clause-undoes : goal.returns-in_err-was-clause-undoes
returns-in_err-was-clause-undoes c =
    let h : HalfState = c.args.self.now in
    λ start. undoes_too c.args.changes.now h (record h { out = c.join.new.self }) start
    (ap (λ out. record (kept_of h) { out = out }) c.in_err-was.ensures.kept)
    (keeps_out h c.join.new.self c.join.ensures.others)

undoes : (c : After-note) → StillUndoes c.args.changes.now c.args.self.now c.note.new.changes c.note.new.self
undoes c =
    let h : HalfState = c.args.self.now in let joined = c.in_ok-was in
    let own_invocation : Option OwnInvocation = Some (record { code = c.in_ok-code.code; state = states.OperationSent }) in
    still_noted c.note.result (Out _ joined.was') c.args.changes.now c.note.new.changes h (record h { out = c.join.new.self }) c.note.new.self
    (ap (λ out. record (kept_of h) { out = out })
    (out_back _ joined.was' own_invocation h.out h.out c.join.new.self refl joined.ensures.was joined.ensures.put))
    (keeps_out h c.join.new.self c.join.ensures.others)
    joined.ensures.made
    c.note.ensures.noted c.note.ensures.undone

pub returns-in_err-note-clause-undoes : goal.returns-in_err-note-clause-undoes
returns-in_err-note-clause-undoes c = undoes (goal.at.returns-in_err-note-clause-undoes c).After-note

pub returns-clause-undoes : goal.returns-clause-undoes
returns-clause-undoes c = undoes (goal.at.returns-clause-undoes c).After-note

pub returns-clause-step : goal.returns-clause-step
returns-clause-step c =
    let h : HalfState = c.args.self.now in
    let put = rw (to_z-of_z w8 c.args.id c.ranges.id) at c.in_ok-was.ensures.put
    ∙ ap (λ (code : Code). insert_entry int_cmp (kept_outs h.out) c.args.id (sent code)) c.in_ok-code.ensures.made in
    rw (
      sym c.has.ensures ∙ c.if-not-has.false,
      none_there c.get.result _ false (rw (to_z-of_z w8 c.args.id c.ranges.id) at c.get.ensures)
          (sym c.is_some.ensures ∙ c.if-is_some.false),
      sym c.may_link.ensures ∙ c.if-not-may_link.false,
    )
    (ap (λ (out : List (ℤ × OwnInvocation)). let r : Result Half EndFault = Ok (record (half_of h) { out = out }) in r) (sym put)
    ∙ ap (λ (x : HalfState). let r : Result Half EndFault = Ok (half_of x) in r) (sym c.in_ok-note.ensures.noted.0))
  where
    sent : Code → OwnInvocation
    sent code = record { code = code; state = states.OperationSent }
