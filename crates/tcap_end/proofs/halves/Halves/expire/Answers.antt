use mir.Syntax.{w8}
use Rattle.std.proofs.Common.{Result, Ok, sym, ap, ◌∙◌}
use Rattle.std.proofs.lemmas.Int.{to_z-of_z}
use Rattle.tcap_end.specs.declared.fault.EndFault.{EndFault}
use Rattle.tcap_end.specs.Component.{own_invocation}
use Rattle.tcap_end.specs.End.{End}
use Rattle.tcap_end.specs.Half.{Half}
use Rattle.tcap_end.specs.HalfState.{half_of}
use Rattle.tcap_end.specs.Halves.{end_of}
use Rattle.tcap_end.specs.HiddenSteps.{may_expire}
use Rattle.tcap_end.proofs.HiddenLaws.{closed_stays, expires_some, invoked_ends, invoked_stays}
use Rattle.tcap_end.proofs.OverLaws.{named_there, over_named}
use Rattle.tcap_end.proofs.halves.Halves.expire.Goals as goal

pub returns-in_default-half-clause-step : goal.returns-in_default-half-clause-step
returns-in_default-half-clause-step c =
    let e = end_of c.args.self.now in
    let had = named_there e c.args.name c.in-Some.found c.requires.sound c.in-Some.ensures.half in
    closed_stays c.args.table.now e c.args.name c.args.id c.in-Some.ensures.half.1 (c.in_default-half.ensures c.in-Some.ensures.half.0 had)

pub returns-then-not-may_expire-clause-step : goal.returns-then-not-may_expire-clause-step
returns-then-not-may_expire-clause-step c =
    let s = c.args.self.now in
    let over = over_named s c.args.name c.in-Some.found c.in-Some-half.half.now c.requires.sound c.in-Some.ensures.half c.in-Some-half.ensures in
    invoked_stays c.args.table.now (end_of s) c.args.name c.args.id over.is over.is_open
    (sym (rw (to_z-of_z w8 c.args.id c.ranges.id) at c.may_expire.ensures) ∙ c.if-not-may_expire.true)

pub forget_over-requires-clause-open : goal.forget_over-requires-clause-open
forget_over-requires-clause-open c =
    (over_named c.args.self.now c.args.name c.in-Some.found c.in-Some-half.half.now
    c.requires.sound c.in-Some.ensures.half c.in-Some-half.ensures).there

pub forget_over-requires-clause-own_invocation : goal.forget_over-requires-clause-own_invocation
forget_over-requires-clause-own_invocation c h has =
    let id = c.args.id in
    rw (to_z-of_z w8 id c.ranges.id)
    (expires_some c.args.table.now (own_invocation h id)
    (ap (λ (h : Half). may_expire c.args.table.now (own_invocation h id)) (sym (c.in-Some-half.ensures h has).0)
    ∙ sym (rw (to_z-of_z w8 id c.ranges.id) at c.may_expire.ensures) ∙ c.if-not-may_expire.false))

pub returns-clause-step : goal.returns-clause-step
returns-clause-step c =
    let s = c.args.self.now in
    let id = c.args.id in
    let h = half_of c.in-Some-half.half.now in
    let over = over_named s c.args.name c.in-Some.found c.in-Some-half.half.now c.requires.sound c.in-Some.ensures.half c.in-Some-half.ensures in
    invoked_ends c.args.table.now (end_of s) c.args.name id over.is over.is_open
    (sym (rw (to_z-of_z w8 id c.ranges.id) at c.may_expire.ensures) ∙ c.if-not-may_expire.false)
    ∙ ap (λ (e : End). let r : Result End EndFault = Ok e in r)
    (sym (rw (to_z-of_z w8 id c.ranges.id) at c.forget_over.ensures.forgotten h over.had))
