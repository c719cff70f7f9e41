use Rattle.std.proofs.Common.{Result, Ok, sym, ap, ◌∙◌}
use Rattle.tcap_end.specs.declared.fault.EndFault.{EndFault}
use Rattle.tcap_end.specs.End.{End}
use Rattle.tcap_end.specs.HalfState.{half_of}
use Rattle.tcap_end.specs.Halves.{end_of}
use Rattle.tcap_end.proofs.HiddenLaws.{half_closes, stays_closed, stays_open}
use Rattle.tcap_end.proofs.OverLaws.{named_there, over_named}
use Rattle.tcap_end.proofs.halves.Halves.close_named.Goals as goal

pub returns-in_default-half-clause-step : goal.returns-in_default-half-clause-step
returns-in_default-half-clause-step c =
    let e = end_of c.args.self.now in
    let had = named_there e c.args.name c.in-Some.found c.requires.sound c.in-Some.ensures.half in
    stays_closed c.args.table.now e c.args.name c.in-Some.ensures.half.1 (c.in_default-half.ensures c.in-Some.ensures.half.0 had)

pub returns-then-not-may_close-clause-step : goal.returns-then-not-may_close-clause-step
returns-then-not-may_close-clause-step c =
    let s = c.args.self.now in
    let over = over_named s c.args.name c.in-Some.found c.in-Some-half.half.now c.requires.sound c.in-Some.ensures.half c.in-Some-half.ensures in
    stays_open c.args.table.now (end_of s) c.args.name over.is (sym c.may_close.ensures ∙ c.if-not-may_close.true)

pub close-requires-clause-open : goal.close-requires-clause-open
close-requires-clause-open c =
    (over_named c.args.self.now c.args.name c.in-Some.found c.in-Some-half.half.now
    c.requires.sound c.in-Some.ensures.half c.in-Some-half.ensures).there

pub returns-clause-step : goal.returns-clause-step
returns-clause-step c =
    let s = c.args.self.now in
    let over = over_named s c.args.name c.in-Some.found c.in-Some-half.half.now c.requires.sound c.in-Some.ensures.half c.in-Some-half.ensures in
    half_closes c.args.table.now (end_of s) c.args.name over.is (sym c.may_close.ensures ∙ c.if-not-may_close.false)
    ∙ ap (λ (e : End). let r : Result End EndFault = Ok e in r)
    (sym (c.close.ensures.closed (half_of c.in-Some-half.half.now) over.had))
