use Rattle.std.proofs.Common.{Result, Ok, sym, ap, ◌∙◌}
use Rattle.std.specs.Option.{option_map}
use Rattle.tcap_parts.specs.DialogueMeaning.{dialogue_of}
use Rattle.tcap_end.specs.declared.fault.EndFault.{EndFault}
use Rattle.tcap_end.specs.End.{End}
use Rattle.tcap_end.specs.HalfState.{half_of}
use Rattle.tcap_end.specs.Halves.{end_of}
use Rattle.tcap_end.proofs.OverLaws.{over_peer, peer_there}
use Rattle.tcap_end.proofs.SendStepLaws.{aborts_closed, aborts_half, aborts_nothing, aborts_wrong}
use Rattle.tcap_end.proofs.halves.Halves.send_abort.Goals as goal

pub returns-in_default-clause-step : goal.returns-in_default-clause-step
returns-in_default-clause-step c =
    aborts_nothing (end_of c.args.self.now) c.args.dtid.octets.now (option_map dialogue_of c.args.dialogue) c.in_default.ensures.half

pub returns-in_default-half-clause-step : goal.returns-in_default-half-clause-step
returns-in_default-half-clause-step c =
    let e = end_of c.args.self.now in
    let had = peer_there e c.args.dtid.octets.now c.in-Some.found c.requires.sound c.in-Some.ensures.half in
    aborts_closed e c.args.dtid.octets.now (option_map dialogue_of c.args.dialogue) c.in-Some.ensures.half.1
    (c.in_default-half.ensures c.in-Some.ensures.half.0 had)

pub returns-then-not-may_abort-clause-step : goal.returns-then-not-may_abort-clause-step
returns-then-not-may_abort-clause-step c =
    let over = over_peer c.args.self.now c.args.dtid.octets.now c.in-Some.found c.in-Some-half.half.now
    c.requires.sound c.in-Some.ensures.half c.in-Some-half.ensures in
    aborts_wrong (end_of c.args.self.now) c.args.dtid.octets.now (option_map dialogue_of c.args.dialogue) over.is over.is_open
    (sym c.may_abort.ensures ∙ c.if-not-may_abort.true)

pub close-requires-clause-open : goal.close-requires-clause-open
close-requires-clause-open c =
    (over_peer c.args.self.now c.args.dtid.octets.now c.in-Some.found c.in-Some-half.half.now
    c.requires.sound c.in-Some.ensures.half c.in-Some-half.ensures).there

pub returns-clause-step : goal.returns-clause-step
returns-clause-step c =
    let s = c.args.self.now in
    let over = over_peer c.args.self.now c.args.dtid.octets.now c.in-Some.found c.in-Some-half.half.now
    c.requires.sound c.in-Some.ensures.half c.in-Some-half.ensures in
    aborts_half (end_of s) c.args.dtid.octets.now (option_map dialogue_of c.args.dialogue) over.is over.is_open
    (sym c.may_abort.ensures ∙ c.if-not-may_abort.false)
    ∙ ap (λ (e : End). let r : Result End EndFault = Ok e in r)
    (sym (c.close.ensures.closed (half_of c.in-Some-half.half.now) over.had))
