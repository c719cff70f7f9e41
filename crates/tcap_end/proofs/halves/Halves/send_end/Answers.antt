use Rattle.std.proofs.Common.{sym, ◌∙◌}
use Rattle.std.proofs.lemmas.Result.{err_from_is_err_and}
use Rattle.std.specs.Option.{option_map}
use Rattle.tcap_parts.specs.DialogueMeaning.{dialogue_of}
use Rattle.tcap_parts.specs.Meaning.{components_left}
use Rattle.tcap_end.specs.declared.half_components.Direction.TheVariants.{Out}
use Rattle.tcap_end.specs.End.{put}
use Rattle.tcap_end.specs.Half.{Half, closed_half}
use Rattle.tcap_end.specs.HalfState.{half_of}
use Rattle.tcap_end.specs.Halves.{end_of}
use Rattle.tcap_end.specs.ComponentSteps.{components_by}
use Rattle.tcap_end.proofs.OverLaws.{over_peer, peer_there}
use Rattle.tcap_end.proofs.SendStepLaws.{becomes_closed, ends_closed, ends_half, ends_wrong, stays_err}
use Rattle.tcap_end.proofs.halves.Halves.send_end.Goals as goal

pub returns-in_default-half-clause-step : goal.returns-in_default-half-clause-step
returns-in_default-half-clause-step c _ =
    let e = end_of c.args.self.now in
    let had = peer_there e c.args.dtid.octets.now c.in-Some.found c.requires.sound c.in-Some.ensures.half in
    ends_closed c.args.table.now e c.args.dtid.octets.now (option_map dialogue_of c.args.dialogue) (components_left c.args.components)
    c.in-Some.ensures.half.1 (c.in_default-half.ensures c.in-Some.ensures.half.0 had)

pub returns-then-not-may_go_on-clause-step : goal.returns-then-not-may_go_on-clause-step
returns-then-not-may_go_on-clause-step c _ =
    let over = over_peer c.args.self.now c.args.dtid.octets.now c.in-Some.found c.in-Some-half.half.now
    c.requires.sound c.in-Some.ensures.half c.in-Some-half.ensures in
    ends_wrong c.args.table.now (end_of c.args.self.now) c.args.dtid.octets.now (option_map dialogue_of c.args.dialogue)
    (components_left c.args.components) over.is over.is_open (sym c.may_go_on.ensures ∙ c.if-not-may_go_on.true)

pub step_over-requires-clause-open : goal.step_over-requires-clause-open
step_over-requires-clause-open c =
    (over_peer c.args.self.now c.args.dtid.octets.now c.in-Some.found c.in-Some-half.half.now
    c.requires.sound c.in-Some.ensures.half c.in-Some-half.ensures).there

pub returns-in_err-step_over-clause-step : goal.returns-in_err-step_over-clause-step
returns-in_err-step_over-clause-step c =
    let e = end_of c.args.self.now in
    let found = c.in-Some.found in
    let h = half_of c.in-Some-half.half.now in
    let over = over_peer c.args.self.now c.args.dtid.octets.now c.in-Some.found c.in-Some-half.half.now
    c.requires.sound c.in-Some.ensures.half c.in-Some-half.ensures in
    let p = err_from_is_err_and c.from_residual.result c.from_residual.ensures.1 in
    rw (p.1, p.2) (λ apart.
    ends_half c.args.table.now e c.args.dtid.octets.now (option_map dialogue_of c.args.dialogue) (components_left c.args.components)
    over.is over.is_open (sym c.may_go_on.ensures ∙ c.if-not-may_go_on.false)
    ∙ stays_err (components_by Out c.args.table.now h (components_left c.args.components)) (put e found.slot found.key)
    (λ (g : Half). put e found.slot found.key (closed_half g)) _ (c.in_err-step_over.ensures.step h over.had apart))

pub returns-clause-step : goal.returns-clause-step
returns-clause-step c =
    let s = c.args.self.now in
    let h = half_of c.in-Some-half.half.now in
    let over = over_peer c.args.self.now c.args.dtid.octets.now c.in-Some.found c.in-Some-half.half.now
    c.requires.sound c.in-Some.ensures.half c.in-Some-half.ensures in
    ends_half c.args.table.now (end_of s) c.args.dtid.octets.now (option_map dialogue_of c.args.dialogue)
    (components_left c.args.components) over.is over.is_open (sym c.may_go_on.ensures ∙ c.if-not-may_go_on.false)
    ∙ becomes_closed s c.step_over.new.self c.close.new.self c.in-Some.found.slot c.in-Some.found.key
    (components_by Out c.args.table.now h (components_left c.args.components)) (c.in_ok-step_over.ensures.step h over.had)
    c.close.ensures.closed
