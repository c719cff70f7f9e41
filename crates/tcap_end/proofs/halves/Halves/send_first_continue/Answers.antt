use Rattle.std.proofs.Common.{sym, ap, ◌∙◌}
use Rattle.std.specs.Option.{option_map}
use Rattle.tcap_parts.specs.DialogueMeaning.{dialogue_of}
use Rattle.tcap_parts.specs.Meaning.{components_left}
use Rattle.tcap_end.specs.Half.{Half}
use Rattle.tcap_end.specs.HalfState.{half_of}
use Rattle.tcap_end.specs.Halves.{end_of, keyed_half}
use Rattle.tcap_end.specs.Message.{is_received}
use Rattle.tcap_end.proofs.FoundLaws.{none_own}
use Rattle.tcap_end.proofs.OverLaws.{over_half, over_peer, peer_there}
use Rattle.tcap_end.proofs.SendStepLaws.{closed_unreceived, first_goes, first_none, first_wrong, received_accepted, received_own}
use Rattle.tcap_end.proofs.halves.Halves.send_first_continue.Goals as goal

pub returns-in_default-half-clause-step : goal.returns-in_default-half-clause-step
returns-in_default-half-clause-step c _ =
    let e = end_of c.args.self.now in
    let had = peer_there e c.args.dtid.octets.now c.in-Some.found c.requires.sound c.in-Some.ensures.half in
    first_none c.args.table.now e c.args.otid.octets.now c.args.dtid.octets.now (option_map dialogue_of c.args.dialogue)
    (components_left c.args.components)
    c.in-Some.ensures.half.1 (closed_unreceived c.in-Some.ensures.half.0.phase (c.in_default-half.ensures c.in-Some.ensures.half.0 had))

pub returns-then-not-is_received-clause-step : goal.returns-then-not-is_received-clause-step
returns-then-not-is_received-clause-step c _ =
    first_none c.args.table.now (end_of c.args.self.now) c.args.otid.octets.now c.args.dtid.octets.now
    (option_map dialogue_of c.args.dialogue) (components_left c.args.components)
    (over_peer c.args.self.now c.args.dtid.octets.now c.in-Some.found c.in-Some-half.half.now
    c.requires.sound c.in-Some.ensures.half c.in-Some-half.ensures).is
    (sym c.is_received.ensures ∙ c.if-not-is_received.true)

pub returns-then-not-may_go_on-clause-step : goal.returns-then-not-may_go_on-clause-step
returns-then-not-may_go_on-clause-step c _ =
    first_wrong c.args.table.now (end_of c.args.self.now) c.args.otid.octets.now c.args.dtid.octets.now
    (option_map dialogue_of c.args.dialogue) (components_left c.args.components)
    (over_peer c.args.self.now c.args.dtid.octets.now c.in-Some.found c.in-Some-half.half.now
    c.requires.sound c.in-Some.ensures.half c.in-Some-half.ensures).is
    (sym c.is_received.ensures ∙ c.if-not-is_received.false)
    (sym c.may_go_on.ensures ∙ c.if-not-may_go_on.true)

pub activate_over-requires-clause-open : goal.activate_over-requires-clause-open
activate_over-requires-clause-open c =
    (over_peer c.args.self.now c.args.dtid.octets.now c.in-Some.found c.in-Some-half.half.now
    c.requires.sound c.in-Some.ensures.half c.in-Some-half.ensures).there

pub activate_over-requires-clause-unknown : goal.activate_over-requires-clause-unknown
activate_over-requires-clause-unknown c h has =
    let f = keyed_half c.in-Some.found.slot c.in-Some.found.key h in
    let e = end_of c.args.self.now in
    let received = ap (λ (x : Half). is_received x.phase) (sym (c.in-Some-half.ensures h has).0)
    ∙ (sym c.is_received.ensures ∙ c.if-not-is_received.false) in
    rw (received_accepted e f c.requires.sound has received) (received_own e f c.requires.sound has received)

pub activate_over-requires-clause-unused : goal.activate_over-requires-clause-unused
activate_over-requires-clause-unused c f has its =
    let at = received_accepted (end_of c.args.self.now) (over_half c.in-Some.found c.in-Some-half.half.now) c.requires.sound
    (over_peer c.args.self.now c.args.dtid.octets.now c.in-Some.found c.in-Some-half.half.now
    c.requires.sound c.in-Some.ensures.half c.in-Some-half.ensures).had
    (sym c.is_received.ensures ∙ c.if-not-is_received.false) in
    none_own (end_of c.args.self.now) c.args.otid.octets.now f c.requires.unused has (rw (at, c.to_transaction_id.ensures) at its)

pub returns-clause-step : goal.returns-clause-step
returns-clause-step c =
    let s = c.args.self.now in
    let h = half_of c.in-Some-half.half.now in
    let over = over_peer c.args.self.now c.args.dtid.octets.now c.in-Some.found c.in-Some-half.half.now
    c.requires.sound c.in-Some.ensures.half c.in-Some-half.ensures in
    let received = sym c.is_received.ensures ∙ c.if-not-is_received.false in
    let at = received_accepted (end_of s) (over_half c.in-Some.found c.in-Some-half.half.now) c.requires.sound over.had received in
    rw (
      first_goes c.args.table.now (end_of s) c.args.otid.octets.now c.args.dtid.octets.now (option_map dialogue_of c.args.dialogue)
          (components_left c.args.components) over.is received (sym c.may_go_on.ensures ∙ c.if-not-may_go_on.false) at,
      ← c.to_transaction_id.ensures,
    )
    (c.activate_over.ensures.step h over.had)
