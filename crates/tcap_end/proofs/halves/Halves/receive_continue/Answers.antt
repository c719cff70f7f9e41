use Rattle.std.proofs.Common.{sym, ap, ◌∙◌}
use Rattle.std.specs.Option.{option_map}
use Rattle.tcap_parts.specs.DialogueMeaning.{dialogue_of}
use Rattle.tcap_parts.specs.Meaning.{components_left}
use Rattle.tcap_end.specs.Half.{Half}
use Rattle.tcap_end.specs.HalfState.{half_of}
use Rattle.tcap_end.specs.End.{with_peer}
use Rattle.tcap_end.specs.Halves.{end_of, keyed_half}
use Rattle.tcap_end.proofs.ContinueLaws.{over_another, over_closed, over_first, over_next, over_other, over_unanswered, over_used, sent_begun, sent_peer}
use Rattle.tcap_end.proofs.FoundLaws.{none_peer}
use Rattle.tcap_end.proofs.OverLaws.{over_half, over_own, own_there, told_none, told_some}
use Rattle.tcap_end.proofs.halves.Halves.receive_continue.Goals as goal

pub returns-in_default-half-clause-step : goal.returns-in_default-half-clause-step
returns-in_default-half-clause-step c _ =
    let e = end_of c.args.self.now in
    let had = own_there e c.args.dtid.octets.now c.in-Some.found c.requires.sound c.in-Some.ensures.half in
    over_closed c.args.table.now e c.args.otid.octets.now c.args.dtid.octets.now (option_map dialogue_of c.args.dialogue)
    (components_left c.args.components) c.in-Some.ensures.half.1 (c.in_default-half.ensures c.in-Some.ensures.half.0 had)

pub returns-then-is_some-clause-step : goal.returns-then-is_some-clause-step
returns-then-is_some-clause-step c _ =
    let s = c.args.self.now in
    let id = c.args.otid.octets.now in
    let over = over_own s c.args.dtid.octets.now c.in-Some.found c.in-Some-half.half.now
    c.requires.sound c.in-Some.ensures.half c.in-Some-half.ensures in
    over_used c.args.table.now (end_of s) id c.args.dtid.octets.now (option_map dialogue_of c.args.dialogue)
    (components_left c.args.components) over.is c.in-Sent.is
    (told_some (with_peer (end_of s) id) c.with_id-in-Sent.result (sym c.is_some.ensures ∙ c.if-is_some.true) c.with_id-in-Sent.ensures.half)

pub returns-then-not-answers_request-clause-step : goal.returns-then-not-answers_request-clause-step
returns-then-not-answers_request-clause-step c _ =
    let s = c.args.self.now in
    let id = c.args.otid.octets.now in
    let over = over_own s c.args.dtid.octets.now c.in-Some.found c.in-Some-half.half.now
    c.requires.sound c.in-Some.ensures.half c.in-Some-half.ensures in
    over_unanswered c.args.table.now (end_of s) id c.args.dtid.octets.now (option_map dialogue_of c.args.dialogue)
    (components_left c.args.components) over.is c.in-Sent.is
    (told_none (with_peer (end_of s) id) c.with_id-in-Sent.result (sym c.is_some.ensures ∙ c.if-is_some.false) c.with_id-in-Sent.ensures.half)
    (sym c.answers_request.ensures ∙ c.if-not-answers_request.true)

pub activate_over-requires-clause-open : goal.activate_over-requires-clause-open
activate_over-requires-clause-open c =
    (over_own c.args.self.now c.args.dtid.octets.now c.in-Some.found c.in-Some-half.half.now
    c.requires.sound c.in-Some.ensures.half c.in-Some-half.ensures).there

pub activate_over-requires-clause-unknown : goal.activate_over-requires-clause-unknown
activate_over-requires-clause-unknown c h has =
    let f = keyed_half c.in-Some.found.slot c.in-Some.found.key h in
    let e = end_of c.args.self.now in
    let sent = ap (λ (h : Half). h.phase) (sym (c.in-Some-half.ensures h has).0) ∙ c.in-Sent.is in
    rw (sent_begun e f c.requires.sound has sent) (sent_peer e f c.requires.sound has sent)

pub activate_over-requires-clause-unused : goal.activate_over-requires-clause-unused
activate_over-requires-clause-unused c f has its =
    let e = end_of c.args.self.now in
    let id = c.args.otid.octets.now in
    let over = over_own c.args.self.now c.args.dtid.octets.now c.in-Some.found c.in-Some-half.half.now
    c.requires.sound c.in-Some.ensures.half c.in-Some-half.ensures in
    let at = sent_begun e (over_half c.in-Some.found c.in-Some-half.half.now) c.requires.sound over.had c.in-Sent.is in
    none_peer e id f (told_none (with_peer e id) c.with_id-in-Sent.result (sym c.is_some.ensures ∙ c.if-is_some.false) c.with_id-in-Sent.ensures.half) has
    (rw (at, c.to_transaction_id.ensures) at its)

pub returns-then-not-is_id-clause-step : goal.returns-then-not-is_id-clause-step
returns-then-not-is_id-clause-step c _ =
    let s = c.args.self.now in
    let over = over_own s c.args.dtid.octets.now c.in-Some.found c.in-Some-half.half.now
    c.requires.sound c.in-Some.ensures.half c.in-Some-half.ensures in
    over_another c.args.table.now (end_of s) c.args.otid.octets.now c.args.dtid.octets.now (option_map dialogue_of c.args.dialogue)
    (components_left c.args.components) over.is c.in-Active.is (sym c.is_id.ensures ∙ c.if-not-is_id.true)

pub step_over-requires-clause-open : goal.step_over-requires-clause-open
step_over-requires-clause-open c =
    (over_own c.args.self.now c.args.dtid.octets.now c.in-Some.found c.in-Some-half.half.now
    c.requires.sound c.in-Some.ensures.half c.in-Some-half.ensures).there

pub returns-in_default-phase-clause-step : goal.returns-in_default-phase-clause-step
returns-in_default-phase-clause-step c _ =
    let s = c.args.self.now in
    let over = over_own s c.args.dtid.octets.now c.in-Some.found c.in-Some-half.half.now
    c.requires.sound c.in-Some.ensures.half c.in-Some-half.ensures in
    over_other c.args.table.now (end_of s) c.args.otid.octets.now c.args.dtid.octets.now (option_map dialogue_of c.args.dialogue)
    (components_left c.args.components) over.is c.in_default-phase.not-Sent c.in_default-phase.not-Active

pub returns-else-not-answers_request-clause-step : goal.returns-else-not-answers_request-clause-step
returns-else-not-answers_request-clause-step c =
    let s = c.args.self.now in
    let id = c.args.otid.octets.now in
    let over = over_own s c.args.dtid.octets.now c.in-Some.found c.in-Some-half.half.now
    c.requires.sound c.in-Some.ensures.half c.in-Some-half.ensures in
    let at = sent_begun (end_of s) (over_half c.in-Some.found c.in-Some-half.half.now) c.requires.sound over.had c.in-Sent.is in
    rw (
      over_first c.args.table.now (end_of s) id c.args.dtid.octets.now (option_map dialogue_of c.args.dialogue)
          (components_left c.args.components) over.is c.in-Sent.is
          (told_none (with_peer (end_of s) id) c.with_id-in-Sent.result (sym c.is_some.ensures ∙ c.if-is_some.false) c.with_id-in-Sent.ensures.half)
          (sym c.answers_request.ensures ∙ c.if-not-answers_request.false) at,
      ← c.to_transaction_id.ensures,
    )
    (c.activate_over.ensures.step (half_of c.in-Some-half.half.now) over.had)

pub returns-else-not-is_id-clause-step : goal.returns-else-not-is_id-clause-step
returns-else-not-is_id-clause-step c =
    let s = c.args.self.now in
    let over = over_own s c.args.dtid.octets.now c.in-Some.found c.in-Some-half.half.now
    c.requires.sound c.in-Some.ensures.half c.in-Some-half.ensures in
    rw (over_next c.args.table.now (end_of s) c.args.otid.octets.now c.args.dtid.octets.now (option_map dialogue_of c.args.dialogue)
    (components_left c.args.components) over.is c.in-Active.is (sym c.is_id.ensures ∙ c.if-not-is_id.false))
    (c.step_over.ensures.step (half_of c.in-Some-half.half.now) over.had)
