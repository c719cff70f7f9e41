use Rattle.std.proofs.Common.{refl, sym, ◌∙◌}
use Rattle.std.specs.Option.{option_map}
use Rattle.tcap_parts.specs.DialogueMeaning.{dialogue_of}
use Rattle.tcap_parts.specs.Meaning.{components_left}
use Rattle.tcap_end.specs.Halves.{end_of}
use Rattle.tcap_end.proofs.OverLaws.{open_where}
use Rattle.tcap_end.proofs.SendStepLaws.{closed_inactive, next_goes, next_inactive, next_other, next_wrong}
use Rattle.tcap_end.proofs.halves.Halves.send_next_continue.Goals as goal

pub returns-in_default-clause-step : goal.returns-in_default-clause-step
returns-in_default-clause-step c h had _ =
    next_inactive {x = h} c.args.table.now (end_of c.args.self.now) c.args.found.now.slot c.args.found.now.key c.args.dtid.octets.now
    (option_map dialogue_of c.args.dialogue) (components_left c.args.components) refl (closed_inactive h.phase (c.in_default.ensures h had))

pub returns-then-not-is_active-clause-step : goal.returns-then-not-is_active-clause-step
returns-then-not-is_active-clause-step c h had _ =
    next_inactive c.args.table.now (end_of c.args.self.now) c.args.found.now.slot c.args.found.now.key c.args.dtid.octets.now
    (option_map dialogue_of c.args.dialogue) (components_left c.args.components) (c.in-Some.ensures h had).0
    (sym c.is_active.ensures ∙ c.if-not-is_active.true)

pub returns-then-not-is_id-clause-step : goal.returns-then-not-is_id-clause-step
returns-then-not-is_id-clause-step c h had _ =
    next_other c.args.table.now (end_of c.args.self.now) c.args.found.now.slot c.args.found.now.key c.args.dtid.octets.now
    (option_map dialogue_of c.args.dialogue) (components_left c.args.components) (c.in-Some.ensures h had).0
    (sym c.is_active.ensures ∙ c.if-not-is_active.false) (sym c.is_id.ensures ∙ c.if-not-is_id.true)

pub returns-then-not-may_go_on-clause-step : goal.returns-then-not-may_go_on-clause-step
returns-then-not-may_go_on-clause-step c h had _ =
    next_wrong c.args.table.now (end_of c.args.self.now) c.args.found.now.slot c.args.found.now.key c.args.dtid.octets.now
    (option_map dialogue_of c.args.dialogue) (components_left c.args.components) (c.in-Some.ensures h had).0
    (sym c.is_active.ensures ∙ c.if-not-is_active.false) (sym c.is_id.ensures ∙ c.if-not-is_id.false)
    (sym c.may_go_on.ensures ∙ c.if-not-may_go_on.true)

pub step_over-requires-clause-open : goal.step_over-requires-clause-open
step_over-requires-clause-open c =
    let had = c.requires.exists.1 in
    open_where c.args.self.now c.args.found.now.slot c.args.found.now.key c.requires.exists.0 had
    (c.in-Some.ensures c.requires.exists.0 had).1

pub returns-clause-step : goal.returns-clause-step
returns-clause-step c h had =
    rw (next_goes c.args.table.now (end_of c.args.self.now) c.args.found.now.slot c.args.found.now.key c.args.dtid.octets.now
    (option_map dialogue_of c.args.dialogue) (components_left c.args.components) (c.in-Some.ensures h had).0
    (sym c.is_active.ensures ∙ c.if-not-is_active.false) (sym c.is_id.ensures ∙ c.if-not-is_id.false)
    (sym c.may_go_on.ensures ∙ c.if-not-may_go_on.false)) (c.step_over.ensures.step h had)
