use Rattle.std.proofs.Common.{◌≡◌, ◌∙◌, ◌||◌, ap, ap₂, codes, [], ◌∷◌}
use Rattle.std.proofs.lemmas.Result.{IfOk-weaker}
use Rattle.clap.specs.Words.{App, Rule, Shape, app_of, rule_of, with_rule}
use Rattle.clap.specs.Simple.{app_of_fields, new_app, new_shape}
use Rattle.clap.specs.declared.builder.command.Command.{Command}
use Rattle.clap.specs.declared.builder.command.Command.TheOpen.{Command-F}
use Rattle.tcap_command_line.specs.CommandLine.{file_rule, left_out_rule, needed_rule, placeless_shape}
use Rattle.tcap_command_line.proofs.command_line.explain_command.Goals as goal

-- `explain` with this argument before the one for the chart
abbrev with_end : Rule → Shape
with_end side = record (new_shape (codes "explain")) {
  rules = needed_rule (codes "RECORD") ∷ needed_rule (codes "TABLE") ∷ left_out_rule (codes "CERT") ∷ side ∷ file_rule (codes "chart") ∷ [];
}

pub returns : goal.returns
returns c =
    let about_is : app_of c.after_help.result ≡ new_app (codes "explain") =
    ap app_of_fields c.after_help.ensures ∙ ap app_of_fields c.about.ensures ∙ c.new.ensures.app in
    let with_record = c.in_ok-arg.ensures.shape c.needed_arg-record.ensures.local ∙ ap₂ with_rule about_is c.needed_arg-record.ensures.rule in
    let with_table = c.in_ok-arg-2.ensures.shape c.needed_arg-table.ensures.local ∙ ap₂ with_rule with_record c.needed_arg-table.ensures.rule in
    let with_cert = c.in_ok-arg-3.ensures.shape c.left_out_arg-cert.ensures.local ∙ ap₂ with_rule with_table c.left_out_arg-cert.ensures.rule in
    let then_end = c.in_ok-arg-4.ensures.shape c.end_arg.ensures.local ∙ ap (λ a. with_rule a (rule_of c.end_arg.result)) with_cert in
    let about_local =
    ap (λ (f : Command-F Command). f.has_globals) c.after_help.ensures
    ∙ ap (λ (f : Command-F Command). f.has_globals) c.about.ensures ∙ c.new.ensures.local in
    let record_local = c.in_ok-arg.ensures.globals ∙ ap₂ (λ a b. a || b) about_local c.needed_arg-record.ensures.local in
    let table_local = c.in_ok-arg-2.ensures.globals ∙ ap₂ (λ a b. a || b) record_local c.needed_arg-table.ensures.local in
    let cert_local = c.in_ok-arg-3.ensures.globals ∙ ap₂ (λ a b. a || b) table_local c.left_out_arg-cert.ensures.local in
    let end_local = c.in_ok-arg-4.ensures.globals ∙ ap₂ (λ a b. a || b) cert_local c.end_arg.ensures.local in
    IfOk-weaker c.arg-5.result _ _ (λ r h. (
      ap (λ (a : App). placeless_shape a.top) (h.shape c.file_arg-chart.ensures.local ∙ ap₂ with_rule then_end c.file_arg-chart.ensures.rule)
          ∙ ap with_end c.end_arg.ensures.rule,
      h.globals ∙ ap₂ (λ a b. a || b) end_local c.file_arg-chart.ensures.local,
    )) c.arg-5.ensures
