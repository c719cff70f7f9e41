use Rattle.std.proofs.Common.{◌≡◌, ◌∙◌, ◌||◌, ap, ap₂, codes, [], ◌∷◌}
use Rattle.std.proofs.lemmas.Result.{IfOk-weaker}
use Rattle.clap.specs.Words.{App, Rule, Shape, app_of, rule_of, with_rule}
use Rattle.clap.specs.Simple.{app_of_fields, new_app, new_shape}
use Rattle.clap.specs.declared.builder.command.Command.{Command}
use Rattle.clap.specs.declared.builder.command.Command.TheOpen.{Command-F}
use Rattle.tcap_command_line.specs.CommandLine.{needed_rule, placeless_shape}
use Rattle.tcap_command_line.proofs.command_line.check_command.Goals as goal

-- `check` with this last argument
abbrev with_last : Rule → Shape
with_last last = record (new_shape (codes "check")) {
  rules = needed_rule (codes "RECORD") ∷ needed_rule (codes "TABLE") ∷ needed_rule (codes "CERT") ∷ last ∷ [];
}

pub returns : goal.returns
returns c =
    let about_is : app_of c.after_help.result ≡ new_app (codes "check") =
    ap app_of_fields c.after_help.ensures ∙ ap app_of_fields c.about.ensures ∙ c.new.ensures.app in
    let with_record = c.in_ok-arg.ensures.shape c.needed_arg-record.ensures.local ∙ ap₂ with_rule about_is c.needed_arg-record.ensures.rule in
    let with_table = c.in_ok-arg-2.ensures.shape c.needed_arg-table.ensures.local ∙ ap₂ with_rule with_record c.needed_arg-table.ensures.rule in
    let about_local =
    ap (λ (f : Command-F Command). f.has_globals) c.after_help.ensures
    ∙ ap (λ (f : Command-F Command). f.has_globals) c.about.ensures ∙ c.new.ensures.local in
    let record_local = c.in_ok-arg.ensures.globals ∙ ap₂ (λ a b. a || b) about_local c.needed_arg-record.ensures.local in
    let table_local = c.in_ok-arg-2.ensures.globals ∙ ap₂ (λ a b. a || b) record_local c.needed_arg-table.ensures.local in
    let with_cert = c.in_ok-arg-3.ensures.shape c.needed_arg-cert.ensures.local ∙ ap₂ with_rule with_table c.needed_arg-cert.ensures.rule in
    let cert_local = c.in_ok-arg-3.ensures.globals ∙ ap₂ (λ a b. a || b) table_local c.needed_arg-cert.ensures.local in
    IfOk-weaker c.arg-4.result _ _ (λ r h. (
      ap (λ (a : App). placeless_shape a.top) (h.shape c.end_arg.ensures.local ∙ ap (λ a. with_rule a (rule_of c.end_arg.result)) with_cert)
          ∙ ap with_last c.end_arg.ensures.rule,
      h.globals ∙ ap₂ (λ a b. a || b) cert_local c.end_arg.ensures.local,
    )) c.arg-4.ensures
