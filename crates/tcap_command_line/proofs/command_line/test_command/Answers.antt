use Rattle.std.proofs.Common.{◌≡◌, ◌∙◌, ◌||◌, ap, ap₂, codes, [], ◌∷◌}
use Rattle.std.proofs.lemmas.Result.{IfOk-weaker}
use Rattle.clap.specs.Words.{App, Rule, Shape, app_of, rule_of, with_rule}
use Rattle.clap.specs.Simple.{app_of_fields, new_app, new_shape}
use Rattle.clap.specs.declared.builder.command.Command.{Command}
use Rattle.clap.specs.declared.builder.command.Command.TheOpen.{Command-F}
use Rattle.tcap_command_line.specs.CommandLine.{file_rule, flag_rule, linger_rule, placeless_shape, tables_rule, traces_rule}
use Rattle.tcap_command_line.proofs.command_line.test_command.Goals as goal

-- `test` with these arguments for an end and for IDs
abbrev with_choices : Rule → Rule → Shape
with_choices side ids = record (new_shape (codes "test")) {
  rules = traces_rule ∷ side ∷ tables_rule ∷ ids ∷ flag_rule (codes "complete") ∷ flag_rule (codes "heard") ∷ linger_rule
      ∷ file_rule (codes "json") ∷ file_rule (codes "junit") ∷ file_rule (codes "html") ∷ flag_rule (codes "progress") ∷ [];
}

pub returns : goal.returns
returns c =
    let about_is : app_of c.after_help.result ≡ new_app (codes "test") =
    ap app_of_fields c.after_help.ensures ∙ ap app_of_fields c.about.ensures ∙ c.new.ensures.app in
    let about_local =
    ap (λ (f : Command-F Command). f.has_globals) c.after_help.ensures
    ∙ ap (λ (f : Command-F Command). f.has_globals) c.about.ensures ∙ c.new.ensures.local in
    let with_traces = c.in_ok-arg.ensures.shape c.traces_arg.ensures.local
    ∙ ap₂ with_rule about_is c.traces_arg.ensures.rule in
    let traces_local = c.in_ok-arg.ensures.globals
    ∙ ap₂ (λ a b. a || b) about_local c.traces_arg.ensures.local in
    let with_side = c.in_ok-arg-2.ensures.shape c.of_arg.ensures.local
    ∙ ap (λ a. with_rule a (rule_of c.of_arg.result)) with_traces in
    let side_local = c.in_ok-arg-2.ensures.globals
    ∙ ap₂ (λ a b. a || b) traces_local c.of_arg.ensures.local in
    let with_tables = c.in_ok-arg-3.ensures.shape c.tables_arg.ensures.local
    ∙ ap₂ with_rule with_side c.tables_arg.ensures.rule in
    let tables_local = c.in_ok-arg-3.ensures.globals
    ∙ ap₂ (λ a b. a || b) side_local c.tables_arg.ensures.local in
    let with_ids = c.in_ok-arg-4.ensures.shape c.ids_arg.ensures.local
    ∙ ap (λ a. with_rule a (rule_of c.ids_arg.result)) with_tables in
    let ids_local = c.in_ok-arg-4.ensures.globals
    ∙ ap₂ (λ a b. a || b) tables_local c.ids_arg.ensures.local in
    let with_complete = c.in_ok-arg-5.ensures.shape c.flag_arg-complete.ensures.local
    ∙ ap₂ with_rule with_ids c.flag_arg-complete.ensures.rule in
    let complete_local = c.in_ok-arg-5.ensures.globals
    ∙ ap₂ (λ a b. a || b) ids_local c.flag_arg-complete.ensures.local in
    let with_heard = c.in_ok-arg-6.ensures.shape c.flag_arg-heard.ensures.local
    ∙ ap₂ with_rule with_complete c.flag_arg-heard.ensures.rule in
    let heard_local = c.in_ok-arg-6.ensures.globals
    ∙ ap₂ (λ a b. a || b) complete_local c.flag_arg-heard.ensures.local in
    let with_linger = c.in_ok-arg-7.ensures.shape c.linger_arg.ensures.local
    ∙ ap₂ with_rule with_heard c.linger_arg.ensures.rule in
    let linger_local = c.in_ok-arg-7.ensures.globals
    ∙ ap₂ (λ a b. a || b) heard_local c.linger_arg.ensures.local in
    let with_json = c.in_ok-arg-8.ensures.shape c.file_arg-json.ensures.local
    ∙ ap₂ with_rule with_linger c.file_arg-json.ensures.rule in
    let json_local = c.in_ok-arg-8.ensures.globals
    ∙ ap₂ (λ a b. a || b) linger_local c.file_arg-json.ensures.local in
    let with_junit = c.in_ok-arg-9.ensures.shape c.file_arg-junit.ensures.local
    ∙ ap₂ with_rule with_json c.file_arg-junit.ensures.rule in
    let junit_local = c.in_ok-arg-9.ensures.globals
    ∙ ap₂ (λ a b. a || b) json_local c.file_arg-junit.ensures.local in
    let with_html = c.in_ok-arg-10.ensures.shape c.file_arg-html.ensures.local
    ∙ ap₂ with_rule with_junit c.file_arg-html.ensures.rule in
    let html_local = c.in_ok-arg-10.ensures.globals
    ∙ ap₂ (λ a b. a || b) junit_local c.file_arg-html.ensures.local in
    IfOk-weaker c.arg-11.result _ _ (λ r h. (
      ap (λ (a : App). placeless_shape a.top) (h.shape c.flag_arg-progress.ensures.local
          ∙ ap₂ with_rule with_html c.flag_arg-progress.ensures.rule)
          ∙ ap₂ with_choices c.of_arg.ensures.rule c.ids_arg.ensures.rule,
      h.globals ∙ ap₂ (λ a b. a || b) html_local c.flag_arg-progress.ensures.local,
    )) c.arg-11.ensures
