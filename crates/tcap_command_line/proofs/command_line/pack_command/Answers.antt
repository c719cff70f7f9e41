use Rattle.std.proofs.Common.{◌≡◌, ◌∙◌, ◌||◌, ap, ap₂, codes}
use Rattle.std.proofs.lemmas.Result.{IfOk-weaker}
use Rattle.clap.specs.Words.{App, app_of, with_rule}
use Rattle.clap.specs.Simple.{app_of_fields, new_app}
use Rattle.clap.specs.declared.builder.command.Command.{Command}
use Rattle.clap.specs.declared.builder.command.Command.TheOpen.{Command-F}
use Rattle.tcap_command_line.proofs.command_line.pack_command.Goals as goal

pub returns : goal.returns
returns c =
    let about_is : app_of c.after_help.result ≡ new_app (codes "pack") =
    ap app_of_fields c.after_help.ensures ∙ ap app_of_fields c.about.ensures ∙ c.new.ensures.app in
    let about_local =
    ap (λ (f : Command-F Command). f.has_globals) c.after_help.ensures
    ∙ ap (λ (f : Command-F Command). f.has_globals) c.about.ensures ∙ c.new.ensures.local in
    let with_lines = c.in_ok-arg.ensures.shape c.left_out_arg-lines.ensures.local
    ∙ ap₂ with_rule about_is c.left_out_arg-lines.ensures.rule in
    let lines_local = c.in_ok-arg.ensures.globals ∙ ap₂ (λ a b. a || b) about_local c.left_out_arg-lines.ensures.local in
    IfOk-weaker c.arg-2.result _ _ (λ r h. (
      ap (λ (a : App). a.top) (h.shape c.output_arg.ensures.local ∙ ap₂ with_rule with_lines c.output_arg.ensures.rule),
      h.globals ∙ ap₂ (λ a b. a || b) lines_local c.output_arg.ensures.local,
    )) c.arg-2.ensures
