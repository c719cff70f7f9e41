use Rattle.std.proofs.Common.{◌≡◌, ◌∙◌, ap, ap₂, true, codes}
use Rattle.std.proofs.lemmas.Result.{IfOk-weaker}
use Rattle.clap.specs.Words.{App, Shape, app_of, shape_of, with_subcommand}
use Rattle.clap.specs.Simple.{app_of_fields}
use Rattle.tcap_command_line.specs.CommandLine.{bare_tool, blame_shape, check_shape, explain_shape, judge_shape, pack_shape, placeless, placeless_shape, show_shape, tool, with_path}
use Rattle.tcap_command_line.proofs.command_line.command.Goals as goal

-- the tool with these four subcommands
abbrev with_four : Shape → Shape → Shape → Shape → App
with_four check judge explain test = with_subcommand (with_subcommand (with_subcommand (with_subcommand (with_subcommand
    (with_subcommand (with_subcommand (with_subcommand bare_tool show_shape) pack_shape)
    check)
    judge)
    explain)
    blame_shape)
    (with_path (codes "table") (codes "TABLE")))
    test

pub returns : goal.returns
unfolding tool
returns c =
    let bare_is : app_of c.after_help.result ≡ bare_tool =
    ap app_of_fields c.after_help.ensures
    ∙ ap app_of_fields c.subcommand_required.ensures
    ∙ ap (λ (a : App). record a { top = record a.top { subcommand_required = true } }) (ap app_of_fields c.version.ensures)
    ∙ ap (λ (a : App). record a { top = record a.top { has_version = true; subcommand_required = true } })
    (ap app_of_fields c.about.ensures ∙ c.new.ensures.app) in
    let show_is = c.in_ok-show.ensures in
    let pack_is = c.in_ok-pack.ensures in
    let check_is = c.in_ok-check.ensures in
    let judge_is = c.in_ok-judge.ensures in
    let explain_is = c.in_ok-explain.ensures in
    let blame_is = c.in_ok-blame.ensures in
    let table_is = c.in_ok-table.ensures in
    let test_is = c.in_ok-test.ensures in
    let with_show = c.in_ok-subcommand.ensures.shape show_is.1 ∙ ap₂ with_subcommand bare_is show_is.0 in
    let with_pack = c.in_ok-subcommand-2.ensures.shape pack_is.1 ∙ ap₂ with_subcommand with_show pack_is.0 in
    let with_check = c.in_ok-subcommand-3.ensures.shape check_is.1 ∙ ap (λ a. with_subcommand a (shape_of c.in_ok-check.check)) with_pack in
    let with_judge = c.in_ok-subcommand-4.ensures.shape judge_is.1 ∙ ap (λ a. with_subcommand a (shape_of c.in_ok-judge.judge)) with_check in
    let with_explain = c.in_ok-subcommand-5.ensures.shape explain_is.1 ∙ ap (λ a. with_subcommand a (shape_of c.in_ok-explain.explain)) with_judge in
    let with_blame = c.in_ok-subcommand-6.ensures.shape blame_is.1 ∙ ap₂ with_subcommand with_explain blame_is.0 in
    let with_table = c.in_ok-subcommand-7.ensures.shape table_is.1 ∙ ap₂ with_subcommand with_blame table_is.0 in
    IfOk-weaker c.subcommand-8.result _ _
    (λ r h. ap placeless (h.shape test_is.1 ∙ ap (λ a. with_subcommand a (shape_of c.in_ok-test.test)) with_table)
    ∙ ap (λ s. with_four s (placeless_shape (shape_of c.in_ok-judge.judge)) (placeless_shape (shape_of c.in_ok-explain.explain))
    (placeless_shape (shape_of c.in_ok-test.test))) check_is.0
    ∙ ap₂ (λ s t. with_four check_shape s t (placeless_shape (shape_of c.in_ok-test.test))) judge_is.0 explain_is.0
    ∙ ap (with_four check_shape judge_shape explain_shape) test_is.0) c.subcommand-8.ensures
