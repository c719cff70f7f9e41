use Rattle.std.proofs.Common.{◌≡◌, ◌∙◌, ap, codes, rules}
use Rattle.clap.specs.Walk.{texts}
use Rattle.tcap_command_line.specs.CommandLine.{choice_rule, letters}
use Rattle.tcap_command_line.proofs.command_line.of_arg.Goals as goal

pub returns-clause-rule : goal.returns-clause-rule
returns-clause-rule c =
    let known : texts c.as_slice.result.now ≡ letters = search rules in
    c.choice_arg.ensures.rule ∙ ap (choice_rule (codes "of")) known
