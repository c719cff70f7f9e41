use Rattle.std.proofs.Common.{◌∙◌, ap, codes, Some, Option}
use Rattle.clap.specs.Words.{Rule, new_rule, rule_of}
use Rattle.clap.specs.declared.builder.arg.Arg.{Arg}
use Rattle.clap.specs.declared.builder.action.ArgAction.TheVariants.{Set}
use Rattle.clap.specs.declared.builder.value_parser.ValueParser.{ValueParser}
use Rattle.tcap_command_line.proofs.command_line.linger_arg.Goals as goal

-- the option with this parser
abbrev with_parser : Option ValueParser → Rule
with_parser parser =
    record (new_rule (codes "linger")) { long = Some (codes "linger"); action = Some Set; value_names = 1; parser = parser }

pub returns-clause-rule : goal.returns-clause-rule
returns-clause-rule c =
    let given = c.value_parser-2.ensures.given in
    ap rule_of c.help.ensures
    ∙ ap rule_of c.value_parser-2.ensures.others
    ∙ ap (λ (a : Arg). record (rule_of a) { parser = c.value_parser-2.result.value_parser }) c.value_name.ensures
    ∙ ap (λ (a : Arg). record (rule_of a) {
      value_names = 1;
      parser = c.value_parser-2.result.value_parser;
    }) c.action.ensures
    ∙ ap (λ (a : Arg). record (rule_of a) {
      action = Some Set;
      value_names = 1;
      parser = c.value_parser-2.result.value_parser;
    }) c.long.ensures
    ∙ ap (λ (r : Rule). record r {
      long = Some (codes "linger");
      action = Some Set;
      value_names = 1;
      parser = c.value_parser-2.result.value_parser;
    }) c.new.ensures.rule
    ∙ ap with_parser given.1
    ∙ ap (λ p. with_parser (Some p)) (given.2 ∙ c.value_parser.ensures)

pub returns-clause-local : goal.returns-clause-local
returns-clause-local c =
    ap (λ (a : Arg). a.global) c.help.ensures ∙ ap (λ (a : Arg). a.global) c.value_parser-2.ensures.others
    ∙ ap (λ (a : Arg). a.global) c.value_name.ensures ∙ ap (λ (a : Arg). a.global) c.action.ensures
    ∙ ap (λ (a : Arg). a.global) c.long.ensures ∙ c.new.ensures.optional.1
