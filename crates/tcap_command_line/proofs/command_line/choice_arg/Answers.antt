use Rattle.std.proofs.Common.{◌≡◌, ◌∙◌, ap, refl, Some, List, Option, [], ◌∷◌}
use Rattle.std.specs.Prelude.{map}
use Rattle.std.specs.Borrow.{Bor}
use Rattle.clap.specs.Words.{Rule, Text, new_rule, rule_of}
use Rattle.clap.specs.Walk.{texts}
use Rattle.clap.specs.declared.builder.arg.Arg.{Arg}
use Rattle.clap.specs.declared.builder.action.ArgAction.TheVariants.{Set}
use Rattle.clap.specs.declared.builder.value_parser.ValueParser.{ValueParser}
use Rattle.clap.specs.declared.builder.value_parser.ValueParser.TheVariants as vp
use Rattle.tcap_command_line.specs.CommandLine.{at_first, placeless_parser, placeless_rule}
use Rattle.tcap_command_line.proofs.command_line.choice_arg.Goals as goal

-- the option with this parser
abbrev with_parser : Text → Option ValueParser → Rule
with_parser name parser =
    record (new_rule name) { long = Some name; action = Some Set; value_names = 1; parser = parser }

at_first_all : (names : List (Bor Text)) → map (λ (name : Bor Text). at_first name.now) names ≡ map at_first (texts names)
at_first_all [] = refl
at_first_all (x ∷ xs) = ap (λ zs. at_first x.now ∷ zs) (at_first_all xs)

pub returns-clause-rule : goal.returns-clause-rule
returns-clause-rule c =
    let given = c.value_parser.ensures.given in
    ap (λ (a : Arg). placeless_rule (rule_of a)) c.help.ensures
    ∙ ap (λ (a : Arg). placeless_rule (rule_of a)) c.value_parser.ensures.others
    ∙ ap (λ (a : Arg). placeless_rule (record (rule_of a) { parser = c.value_parser.result.value_parser })) c.value_name.ensures
    ∙ ap (λ (a : Arg). placeless_rule (record (rule_of a) {
      value_names = 1;
      parser = c.value_parser.result.value_parser;
    })) c.action.ensures
    ∙ ap (λ (a : Arg). placeless_rule (record (rule_of a) {
      action = Some Set;
      value_names = 1;
      parser = c.value_parser.result.value_parser;
    })) c.long.ensures
    ∙ ap (λ (r : Rule). placeless_rule (record r {
      long = Some c.args.name.now;
      action = Some Set;
      value_names = 1;
      parser = c.value_parser.result.value_parser;
    })) c.new.ensures.rule
    ∙ ap (λ o. placeless_rule (with_parser c.args.name.now o)) given.1
    ∙ ap (λ p. with_parser c.args.name.now (Some (placeless_parser p))) given.2
    ∙ ap (λ names. with_parser c.args.name.now (Some (vp.Names (at_first names)))) (at_first_all c.args.choices.now)

pub returns-clause-local : goal.returns-clause-local
returns-clause-local c =
    ap (λ (a : Arg). a.global) c.help.ensures ∙ ap (λ (a : Arg). a.global) c.value_parser.ensures.others
    ∙ ap (λ (a : Arg). a.global) c.value_name.ensures ∙ ap (λ (a : Arg). a.global) c.action.ensures
    ∙ ap (λ (a : Arg). a.global) c.long.ensures ∙ c.new.ensures.optional.1
