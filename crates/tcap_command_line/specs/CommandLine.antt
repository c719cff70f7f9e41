-- What is the command line of `tcapjudge`, as clap parses it?
use Rattle.std.specs.Prelude.{[], ◌∷◌, List, Some, codes, map, option_map, true}
use Rattle.std.specs.Borrow.{Bor}
use Rattle.clap.specs.Words.{App, Rule, Shape, Text, new_app, new_rule, with_subcommand}
use Rattle.clap.specs.Simple.{new_shape, on_top}
use Rattle.clap.specs.declared.builder.action.ArgAction.TheVariants.{Append, Set, SetTrue}
use Rattle.clap.specs.declared.builder.value_parser.ValueParser.{ValueParser}
use Rattle.clap.specs.declared.builder.value_parser.ValueParser.TheVariants as vp
use Rattle.tcap_record.specs.declared.entry.End.TheVariants as sides
use Rattle.tcap_record.specs.Ends.{letter}
use Rattle.tcap_command_line.specs.declared.requests.Ids.{Ids}
use Rattle.tcap_command_line.specs.declared.requests.Ids.TheVariants.{Again, Settled, Once}

-- a reference to this value, at address 0
abbrev pub at_first : {X : Type 0} → X → Bor X
at_first x = record { ref_ptr = (0, 0); now = x }

-- the program without its subcommands: it has a version, and one subcommand is required
abbrev pub bare_tool : App
bare_tool = on_top (λ s. record s { has_version = true; subcommand_required = true }) (new_app (codes "tcapjudge"))

-- an optional positional argument
abbrev pub left_out_rule : Text → Rule
left_out_rule id = record (new_rule id) { action = Some Set }

-- a subcommand with one optional positional argument
abbrev pub with_path : Text → Text → Shape
with_path name id = record (new_shape name) { rules = left_out_rule id ∷ [] }

-- a required positional argument
abbrev pub needed_rule : Text → Rule
needed_rule id = record (new_rule id) { action = Some Set; required = true }

-- a flag with this name
abbrev pub flag_rule : Text → Rule
flag_rule name = record (new_rule name) { long = Some name; action = Some SetTrue }

-- the parser that accepts exactly these choices
abbrev pub choice_parser : List Text → ValueParser
choice_parser choices = vp.Names (at_first (map at_first choices))

-- an option with this name, whose value is one of the choices
abbrev pub choice_rule : Text → List Text → Rule
choice_rule name choices = record (new_rule name) {
  long = Some name;
  action = Some Set;
  value_names = 1;
  parser = Some (choice_parser choices);
}

-- the letters of the ends
abbrev pub letters : List Text
letters = letter sides.A ∷ letter sides.B ∷ []

-- an option with this name, whose value is the letter of an end
abbrev pub end_rule : Text → Rule
end_rule name = choice_rule name letters

-- an option with this name, whose value is the path of a file
abbrev pub file_rule : Text → Rule
file_rule name = record (new_rule name) { long = Some name; action = Some Set; value_names = 1 }

-- the option `-o`, also `--output`, whose value is the path of the file for a record
abbrev pub output_rule : Rule
output_rule = record (file_rule (codes "output")) { short = Some 111 }

-- `pack`: one optional path, and the file for the record
abbrev pub pack_shape : Shape
pack_shape = record (new_shape (codes "pack")) { rules = left_out_rule (codes "LINES") ∷ output_rule ∷ [] }

-- `check`: three required paths, and an end
abbrev pub check_shape : Shape
check_shape = record (new_shape (codes "check")) {
  rules = needed_rule (codes "RECORD") ∷ needed_rule (codes "TABLE") ∷ needed_rule (codes "CERT")
      ∷ end_rule (codes "end") ∷ [];
}

-- `judge`: two required paths, a flag and an end
abbrev pub judge_shape : Shape
judge_shape = record (new_shape (codes "judge")) {
  rules = needed_rule (codes "RECORD") ∷ needed_rule (codes "TABLE") ∷ flag_rule (codes "cert") ∷ end_rule (codes "end")
      ∷ [];
}

-- `explain`: two required paths, an optional path, an end and the file for a chart
abbrev pub explain_shape : Shape
explain_shape = record (new_shape (codes "explain")) {
  rules = needed_rule (codes "RECORD") ∷ needed_rule (codes "TABLE") ∷ left_out_rule (codes "CERT")
      ∷ end_rule (codes "end") ∷ file_rule (codes "chart") ∷ [];
}

-- `blame`: two required paths
abbrev pub blame_shape : Shape
blame_shape = record (new_shape (codes "blame")) {
  rules = needed_rule (codes "RECORD") ∷ needed_rule (codes "TABLE") ∷ [];
}

-- `show`: one optional path and two flags
abbrev pub show_shape : Shape
show_shape = record (new_shape (codes "show")) {
  rules = left_out_rule (codes "RECORD") ∷ flag_rule (codes "why") ∷ flag_rule (codes "lines") ∷ [];
}

-- the value of `--ids` for each rule for reused IDs
abbrev pub ids_word : Ids → Text
ids_word Again = codes "again"
ids_word Settled = codes "settled"
ids_word Once = codes "once"

-- the option `--ids`, whose value is one of these words
abbrev pub ids_rule : Rule
ids_rule = choice_rule (codes "ids") (map ids_word (Again ∷ Settled ∷ Once ∷ []))

-- the option `--table`, which may be given several times, each time with the path of a file
abbrev pub tables_rule : Rule
tables_rule =
    record (new_rule (codes "table")) { long = Some (codes "table"); action = Some Append; value_names = 1 }

-- the parser for the numbers of `u64`
abbrev pub number_parser : ValueParser
number_parser = vp.Unsigned 0 18446744073709551615

-- the option `--linger`, whose value is a number of `u64`
abbrev pub linger_rule : Rule
linger_rule = record (new_rule (codes "linger")) {
  long = Some (codes "linger");
  action = Some Set;
  value_names = 1;
  parser = Some number_parser;
}

-- the required positional argument that takes one or more paths of traces
abbrev pub traces_rule : Rule
traces_rule = record (new_rule (codes "TRACE")) { action = Some Append; required = true }

-- `test`: traces, an end, tables, a rule for reused IDs, a number, three files and three flags
abbrev pub test_shape : Shape
test_shape = record (new_shape (codes "test")) {
  rules = traces_rule ∷ end_rule (codes "of") ∷ tables_rule ∷ ids_rule ∷ flag_rule (codes "complete")
      ∷ flag_rule (codes "heard") ∷ linger_rule
      ∷ file_rule (codes "json") ∷ file_rule (codes "junit") ∷ file_rule (codes "html") ∷ flag_rule (codes "progress")
      ∷ [];
}

-- the program with its eight subcommands
unfoldable pub tool : App
tool = with_subcommand (with_subcommand (with_subcommand (with_subcommand (with_subcommand (with_subcommand
    (with_subcommand (with_subcommand bare_tool show_shape) pack_shape)
    check_shape)
    judge_shape)
    explain_shape)
    blame_shape)
    (with_path (codes "table") (codes "TABLE")))
    test_shape

-- ---- the command line, no matter at which addresses the choices of its options are

abbrev pub placeless_parser : ValueParser → ValueParser
placeless_parser (vp.Names names) = vp.Names (at_first (map (λ name. at_first name.now) names.now))
placeless_parser parser = parser

abbrev pub placeless_rule : Rule → Rule
placeless_rule a = record a { parser = option_map placeless_parser a.parser }

abbrev pub placeless_shape : Shape → Shape
placeless_shape s = record s { rules = map placeless_rule s.rules }

-- the command line with each value of its options at address 0
abbrev pub placeless : App → App
placeless a = record { top = placeless_shape a.top; subs = map placeless_shape a.subs }
