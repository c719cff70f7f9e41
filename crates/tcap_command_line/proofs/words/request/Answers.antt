use Rattle.std.proofs.Common.{◌≡◌, ◌∙◌, [], ap, subst, sym, List, Option, Some, None, is_some, true}
use Rattle.std.specs.Prelude.{option_map}
use Rattle.std.proofs.lemmas.Result.{err_from_is_err_and}
use Rattle.clap.specs.Words.{App, app_of, fault_of, is_simple, is_simple_and_free, takes}
use Rattle.clap.specs.Kinds.{HasKind}
use Rattle.clap.specs.Walk.{Row, Text, rows_of, texts}
use Rattle.clap.specs.Matches.{found_of, subcommand_name_of}
use Rattle.clap.specs.Simple.{HasMatchesOf, subcommand_of, subcommand_rows_of}
use Rattle.clap.specs.declared.builder.command.Command.{Command}
use Rattle.clap.specs.declared.parser.matches.ArgMatches.{ArgMatches}
use Rattle.clap.specs.declared.parser.matches.ArgMatches.TheViews.{out-ArgMatches}
use Rattle.clap.specs.declared.parser.matches.Found.{Found}
use Rattle.tcap_command_line.specs.CommandLine.{placeless, tool}
use Rattle.tcap_command_line.specs.Words.{IsRequestBy, IsRequest}
use Rattle.tcap_command_line.specs.declared.requests.Request.{Request}
use Rattle.tcap_command_line.proofs.Needed.{has_needed, has_subcommand}
use Rattle.tcap_command_line.proofs.PlacelessCommands.{fault_of_same, simple_and_free_same, simple_same, subcommand_same, takes_same}
use Rattle.tcap_command_line.proofs.Tool.{as_fault, became_memory, tool_simple, tool_is_simple}
use Rattle.tcap_command_line.proofs.words.request.Goals as goal

pub returns-in_err-matches-clause-taken : goal.returns-in_err-matches-clause-taken
returns-in_err-matches-clause-taken c taken =
    let p = err_from_is_err_and c.from_residual-in_err-matches.result c.from_residual-in_err-matches.ensures.1 in
    rw p.1 (became_memory c.in_err-matches.field-0.0 p.0
    (c.in_err-matches.ensures.passes (sym (takes_same (app_of c.in_ok-command.command) (texts c.args.words.now))
    ∙ ap (λ (a : App). takes a (texts c.args.words.now)) c.in_ok-command.ensures ∙ taken)) p.2)

pub returns-in_err-matches-clause-faults : goal.returns-in_err-matches-clause-faults
returns-in_err-matches-clause-faults c =
    let p = err_from_is_err_and c.from_residual-in_err-matches.result c.from_residual-in_err-matches.ensures.1 in
    let e = c.in_err-matches.field-0.0 in
    let app = app_of c.in_ok-command.command in
    let has = c.in_err-matches.ensures.kinds
    (sym (simple_and_free_same app) ∙ ap is_simple_and_free c.in_ok-command.ensures ∙ tool_simple) in
    rw p.1 (as_fault (fault_of tool (texts c.args.words.now)) e p.0
    (subst (λ (a : App). HasKind (fault_of a (texts c.args.words.now)) e) c.in_ok-command.ensures
    (subst (λ ks. HasKind ks e) (sym (fault_of_same app (texts c.args.words.now))) has)) p.2)

-- parts of an option, as clap shows a subcommand: its name, and its rows
no_name : {B X Y : Type 0} (f : B → X) (g : B → Y) (o : Option B) → None ≡ option_map f o
    → is_some {T = X × Y} (option_map {U = X × Y} (λ b. (f b, g b)) o) ≡ true → ⊥
no_name f g None none is = cc
no_name f g (Some b) none is = cc

both_parts : {B X Y : Type 0} (f : B → X) (g : B → Y) (o : Option B) (x : X) (y : Y) → Some x ≡ option_map f o
    → Some y ≡ option_map (λ (p : X × Y). p.1) (option_map {U = X × Y} (λ b. (f b, g b)) o)
    → option_map {U = X × Y} (λ b. (f b, g b)) o ≡ Some (x, y)
both_parts f g None x y is_x is_y = cc
both_parts f g (Some b) x y is_x is_y = cc

module _ (command : Command) (words : List Text) (is : placeless (app_of command) ≡ tool) where
  -- if the command finds no fault in the words, the tool finds none
  clear : (is_simple_and_free (app_of command) ≡ true → fault_of (app_of command) words ≡ []) → fault_of tool words ≡ []
  clear none =
      ap (λ (a : App). fault_of a words) (sym is) ∙ fault_of_same (app_of command) words
      ∙ none (sym (simple_and_free_same (app_of command)) ∙ ap is_simple_and_free is ∙ tool_simple)

  rows : (m : ArgMatches) → HasMatchesOf (app_of command) words m → subcommand_rows_of m ≡ subcommand_of tool words
  rows m has =
      (has (sym (simple_same (app_of command)) ∙ ap is_simple is ∙ tool_is_simple)).1
      ∙ sym (subcommand_same (app_of command) words) ∙ ap (λ (a : App). subcommand_of a words) is

  -- the words name the subcommand of the matches
  entered : (m : ArgMatches) (name : Text) (f : Found) → HasMatchesOf (app_of command) words m
      → Some name ≡ subcommand_name_of m → Some (rows_of f) ≡ option_map (λ p. p.1) (subcommand_rows_of m)
      → subcommand_of tool words ≡ Some (name, rows_of f)
  entered m name f has is_name is_rows =
      sym (rows m has) ∙ both_parts _ _ (out-ArgMatches m).subcommand name (rows_of f) is_name is_rows

-- the words ask for what their subcommand asks for
asked : (words : List Text) (r : Request) (found : Text × List Row) → subcommand_of tool words ≡ Some found
    → IsRequestBy (Some found) r → IsRequest words r
asked words r found is by = subst (λ o. IsRequestBy o r) (sym is) by

pub unreachable-requires : goal.unreachable-requires
unreachable-requires c =
    let words = texts c.args.words.now in
    let m = c.in_ok-matches.matches in
    let met = c.in_ok-matches.ensures in
    no_name _ _ (out-ArgMatches m).subcommand c.in_default.ensures.name
    (ap is_some (rows c.in_ok-command.command words c.in_ok-command.ensures m met.matches)
    ∙ has_subcommand words (clear c.in_ok-command.command words c.in_ok-command.ensures met.kinds))

pub request_of-requires : goal.request_of-requires
request_of-requires c =
    let words = texts c.args.words.now in
    let met = c.in_ok-matches.ensures in
    let has = has_needed words _ _ (clear c.in_ok-command.command words c.in_ok-command.ensures met.kinds)
    (entered c.in_ok-command.command words c.in_ok-command.ensures c.in_ok-matches.matches c.in-Some.name.now
    (found_of c.in-Some.found.now) met.matches c.in-Some.ensures.name c.in-Some.ensures.rows) in
    record { known = has.0; values = has.1 }

pub returns-clause-asks : goal.returns-clause-asks
returns-clause-asks c =
    let words = texts c.args.words.now in
    asked words _ _
    (entered c.in_ok-command.command words c.in_ok-command.ensures c.in_ok-matches.matches c.in-Some.name.now
    (found_of c.in-Some.found.now) c.in_ok-matches.ensures.matches c.in-Some.ensures.name c.in-Some.ensures.rows)
    c.in_ok-request_of.ensures

pub returns-clause-faults : goal.returns-clause-faults
returns-clause-faults c =
    clear c.in_ok-command.command (texts c.args.words.now) c.in_ok-command.ensures c.in_ok-matches.ensures.kinds
