use Rattle.std.proofs.Common.{◌≡◌, ◌∙◌, ◌++◌, Global, List, [], Option, Some, None, Vec, ap, sym, refl}
use Rattle.std.specs.Prelude.{map, option_map, unwrap_or}
use Rattle.std.specs.Borrow.{Bor}
use Rattle.std.specs.Option.{option_map_or}
use Rattle.clap.proofs.WalkLemmas.{raw_values-rows}
use Rattle.clap.specs.Matches.{found_of, matched_of, raw_values}
use Rattle.clap.specs.Walk.{Text, rows_of, texts}
use Rattle.clap.specs.declared.parser.matches.Found.{Found}
use Rattle.tcap_command_line.specs.Tests.{values_of}
use Rattle.tcap_command_line.proofs.words.all_values.Goals as goal
use Rattle.tcap_command_line.proofs.words.all_values.Goals.{in-Some+in_ok-extend_from_slice, in_default}

-- the values that the matches give are those of the rows
given : (f : Found) (id : Text) (o : Option (Bor (List (Bor Text))))
    → option_map (λ s. map (λ v. v.now) s.now) o ≡ option_map raw_values (matched_of f id)
    → option_map_or (λ s. texts s.now) o [] ≡ values_of id (rows_of f)
given f id o is = here o ∙ ap (λ (x : Option (List Text)). unwrap_or x []) (is ∙ raw_values-rows f id)
  where
    here : (o : Option (Bor (List (Bor Text))))
        → option_map_or (λ s. texts s.now) o [] ≡ unwrap_or (option_map (λ s. map (λ v. v.now) s.now) o) []
    here None = refl
    here (Some s) = refl

pub returns : goal.returns
returns c =
    let here = given (found_of c.args.found.now) c.args.id.now c.get_strs.result c.get_strs.ensures in
    elim c.match-get_strs.branch [
      | in-Some+in_ok-extend_from_slice w ↦
          ap (λ (v : Vec (Bor Text) Global). texts v.items) w.values-is
          ∙ ap texts w.in_ok-extend_from_slice.ensures.items
          ∙ ap (λ (xs : List (Bor Text)). texts (xs ++ w.in-Some.given.now)) c.new-values.ensures.items
          ∙ ap (λ (o : Option (Bor (List (Bor Text)))). option_map_or (λ s. texts s.now) o []) (sym w.in-Some.is)
          ∙ here
      | in_default w ↦
          ap (λ (v : Vec (Bor Text) Global). texts v.items) w.values-is
          ∙ ap texts c.new-values.ensures.items
          ∙ ap (λ (o : Option (Bor (List (Bor Text)))). option_map_or (λ s. texts s.now) o []) (sym w.in_default.is)
          ∙ here
    ]
