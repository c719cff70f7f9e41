-- What do the arguments of a subcommand have if the command line finds no fault in the words?
use Rattle.std.specs.Prelude.{◌≡◌, ◌&&◌, Bool, true, List, [], ◌∷◌, IfSome, IsSomeAnd, codes, find, is_some}
use Rattle.std.specs.List.{list_any}
use Rattle.std.specs.Str.{bytes_eq}
use Rattle.clap.specs.Simple.{built, label_of}
use Rattle.clap.specs.Takes.{value_passes}
use Rattle.clap.specs.Walk.{Row, Rule, Text, answers_to, first_of}
use Rattle.tcap_command_line.specs.CommandLine.{tool}

-- the name of a subcommand
abbrev pub is_known : Text → Bool
is_known name = list_any (λ known. bytes_eq known name) (codes "show" ∷ codes "pack" ∷ codes "check" ∷ codes "judge"
    ∷ codes "explain" ∷ codes "blame" ∷ codes "table" ∷ codes "test" ∷ [])

-- an argument with this ID passes the test
abbrev pub has_argument : (Rule → Bool) → Text → List Rule → Bool
has_argument test id = list_any (λ a. bytes_eq a.id id && test a)

-- each required argument has a value, and each first value is one that an argument with its ID accepts
pub record IsSound (rules : List Rule) (rows : List Row) : Type 0 where
  pub needed : (id : Text) → has_argument (λ a. a.required) id rules ≡ true → is_some (first_of id rows) ≡ true
  pub taken : (id : Text) → IfSome (first_of id rows) (λ word. has_argument (λ a. value_passes a word) id rules ≡ true)

-- the rows are sound for the subcommand of this name
abbrev pub HasNeeded : Text → List Row → Type 0
HasNeeded name rows =
    IsSomeAnd (find (λ s. answers_to name (label_of s)) (built tool).subs) (λ s. IsSound s.rules rows)
