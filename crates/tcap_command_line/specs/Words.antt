-- What do the words of the command line of `tcapjudge` ask for?
use Rattle.std.specs.Prelude.{◌≡◌, ◌≢◌, Bool, true, false, List, [], ◌∷◌, ℕ, Option, Some, None, codes, option_and_then, option_map, if◌then◌else◌}
use Rattle.std.specs.List.{list_any}
use Rattle.std.specs.Str.{bytes_eq}
use Rattle.clap.specs.Words.{Kinds, IsAmong, Row, Text, first_of, kind_of, subcommand_of}
use Rattle.clap.specs.declared.error.kind.ErrorKind.{ErrorKind}
use Rattle.clap.specs.declared.error.kind.ErrorKind.TheVariants as kind
use Rattle.clap.specs.declared.error.Error.{Error}
use Rattle.tcap_record.specs.declared.entry.End.{End as Side}
use Rattle.tcap_record.specs.declared.entry.End.TheVariants as sides
use Rattle.tcap_record.specs.Ends.{letter}
use Rattle.tcap_command_line.specs.CommandLine.{tool}
pub use Rattle.tcap_command_line.specs.Tests.{Tested, is_ids_word, is_number, is_set, number_of, path_text, requested, tested}
use Rattle.tcap_command_line.specs.declared.requests.Request.{Request}
use Rattle.tcap_command_line.specs.declared.requests.Request.TheVariants.{Show, Pack, Check, Judge, Explain, Blame, Table, Test}
use Rattle.tcap_command_line.specs.declared.words.WordsFault.{WordsFault}
use Rattle.tcap_command_line.specs.declared.words.WordsFault.TheVariants.{Words, Memory}

-- the subcommand, with what `read` gives of its rows
abbrev pub named_by : {X : Type 0} → (List Row → X) → Option (Text × List Row) → Option (Text × X)
named_by read = option_map (λ p. (p.0, read p.1))

-- the first values of the arguments of `pack`
abbrev pub packed_paths : List Row → Option Text × Option Text
packed_paths rows = (first_of (codes "LINES") rows, first_of (codes "output") rows)

-- the first values of the arguments of `check`
abbrev pub checked_paths : List Row → Option Text × Option Text × Option Text
checked_paths rows = (first_of (codes "RECORD") rows, first_of (codes "TABLE") rows, first_of (codes "CERT") rows)

-- the first values of the arguments of `judge`, and whether its flag is set
abbrev pub judged_paths : List Row → Option Text × Option Text × Bool
judged_paths rows =
    (first_of (codes "RECORD") rows, first_of (codes "TABLE") rows, is_set (first_of (codes "cert") rows))

-- the first values of the arguments of `explain`, except `--end`
abbrev pub explained_paths : List Row → Option Text × Option Text × Option Text × Option Text
explained_paths rows = (
  first_of (codes "RECORD") rows,
  first_of (codes "TABLE") rows,
  first_of (codes "CERT") rows,
  first_of (codes "chart") rows,
)

-- the first values of the arguments of `blame`
abbrev pub blamed_paths : List Row → Option Text × Option Text
blamed_paths rows = (first_of (codes "RECORD") rows, first_of (codes "TABLE") rows)

-- the value of the option `--end` of the subcommand
abbrev pub end_value : Option (Text × List Row) → Option Text
end_value = option_and_then (λ p. first_of (codes "end") p.1)

-- the first value of the argument of `show`, and whether each of its flags is set
abbrev pub shown_path : List Row → Option Text × Bool × Bool
shown_path rows =
    (first_of (codes "RECORD") rows, is_set (first_of (codes "why") rows), is_set (first_of (codes "lines") rows))

-- the subcommand with these rows asks for this request
abbrev pub IsRequestBy : Option (Text × List Row) → Request → Type 0
IsRequestBy named (Show path with_reasons of_lines) =
    named_by shown_path named ≡ Some (codes "show", (path_text path, with_reasons, of_lines))
IsRequestBy named (Pack path output) =
    named_by packed_paths named ≡ Some (codes "pack", (path_text path, path_text output))
IsRequestBy named (Check taken table cert side) =
    (named_by checked_paths named ≡ Some (codes "check", (Some taken.now, Some table.now, Some cert.now)))
    × (end_value named ≡ option_map letter side)
IsRequestBy named (Judge taken table with_certificate side) =
    (named_by judged_paths named ≡ Some (codes "judge", (Some taken.now, Some table.now, with_certificate)))
    × (end_value named ≡ option_map letter side)
IsRequestBy named (Explain taken table cert side chart) =
    (named_by explained_paths named
    ≡ Some (codes "explain", (Some taken.now, Some table.now, path_text cert, path_text chart)))
    × (end_value named ≡ option_map letter side)
IsRequestBy named (Blame taken table) =
    named_by blamed_paths named ≡ Some (codes "blame", (Some taken.now, Some table.now))
IsRequestBy named (Table table) = named_by (first_of (codes "TABLE")) named ≡ Some (codes "table", path_text table)
IsRequestBy named (Test test) =
    (named_by tested named ≡ Some (codes "test", requested test)) × ((requested test).traces ≢ [])

-- the words ask for this request, by the subcommand that they name
abbrev pub IsRequest : List Text → Request → Type 0
IsRequest words = IsRequestBy (subcommand_of tool words)

-- the word is the letter of an end
abbrev pub is_letter : Text → Bool
is_letter word = list_any (λ side. bytes_eq (letter side) word) (sides.A ∷ sides.B ∷ [])

-- memory ran out
abbrev pub IsMemory : WordsFault → Type 0
IsMemory Memory = Unit {0}
IsMemory (Words e) = ⊥

-- memory ran out, or the words are wrong in one of these ways
abbrev pub IsFaultOf : Kinds → WordsFault → Type 0
IsFaultOf kinds Memory = Unit {0}
IsFaultOf kinds (Words e) = IsAmong (kind_of e) kinds

abbrev pub is_printed_kind : ErrorKind → Bool
is_printed_kind kind.DisplayHelp = true
is_printed_kind kind.DisplayVersion = true
is_printed_kind _ = false

-- the words ask for help or the version
abbrev pub is_printed : WordsFault → Bool
is_printed Memory = false
is_printed (Words e) = is_printed_kind (kind_of e)

-- the exit status: 0 for help and the version, 4 for wrong words, 3 if memory ran out
abbrev pub words_status : WordsFault → ℕ
words_status Memory = 3
words_status (Words e) = if is_printed_kind (kind_of e) then 0 else 4

-- an error of clap becomes this fault: `Memory` if clap ran out of memory, else the error itself
abbrev pub Becomes : Error → WordsFault → Type 0
Becomes e Memory = kind_of e ≡ kind.OutOfMemory
Becomes e (Words x) = (x ≡ e) × (kind_of e ≢ kind.OutOfMemory)
