-- What do the words of `test` ask for?
use Rattle.std.specs.Prelude.{Bool, List, Option, None, Some, [], ◌∷◌, ℕ, codes, option_map, unwrap_or, false}
use Rattle.std.specs.Borrow.{Bor}
use Rattle.std.specs.List.{list_any}
use Rattle.std.specs.Str.{bytes_eq}
use Rattle.std.specs.Str.Parse.{digits_value, without_leading_plus}
use Rattle.clap.specs.ValueTests.{accepts}
use Rattle.clap.specs.Walk.{texts}
use Rattle.clap.specs.Words.{Row, Text, all_of, first_of}
use Rattle.tcap_record.specs.Ends.{letter}
use Rattle.tcap_command_line.specs.CommandLine.{ids_word, number_parser}
use Rattle.tcap_command_line.specs.declared.requests.Ids.TheVariants.{Again, Settled, Once}
use Rattle.tcap_command_line.specs.declared.requests.Test.{Test}

-- whether a flag is set: its value is the word `true`
abbrev pub is_set : Option Text → Bool
is_set None = false
is_set (Some value) = bytes_eq value (codes "true")

-- the text of a path, if there is a path
abbrev pub path_text : Option (Bor Text) → Option Text
path_text = option_map (λ s. s.now)

-- the word is a value of `--ids`
abbrev pub is_ids_word : Text → Bool
is_ids_word word = list_any (λ ids. bytes_eq (ids_word ids) word) (Again ∷ Settled ∷ Once ∷ [])

-- the word is a number of `u64` in decimal digits, with an optional plus before them
abbrev pub is_number : Text → Bool
is_number = accepts false number_parser

-- the number that the word spells
abbrev pub number_of : Text → ℕ
number_of word = digits_value 10 (without_leading_plus word)

-- the value of `--ids`, or `again` if the option is not given
abbrev pub ids_value : Option Text → Text
ids_value value = unwrap_or value (codes "again")

-- the value of `--linger`, or 10,000 if the option is not given
abbrev pub linger_value : Option Text → ℕ
linger_value None = 10000
linger_value (Some word) = number_of word

-- all values of an argument, in order
abbrev pub values_of : Text → List Row → List Text
values_of id rows = unwrap_or (all_of id rows) []

-- the options of `test`
pub record Tested : Type 0 where
  -- the letter of the end to judge
  pub side : Option Text
  -- the paths of the tables
  pub tables : List Text
  -- the value of `--ids`
  pub ids : Text
  pub complete : Bool
  pub heard : Bool
  pub linger : ℕ
  -- the paths of the files for the verdicts
  pub json : Option Text
  pub junit : Option Text
  pub html : Option Text
  pub progress : Bool
  -- the paths of the traces
  pub traces : List Text

-- the options of `test` that the values of its arguments give
abbrev pub tested : List Row → Tested
tested rows = record {
  side = first_of (codes "of") rows;
  tables = values_of (codes "table") rows;
  ids = ids_value (first_of (codes "ids") rows);
  complete = is_set (first_of (codes "complete") rows);
  heard = is_set (first_of (codes "heard") rows);
  linger = linger_value (first_of (codes "linger") rows);
  json = first_of (codes "json") rows;
  junit = first_of (codes "junit") rows;
  html = first_of (codes "html") rows;
  progress = is_set (first_of (codes "progress") rows);
  traces = values_of (codes "TRACE") rows;
}

-- the options of `test` in a request
abbrev pub requested : Test → Tested
requested t = record {
  side = option_map letter t.of;
  tables = texts t.tables.items;
  ids = ids_word t.ids;
  complete = t.complete;
  heard = t.heard;
  linger = t.linger;
  json = path_text t.json;
  junit = path_text t.junit;
  html = path_text t.html;
  progress = t.progress;
  traces = texts t.traces.items;
}
