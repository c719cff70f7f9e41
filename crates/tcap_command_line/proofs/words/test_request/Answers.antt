use Rattle.std.proofs.Common.{◌≡◌, ◌∙◌, List, [], ◌∷◌, Option, Some, None, is_some, true, ap, refl, sym, codes}
use Rattle.std.specs.Prelude.{◌≢◌, find, option_and_then, option_map, slice_get, unwrap_or}
use Rattle.std.specs.Str.{bytes_eq}
use Rattle.clap.proofs.OnLiterals.{clap_on_literals}
use Rattle.clap.specs.Matches.{found_of}
use Rattle.clap.specs.Walk.{Row, Text, first_of, rows_of}
use Rattle.tcap_command_line.specs.CommandLine.{tool}
use Rattle.tcap_command_line.specs.Tests.{Tested, tested, values_of}
use Rattle.tcap_command_line.specs.Words.{is_ids_word, is_letter, is_number}
use Rattle.tcap_command_line.proofs.Needed.{taken_alone}
use Rattle.tcap_command_line.proofs.words.test_request.Goals as goal

pub end_named-requires : goal.end_named-requires
unfolding tool clap_on_literals
end_named-requires c = taken_alone (first_of (codes "of") (rows_of (found_of c.args.found.now))) is_letter (c.requires.taken (codes "of"))

pub ids_given-requires : goal.ids_given-requires
unfolding tool clap_on_literals
ids_given-requires c = taken_alone (first_of (codes "ids") (rows_of (found_of c.args.found.now))) is_ids_word (c.requires.taken (codes "ids"))

pub linger_given-requires : goal.linger_given-requires
unfolding tool clap_on_literals
linger_given-requires c = taken_alone (first_of (codes "linger") (rows_of (found_of c.args.found.now))) is_number (c.requires.taken (codes "linger"))

-- an argument with a first value has values
some_values : (id : Text) (rows : List Row) → is_some (first_of id rows) ≡ true → values_of id rows ≢ []
some_values id rows there none = go (find (λ (r : Row). bytes_eq r.id id) rows) there none
  where
    at : (vs : List Text) → is_some (slice_get vs 0) ≡ true → vs ≡ [] → ⊥
    at [] there none = cc
    at (v ∷ vs) there none = cc

    go : (o : Option Row) → is_some (option_and_then (λ (r : Row). slice_get r.values 0) o) ≡ true
        → unwrap_or (option_map (λ (r : Row). r.values) o) [] ≡ [] → ⊥
    go None there none = cc
    go (Some r) there none = at r.values there none

-- the options of `test` are equal if each part is
same : (a b : Tested) → a.side ≡ b.side → a.tables ≡ b.tables → a.ids ≡ b.ids → a.complete ≡ b.complete → a.heard ≡ b.heard → a.linger ≡ b.linger
    → a.json ≡ b.json → a.junit ≡ b.junit → a.html ≡ b.html → a.progress ≡ b.progress → a.traces ≡ b.traces → a ≡ b
same a b is_side is_tables is_ids is_complete is_heard is_linger is_json is_junit is_html is_progress is_traces =
    ap (λ x. record a { side = x }) is_side
    ∙ ap (λ x. record a { side = b.side; tables = x }) is_tables
    ∙ ap (λ x. record a { side = b.side; tables = b.tables; ids = x }) is_ids
    ∙ ap (λ x. record a { side = b.side; tables = b.tables; ids = b.ids; complete = x }) is_complete
    ∙ ap (λ x. record a { side = b.side; tables = b.tables; ids = b.ids; complete = b.complete; heard = x }) is_heard
    ∙ ap (λ x. record a { side = b.side; tables = b.tables; ids = b.ids; complete = b.complete; heard = b.heard; linger = x }) is_linger
    ∙ ap (λ x. record a { side = b.side; tables = b.tables; ids = b.ids; complete = b.complete; heard = b.heard; linger = b.linger; json = x }) is_json
    ∙ ap (λ x. record a { side = b.side; tables = b.tables; ids = b.ids; complete = b.complete; heard = b.heard; linger = b.linger; json = b.json; junit = x }) is_junit
    ∙ ap (λ x. record a { side = b.side; tables = b.tables; ids = b.ids; complete = b.complete; heard = b.heard; linger = b.linger; json = b.json; junit = b.junit; html = x }) is_html
    ∙ ap (λ x. record a { side = b.side; tables = b.tables; ids = b.ids; complete = b.complete; heard = b.heard; linger = b.linger; json = b.json; junit = b.junit; html = b.html; progress = x }) is_progress
    ∙ ap (λ x. record a { side = b.side; tables = b.tables; ids = b.ids; complete = b.complete; heard = b.heard; linger = b.linger; json = b.json; junit = b.junit; html = b.html; progress = b.progress; traces = x }) is_traces

abbrev asks : Tested → Option (Text × Tested)
asks x = Some (codes "test", x)

pub returns : goal.returns
unfolding tool clap_on_literals
returns c = (
  ap asks (sym (same _ (tested (rows_of (found_of c.args.found.now))) c.end_named.ensures c.in_ok-tables.ensures
      c.ids_given.ensures c.is_set.ensures c.is_set-2.ensures c.linger_given.ensures c.value_of.ensures c.value_of-2.ensures
      c.value_of-3.ensures c.is_set-3.ensures c.in_ok-traces.ensures)),
  λ none. some_values (codes "TRACE") (rows_of (found_of c.args.found.now)) (c.requires.needed (codes "TRACE") refl)
      (sym c.in_ok-traces.ensures ∙ none),
)
