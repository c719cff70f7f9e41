-- The addresses of an option's choices do not matter to the walk over words.
use Rattle.std.proofs.Common.{◌≡◌, ◌∙◌, ◌&&◌, ◌||◌, ℕ, zero, suc, Bool, true, false, List, [], ◌∷◌, Option, Some, None, ap, ap₂, refl}
use Rattle.std.specs.Prelude.{drop, encode_utf8, find, fold, if◌then◌else◌, length, map, option_map, slice_get}
use Rattle.std.specs.Str.{bytes_eq, chars}
use Rattle.clap.specs.Facts.{parser_of_value}
use Rattle.clap.specs.Lexer.{long_of, short_of}
use Rattle.clap.specs.Values.{reading_of}
use Rattle.clap.specs.Walk.{Held, Names, Outcome, Row, Rule, Step, Text, Waiting, Walk, action_of, done, waits, plain, refused, idle, option, positional, next, trailing, subcommand, value, after_flag, after_step, arg_by_id, arg_by_index, arg_by_long, arg_by_short, attached_value, bundle, bundle_met, bundle_step, default_rows, finished, flag_met, has_row, is_multiple, is_pending, long_met, long_or_other, next_position, nothing_held, option_met, option_word, plain_word, pushed, reacted, rows_after, settled, settled_rows, short_met, short_or_plain, subcommand_met, subcommand_or_other, takes_several, takes_values, to_positional, used, used_as, used_by_id, walk, walk_from, walked, walked_from, with_default, word_met}
use Rattle.clap.specs.declared.builder.value_parser.ValueParser.{ValueParser}
use Rattle.clap.specs.declared.builder.value_parser.ValueParser.TheVariants as vp
use Rattle.tcap_command_line.specs.CommandLine.{placeless_parser, placeless_rule}

parser_read : (p : ValueParser) → reading_of (placeless_parser p) ≡ reading_of p
parser_read vp.String = refl
parser_read vp.NonEmptyString = refl
parser_read vp.Bool = refl
parser_read vp.Boolish = refl
parser_read vp.Falsey = refl
parser_read (vp.Signed low high) = refl
parser_read (vp.Unsigned low high) = refl
parser_read vp.Float = refl
parser_read vp.Char = refl
parser_read (vp.Names names) = refl
parser_read (vp.Values values) = refl

read : (o : Option ValueParser)
    → reading_of (parser_of_value (option_map placeless_parser o)) ≡ reading_of (parser_of_value o)
read None = refl
read (Some p) = parser_read p

-- `f` commutes with a search by a test that `f` does not change
pub found : {X : Type 0} (f : X → X) (test : X → Bool) → ((x : X) → test (f x) ≡ test x) → (xs : List X)
    → find test (map f xs) ≡ option_map f (find test xs)
found f test same [] = refl
found {X} f test same (x ∷ rest) =
    ap₂ (λ (b : Bool) (o : Option X). if b then Some (f x) else o) (same x) (found f test same rest) ∙ go (test x)
  where
    go : (b : Bool) → (if b then Some (f x) else option_map f (find test rest))
        ≡ option_map f (if b then Some x else find test rest)
    go true = refl
    go false = refl

pub by_id : (c : List Rule) (id : Text)
    → arg_by_id (map placeless_rule c) id ≡ option_map placeless_rule (arg_by_id c id)
by_id c id = found placeless_rule (λ a. bytes_eq a.id id) (λ a. refl) c

pub by_long : (c : List Rule) (name : Text)
    → arg_by_long (map placeless_rule c) name ≡ option_map placeless_rule (arg_by_long c name)
by_long c name = found placeless_rule _ (λ a. refl) c

pub by_short : (c : List Rule) (x : ℕ)
    → arg_by_short (map placeless_rule c) x ≡ option_map placeless_rule (arg_by_short c x)
by_short c x = found placeless_rule _ (λ a. refl) c

pub by_index : (c : List Rule) (i : ℕ)
    → arg_by_index (map placeless_rule c) i ≡ option_map placeless_rule (arg_by_index c i)
by_index c i = found placeless_rule _ (λ a. refl) c

-- ---- one use of an argument

pub used_same : (a : Rule) (values : List Text) (rows : List Row)
    → used (placeless_rule a) values rows ≡ used a values rows
used_same a [] rows = ap (λ how. used_as (action_of a) a.id how a.missing rows) (read a.parser)
used_same a (v ∷ vs) rows = ap (λ how. used_as (action_of a) a.id how (v ∷ vs) rows) (read a.parser)

by_id_used : (o : Option Rule) (values : List Text) (rows : List Row)
    → used_by_id (option_map placeless_rule o) values rows ≡ used_by_id o values rows
by_id_used None values rows = refl
by_id_used (Some a) values rows = used_same a values rows

module _ (c : List Rule) where
  abbrev d : List Rule
  d = map placeless_rule c

  pending_used : (p : Option (Text × List Text)) (rows : List Row) → settled_rows d p rows ≡ settled_rows c p rows
  pending_used None rows = refl
  pending_used (Some p) rows =
      ap (λ o. used_by_id o p.1 rows) (by_id c p.0) ∙ by_id_used (arg_by_id c p.0) p.1 rows

  pub settled_same : (h : Held) → settled d h ≡ settled c h
  settled_same h = ap (λ rows. record h { rows = rows; pending = None }) (pending_used h.pending h.rows)

  pub reacted_same : (a : Rule) (values : List Text) (h : Held)
      → reacted d (placeless_rule a) values h ≡ reacted c a values h
  reacted_same a values h =
      ap (λ rows. record h { rows = rows; pending = None }) (used_same a values (settled d h).rows
      ∙ ap (λ (x : Held). used a values x.rows) (settled_same h))

  option_same : (a : Rule) (v : Option Text) (h : Held) → option_met d (placeless_rule a) v h ≡ option_met c a v h
  option_same a (Some v) h = ap (λ (x : Held). (x, done)) (reacted_same a (v ∷ []) h)
  option_same a None h = ap (λ (x : Held). (record x { pending = Some (a.id, []) }, waits a.id)) (settled_same h)

  flag_same : (a : Rule) (v : Option Text) (h : Held) → flag_met d (placeless_rule a) v h ≡ flag_met c a v h
  flag_same a (Some v) h = refl
  flag_same a None h = ap (λ (x : Held). (x, done)) (reacted_same a [] h)

  found_long_same : (o : Option Rule) (v : Option Text) (h : Held)
      → long_met d (option_map placeless_rule o) v h ≡ long_met c o v h
  found_long_same None v h = refl
  found_long_same (Some a) v h =
      ap₂ (λ (x y : Held × Outcome). if takes_values a then x else y) (option_same a v h) (flag_same a v h)

  pub long_same : (name : Text) (v : Option Text) (h : Held)
      → long_met d (arg_by_long d name) v h ≡ long_met c (arg_by_long c name) v h
  long_same name v h = ap (λ o. long_met d o v h) (by_long c name) ∙ found_long_same (arg_by_long c name) v h

  short_same : (o : Option Rule) (rest : Text) (h : Held) (met others : Held → Held × Outcome)
      → ((h : Held) → met h ≡ others h)
      → short_met d (option_map placeless_rule o) rest h met ≡ short_met c o rest h others
  short_same None rest h met others same = refl
  short_same (Some a) rest h met others same =
      ap₂ (λ (x y : Held × Outcome). if takes_values a then x else y) (option_same a (attached_value rest) h)
      (same (reacted d (placeless_rule a) [] h) ∙ ap others (reacted_same a [] h))

  step_same : (o : Option ℕ) (flags : Text) (skip : ℕ) (so_far : Outcome) (h : Held)
      (met others : Text → ℕ → Outcome → Held → Held × Outcome)
      → ((flags : Text) (skip : ℕ) (so_far : Outcome) (h : Held) → met flags skip so_far h ≡ others flags skip so_far h)
      → bundle_step d o flags skip so_far h met ≡ bundle_step c o flags skip so_far h others
  step_same None flags skip so_far h met others same = refl
  step_same (Some x) flags zero so_far h met others same =
      let rest = drop (length (encode_utf8 x)) flags in
      ap (λ o. short_met d o rest h (met rest 0 done)) (by_short c x)
      ∙ short_same (arg_by_short c x) rest h (met rest 0 done) (others rest 0 done) (same rest 0 done)
  step_same (Some x) flags (suc skip) so_far h met others same = same _ skip so_far h

  bundle_met_same : (k : ℕ) (flags : Text) (skip : ℕ) (so_far : Outcome) (h : Held)
      → bundle_met d k flags skip so_far h ≡ bundle_met c k flags skip so_far h
  unfolding bundle_met
  bundle_met_same zero flags skip so_far h = refl
  bundle_met_same (suc k) flags skip so_far h =
      step_same (slice_get (chars flags) 0) flags skip so_far h (bundle_met d k) (bundle_met c k) (bundle_met_same k)

  -- ---- one word

  option_word_same : (o : Option Rule) (id word : Text) (h : Held)
      → option_word (option_map placeless_rule o) id word h ≡ option_word o id word h
  option_word_same None id word h = refl
  option_word_same (Some a) id word h = refl

  plain_same : (waiting : Waiting) (word : Text) (h : Held) → plain_word d waiting word h ≡ plain_word c waiting word h
  plain_same idle word h = refl
  plain_same positional word h = refl
  plain_same (option id) word h =
      ap (λ (x : Held × Waiting). (x.0, next x.1))
      (ap (λ o. option_word o id word h) (by_id c id) ∙ option_word_same (arg_by_id c id) id word h)

  after_same : (waiting : Waiting) (word : Text) (h : Held) (o : Outcome)
      → after_flag d waiting word h o ≡ after_flag c waiting word h o
  after_same waiting word h done = refl
  after_same waiting word h (waits id) = refl
  after_same waiting word h plain = plain_same waiting word h
  after_same waiting word h refused = plain_same waiting word h

  short_or_plain_same : (waiting : Waiting) (word : Text) (o : Option Text) (h : Held)
      → short_or_plain d waiting word o h ≡ short_or_plain c waiting word o h
  short_or_plain_same waiting word None h = plain_same waiting word h
  short_or_plain_same waiting word (Some flags) h =
      ap (λ (x : Held × Outcome). after_flag d waiting word x.0 x.1)
      (bundle_met_same (length flags) flags h.skip plain (record h { skip = 0 }))
      ∙ after_same waiting word (bundle c flags h).0 (bundle c flags h).1

  flag_or_plain_same : (waiting : Waiting) (word : Text) (o : Option (Text × Option Text)) (h : Held)
      → long_or_other d waiting word o h ≡ long_or_other c waiting word o h
  flag_or_plain_same waiting word None h = short_or_plain_same waiting word (short_of word) h
  flag_or_plain_same waiting word (Some p) h =
      ap (λ (x : Held × Outcome). after_flag d waiting word x.0 x.1) (long_same p.0 p.1 h)
      ∙ after_same waiting word (long_met c (arg_by_long c p.0) p.1 h).0 (long_met c (arg_by_long c p.0) p.1 h).1

  other_same : (o : Option Text) (waiting : Waiting) (position : ℕ) (word : Text) (h : Held)
      → subcommand_or_other d o waiting position word h ≡ subcommand_or_other c o waiting position word h
  other_same (Some name) waiting position word h = refl
  other_same None waiting position word h =
      ap (λ (x : Held × Step). if bytes_eq word (45 ∷ 45 ∷ []) then (h, trailing position) else x)
      (flag_or_plain_same waiting word (long_of word) h)

  pub word_same : (names : Names) (is_trailing : Bool) (waiting : Waiting) (position : ℕ) (word : Text) (h : Held)
      → word_met d names is_trailing waiting position word h ≡ word_met c names is_trailing waiting position word h
  word_same names is_trailing waiting position word h =
      ap (λ (x : Held × Step). if is_trailing then (h, value) else x)
      (other_same (subcommand_met names waiting word) waiting position word h)

  -- ---- the walk

  place_same : (o : Option Rule) (word : Text) (w : Walk) (h : Held)
      → to_positional d (option_map placeless_rule o) word w h ≡ to_positional c o word w h
  place_same None word w h = refl
  place_same (Some a) word w h =
      ap (λ (x : Held). place (pushed a.id word (if is_pending a h.pending && takes_several a then h else x)))
      (settled_same h)
    where
      place : Held → Walk
      place x = record {
        held = x;
        waiting = if is_multiple a then positional else idle;
        position = next_position a w.position;
        is_trailing = w.is_trailing || a.trailing_var_arg;
        stopped = None;
      }

  stepped_same : (word : Text) (w : Walk) (h : Held) (step : Step)
      → after_step d word w h step ≡ after_step c word w h step
  stepped_same word w h (next waiting) = refl
  stepped_same word w h (trailing position) = refl
  stepped_same word w h (subcommand name) = refl
  stepped_same word w h value =
      ap (λ o. to_positional d o word w h) (by_index c w.position) ∙ place_same (arg_by_index c w.position) word w h

  pub walked_same : (names : Names) (w : Walk) (word : Text) → walked d names w word ≡ walked c names w word
  unfolding walked
  walked_same names w word = go w.stopped
    where
      go : (o : Option (Text × List Text)) → walked_from d names o w word ≡ walked_from c names o w word
      go (Some p) = refl
      go None =
          let met = word_met c names w.is_trailing w.waiting w.position word w.held in
          ap (λ (x : Held × Step). after_step d word w x.0 x.1)
          (word_same names w.is_trailing w.waiting w.position word w.held)
          ∙ stepped_same word w met.0 met.1

  all_walked_same : (names : Names) (w : Walk) (words : List Text)
      → fold (walked d names) w words ≡ fold (walked c names) w words
  all_walked_same names w [] = refl
  all_walked_same names w (word ∷ rest) =
      ap (λ x. fold (walked d names) x rest) (walked_same names w word)
      ∙ all_walked_same names (walked c names w word) rest

  pub walk_same : (names : Names) (h : Held) (words : List Text) → walk d names h words ≡ walk c names h words
  walk_same names h words = all_walked_same names (walk_from h) words

-- ---- defaults

pub default_same : (rows : List Row) (a : Rule) → with_default rows (placeless_rule a) ≡ with_default rows a
default_same rows a =
    ap (λ how. if has_row a.id rows then rows else default_rows a.id how a.defaults rows) (read a.parser)

defaults_same : (c : List Rule) (rows : List Row)
    → fold with_default rows (map placeless_rule c) ≡ fold with_default rows c
defaults_same [] rows = refl
defaults_same (a ∷ rest) rows =
    ap (λ x. fold with_default x (map placeless_rule rest)) (default_same rows a)
    ∙ defaults_same rest (with_default rows a)

pub finished_same : (c : List Rule) (h : Held) → finished (map placeless_rule c) h ≡ finished c h
finished_same c h =
    ap (λ (x : Held). fold with_default x.rows (map placeless_rule c)) (settled_same c h)
    ∙ defaults_same c (settled c h).rows

pub rows_same : (c : List Rule) (names : Names) (words : List Text)
    → rows_after (map placeless_rule c) names words ≡ rows_after c names words
rows_same c names words =
    ap (λ (w : Walk). finished (map placeless_rule c) w.held) (walk_same c names nothing_held words)
    ∙ finished_same c (walk c names nothing_held words).held
