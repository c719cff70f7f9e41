-- The addresses of an option's choices do not matter to the faults of words.
use Rattle.std.proofs.Common.{◌≡◌, ◌∙◌, ◌+◌, ◌&&◌, ◌||◌, ℕ, zero, suc, Bool, not, List, [], ◌∷◌, Option, Some, None, is_some, ap, ap₂, refl}
use Rattle.std.specs.Prelude.{drop, encode_utf8, if◌then◌else◌, length, map, min, option_map, slice_get}
use Rattle.std.specs.List.{list_any}
use Rattle.std.specs.Option.{option_map_or}
use Rattle.std.specs.Str.{bytes_eq, chars}
use Rattle.clap.specs.Facts.{explicit_source, parser_of_value, unwrap_or_range}
use Rattle.clap.specs.Faults.{action_fault, bundle_fault, bundle_step_fault, check_fault, count_fault, default_fault, defaults_fault, flag_word_fault, flags_fault, level_fault, long_fault, option_fault, other_fault, positional_fault, react_fault, repeat_fault, set_fault, settle_fault, short_fault, step_fault, stray_fault, turn_fault, use_fault, values_fault, walk_fault}
use Rattle.clap.specs.Kinds.{Kinds, check_kinds, or_else, range_kinds, request_kinds, value_kinds}
use Rattle.clap.specs.Lexer.{long_of, short_of}
use Rattle.clap.specs.Matches.{count_text}
use Rattle.clap.specs.Simple.{Shape}
use Rattle.clap.specs.Takes.{is_given}
use Rattle.clap.specs.Values.{refused_kind}
use Rattle.clap.specs.Walk.{Held, Names, Row, Rule, Step, Text, Walk, action_of, next, trailing, subcommand, value, arg_by_id, arg_by_index, arg_by_long, arg_by_short, attached_value, count_of, finished, has_row, is_empty, is_pending, most_values, reacted, settled, subcommand_met, takes_several, takes_values, values_or_missing, walk, walk_from, walked, with_default, word_met}
use Rattle.clap.specs.declared.builder.action.ArgAction.{ArgAction}
use Rattle.clap.specs.declared.builder.action.ArgAction.TheVariants.{Set, Append, SetTrue, SetFalse, Count, Help, HelpShort, HelpLong, Version}
use Rattle.clap.specs.declared.builder.value_parser.ValueParser.{ValueParser}
use Rattle.clap.specs.declared.builder.value_parser.ValueParser.TheVariants as vp
use Rattle.clap.specs.declared.error.kind.ErrorKind.{ErrorKind}
use Rattle.clap.specs.declared.error.kind.ErrorKind.TheVariants as kind
use Rattle.tcap_command_line.specs.CommandLine.{placeless_parser, placeless_rule, placeless_shape}
use Rattle.tcap_command_line.proofs.PlacelessTakes.{accepts_same, missing_same}
use Rattle.tcap_command_line.proofs.PlacelessWalk.{by_id, by_index, by_long, by_short, default_same, finished_same, reacted_same, settled_same, walk_same, walked_same, word_same}

-- ---- values

parser_refuses : (p : ValueParser) → refused_kind (placeless_parser p) ≡ refused_kind p
parser_refuses vp.String = refl
parser_refuses vp.NonEmptyString = refl
parser_refuses vp.Bool = refl
parser_refuses vp.Boolish = refl
parser_refuses vp.Falsey = refl
parser_refuses (vp.Signed low high) = refl
parser_refuses (vp.Unsigned low high) = refl
parser_refuses vp.Float = refl
parser_refuses vp.Char = refl
parser_refuses (vp.Names names) = refl
parser_refuses (vp.Values values) = refl

refuses : (o : Option ValueParser)
    → refused_kind (parser_of_value (option_map placeless_parser o)) ≡ refused_kind (parser_of_value o)
refuses None = refl
refuses (Some p) = parser_refuses p

value_same : (ignore_case : Bool) (o : Option ValueParser) (text : Text)
    → value_kinds ignore_case (parser_of_value (option_map placeless_parser o)) text
    ≡ value_kinds ignore_case (parser_of_value o) text
value_same ignore_case o text =
    ap₂ (λ (b : Bool) (k : ErrorKind). if b then [] else k ∷ []) (accepts_same ignore_case o text) (refuses o)

values_same : (a : Rule) (values : List Text) → values_fault (placeless_rule a) values ≡ values_fault a values
values_same a [] = refl
values_same a (v ∷ vs) = ap₂ or_else (value_same a.ignore_case a.parser v) (values_same a vs)

-- ---- one use of an argument

module _ (again : Bool) where
  set_same : (a : Rule) (values : List Text) (rows : List Row)
      → set_fault again (placeless_rule a) values rows ≡ set_fault again a values rows
  set_same a values rows = ap (or_else (repeat_fault again a.id rows)) (values_same a values)

  count_same : (a : Rule) (values : List Text) (rows : List Row)
      → count_fault (placeless_rule a) values rows ≡ count_fault a values rows
  count_same a [] rows = value_same a.ignore_case a.parser (count_text (min (count_of a.id rows + 1) 255))
  count_same a (v ∷ vs) rows = values_same a (v ∷ vs)

  action_same : (x : ArgAction) (a : Rule) (values : List Text) (rows : List Row)
      → action_fault x again (placeless_rule a) values rows ≡ action_fault x again a values rows
  action_same Set a values rows = set_same a values rows
  action_same SetTrue a values rows = set_same a values rows
  action_same SetFalse a values rows = set_same a values rows
  action_same Append a values rows = values_same a values
  action_same Count a values rows = count_same a values rows
  action_same Help a values rows = refl
  action_same HelpShort a values rows = refl
  action_same HelpLong a values rows = refl
  action_same Version a values rows = refl

  use_same : (a : Rule) (values : List Text) (rows : List Row)
      → use_fault again (placeless_rule a) values rows ≡ use_fault again a values rows
  use_same a values rows =
      ap (or_else (range_kinds (unwrap_or_range a.range).start_inclusive (most_values a) (length values)))
      (ap (λ vs. action_fault (action_of a) again (placeless_rule a) vs rows) (missing_same a values)
      ∙ action_same (action_of a) a (values_or_missing a values) rows)

  found_use_same : (o : Option Rule) (values : List Text) (rows : List Row)
      → option_map_or (λ a. use_fault again a values rows) (option_map placeless_rule o) []
      ≡ option_map_or (λ a. use_fault again a values rows) o []
  found_use_same None values rows = refl
  found_use_same (Some a) values rows = use_same a values rows

  -- ---- the walk

  module _ (c : List Rule) where
    abbrev d : List Rule
    d = map placeless_rule c

    pub settle_same : (h : Held) → settle_fault d again h ≡ settle_fault c again h
    settle_same h = go h.pending
      where
        go : (p : Option (Text × List Text))
            → option_map_or (λ p. option_map_or (λ a. use_fault again a p.1 h.rows) (arg_by_id d p.0) []) p []
            ≡ option_map_or (λ p. option_map_or (λ a. use_fault again a p.1 h.rows) (arg_by_id c p.0) []) p []
        go None = refl
        go (Some p) =
            ap (λ o. option_map_or (λ a. use_fault again a p.1 h.rows) o []) (by_id c p.0)
            ∙ found_use_same (arg_by_id c p.0) p.1 h.rows

    react_same : (a : Rule) (values : List Text) (h : Held)
        → react_fault d again (placeless_rule a) values h ≡ react_fault c again a values h
    react_same a values h =
        ap₂ or_else (settle_same h)
        (use_same a values (settled d h).rows ∙ ap (λ (x : Held). use_fault again a values x.rows) (settled_same c h))

    option_same : (a : Rule) (v : Option Text) (h : Held)
        → option_fault d again (placeless_rule a) v h ≡ option_fault c again a v h
    option_same a (Some v) h = react_same a (v ∷ []) h
    option_same a None h = settle_same h

    long_same : (o : Option Rule) (v : Option Text) (h : Held)
        → long_fault d again (option_map placeless_rule o) v h ≡ long_fault c again o v h
    long_same None v h = refl
    long_same (Some a) v h =
        ap₂ (λ (x y : Kinds). if takes_values a then x else (if is_some v then kind.TooManyValues ∷ [] else y))
        (option_same a v h) (react_same a [] h)

    short_same : (o : Option Rule) (rest : Text) (h : Held) (fault others : Held → Kinds)
        → ((h : Held) → fault h ≡ others h)
        → short_fault d again (option_map placeless_rule o) rest h fault ≡ short_fault c again o rest h others
    short_same None rest h fault others same = refl
    short_same (Some a) rest h fault others same =
        ap₂ (λ (x y : Kinds). if takes_values a then x else y) (option_same a (attached_value rest) h)
        (ap₂ or_else (react_same a [] h)
        (same (reacted d (placeless_rule a) [] h) ∙ ap others (reacted_same c a [] h)))

    bundle_step_same : (o : Option ℕ) (flags : Text) (skip : ℕ) (h : Held) (fault others : Text → ℕ → Held → Kinds)
        → ((flags : Text) (skip : ℕ) (h : Held) → fault flags skip h ≡ others flags skip h)
        → bundle_step_fault d again o flags skip h fault ≡ bundle_step_fault c again o flags skip h others
    bundle_step_same None flags skip h fault others same = refl
    bundle_step_same (Some x) flags zero h fault others same =
        let rest = drop (length (encode_utf8 x)) flags in
        ap (λ o. short_fault d again o rest h (fault rest 0)) (by_short c x)
        ∙ short_same (arg_by_short c x) rest h (fault rest 0) (others rest 0) (same rest 0)
    bundle_step_same (Some x) flags (suc skip) h fault others same = same _ skip h

    flags_same : (k : ℕ) (flags : Text) (skip : ℕ) (h : Held)
        → flags_fault d again k flags skip h ≡ flags_fault c again k flags skip h
    unfolding flags_fault
    flags_same zero flags skip h = refl
    flags_same (suc k) flags skip h =
        bundle_step_same (slice_get (chars flags) 0) flags skip h (flags_fault d again k) (flags_fault c again k)
        (flags_same k)

    flag_word_same : (o : Option (Text × Option Text)) (word : Text) (h : Held)
        → flag_word_fault d again o word h ≡ flag_word_fault c again o word h
    flag_word_same (Some p) word h =
        ap (λ o. long_fault d again o p.1 h) (by_long c p.0) ∙ long_same (arg_by_long c p.0) p.1 h
    flag_word_same None word h = go (short_of word)
      where
        go : (o : Option Text)
            → option_map_or (λ flags. bundle_fault d again flags h) o []
            ≡ option_map_or (λ flags. bundle_fault c again flags h) o []
        go None = refl
        go (Some flags) = flags_same (length flags) flags h.skip (record h { skip = 0 })

    place_same : (stray : Kinds) (o : Option Rule) (h : Held)
        → option_map_or (λ a. positional_fault d again a h) (option_map placeless_rule o) stray
        ≡ option_map_or (λ a. positional_fault c again a h) o stray
    place_same stray None h = refl
    place_same stray (Some a) h =
        ap (λ (k : Kinds). if is_pending a h.pending && takes_several a then [] else k) (settle_same h)

-- ---- a level

module _ (s : Shape) where
  abbrev t : Shape
  t = placeless_shape s

  other_same : (o : Option Text) (word : Text) (h : Held) → other_fault t o word h ≡ other_fault s o word h
  other_same (Some name) word h = refl
  other_same None word h =
      ap (λ (k : Kinds). if bytes_eq word (45 ∷ 45 ∷ []) then [] else k)
      (flag_word_same s.args_override_self s.rules (long_of word) word h)

  step_same : (position : ℕ) (h : Held) (step : Step) → step_fault t position h step ≡ step_fault s position h step
  step_same position h (next waiting) = refl
  step_same position h (trailing place) = refl
  step_same position h (subcommand name) = refl
  step_same position h value =
      ap (λ o. option_map_or (λ a. positional_fault t.rules s.args_override_self a h) o (stray_fault s))
      (by_index s.rules position)
      ∙ place_same s.args_override_self s.rules (stray_fault s) (arg_by_index s.rules position) h

  turn_same : (names : Names) (w : Walk) (word : Text) → turn_fault t names w word ≡ turn_fault s names w word
  turn_same names w word =
      let met = word_met s.rules names w.is_trailing w.waiting w.position word w.held in
      ap₂ (λ (k l : Kinds). if is_some w.stopped then [] else or_else k l)
      (ap (λ (k : Kinds). if w.is_trailing then [] else k)
      (other_same (subcommand_met names w.waiting word) word w.held))
      (ap (λ (x : Held × Step). step_fault t w.position x.0 x.1)
      (word_same s.rules names w.is_trailing w.waiting w.position word w.held)
      ∙ step_same w.position met.0 met.1)

  walk_fault_same : (names : Names) (w : Walk) (words : List Text)
      → walk_fault t names w words ≡ walk_fault s names w words
  unfolding walk_fault
  walk_fault_same names w [] = refl
  walk_fault_same names w (word ∷ rest) =
      ap₂ or_else (turn_same names w word)
      (ap (λ x. walk_fault t names x rest) (walked_same s.rules names w word)
      ∙ walk_fault_same names (walked s.rules names w word) rest)

default_fault_same : (rows : List Row) (a : Rule) → default_fault rows (placeless_rule a) ≡ default_fault rows a
default_fault_same rows a =
    ap (λ (k : Kinds). if has_row a.id rows || is_empty a.defaults then [] else or_else (request_kinds (action_of a)) k)
    (values_same a a.defaults)

defaults_fault_same : (rows : List Row) (c : List Rule)
    → defaults_fault rows (map placeless_rule c) ≡ defaults_fault rows c
unfolding defaults_fault
defaults_fault_same rows [] = refl
defaults_fault_same rows (a ∷ rest) =
    ap₂ or_else (default_fault_same rows a)
    (ap (λ x. defaults_fault x (map placeless_rule rest)) (default_same rows a)
    ∙ defaults_fault_same (with_default rows a) rest)

-- `f` does not change whether some item passes a test that `f` does not change
pub any_same : {X : Type 0} (f : X → X) (test : X → Bool) → ((a : X) → test (f a) ≡ test a) → (c : List X)
    → list_any test (map f c) ≡ list_any test c
any_same f test same [] = refl
any_same f test same (a ∷ rest) = ap₂ (λ b e. b || e) (same a) (any_same f test same rest)

check_same : (s : Shape) (rows : List Row) (has : Bool)
    → check_fault (placeless_shape s) rows has ≡ check_fault s rows has
check_same s rows has =
    ap (λ b. check_kinds
    (not has && (s.arg_required_else_help && not (list_any (λ (r : Row). explicit_source r.source) rows)))
    (not has && s.subcommand_required) (not (s.subcommand_negates_reqs && has) && b))
    (any_same placeless_rule (λ a. a.required && not (is_given a.id rows)) (λ a. refl) s.rules)

pub level_same : (s : Shape) (names : Names) (h : Held) (words : List Text) (has : Bool) (below : Kinds)
    → level_fault (placeless_shape s) names h words has below ≡ level_fault s names h words has below
level_same s names h words has below =
    let t = placeless_shape s in
    let again = s.args_override_self in
    let end = (walk s.rules names h words).held in
    let ends : (walk t.rules names h words).held ≡ end = ap (λ (w : Walk). w.held) (walk_same s.rules names h words) in
    ap₂ or_else (walk_fault_same s names (walk_from h) words)
    (ap (or_else below)
    (ap₂ or_else (ap (settle_fault t.rules again) ends ∙ settle_same again s.rules end)
    (ap₂ or_else (ap (λ (x : Held). defaults_fault (settled t.rules x).rows t.rules) ends
    ∙ ap (λ (x : Held). defaults_fault x.rows t.rules) (settled_same s.rules end)
    ∙ defaults_fault_same (settled s.rules end).rows s.rules)
    (ap (λ (x : Held). check_fault t (finished t.rules x) has) ends
    ∙ ap (λ rows. check_fault t rows has) (finished_same s.rules end)
    ∙ check_same s (finished s.rules end) has))))
