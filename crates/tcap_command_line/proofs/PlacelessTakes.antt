-- The addresses of an option's choices do not matter to whether a command accepts words.
use Rattle.std.proofs.Common.{◌≡◌, ◌∙◌, ◌+◌, ◌&&◌, ◌||◌, ℕ, zero, suc, Bool, true, false, not, List, [], ◌∷◌, Option, Some, None, is_some, ap, ap₂, refl}
use Rattle.std.specs.Prelude.{drop, encode_utf8, if◌then◌else◌, length, map, min, nat_le, option_map, slice_get}
use Rattle.std.specs.List.{list_all, list_any}
use Rattle.std.specs.Option.{option_map_or}
use Rattle.std.specs.Str.{bytes_eq, chars}
use Rattle.std.specs.Borrow.{Bor}
use Rattle.clap.specs.Facts.{explicit_source, parser_of_value, unwrap_or_range}
use Rattle.clap.specs.Lexer.{long_of, short_of}
use Rattle.clap.specs.Matches.{count_text}
use Rattle.clap.specs.Simple.{Shape}
use Rattle.clap.specs.Takes.{action_passes, bundle_passes, bundle_step_passes, count_passes, default_passes, flag_word_passes, flags_pass, is_given, is_valid, level_passes, long_passes, option_passes, other_passes, positional_passes, react_passes, set_passes, settle_passes, short_passes, step_passes, turn_passes, use_passes, values_pass, walk_passes}
use Rattle.clap.specs.Values.{is_request, same_text}
use Rattle.clap.specs.ValueTests.{accepts}
use Rattle.clap.specs.Walk.{Held, Names, Row, Rule, Step, Text, Walk, action_of, next, trailing, subcommand, value, arg_by_id, arg_by_index, arg_by_long, arg_by_short, attached_value, count_of, finished, has_row, is_empty, is_pending, most_values, reacted, settled, subcommand_met, takes_several, takes_values, values_or_missing, walk, walk_from, walked, word_met}
use Rattle.clap.specs.declared.builder.action.ArgAction.{ArgAction}
use Rattle.clap.specs.declared.builder.action.ArgAction.TheVariants.{Set, Append, SetTrue, SetFalse, Count, Help, HelpShort, HelpLong, Version}
use Rattle.clap.specs.declared.builder.value_parser.ValueParser.{ValueParser}
use Rattle.clap.specs.declared.builder.value_parser.ValueParser.TheVariants as vp
use Rattle.tcap_command_line.specs.CommandLine.{at_first, placeless_parser, placeless_rule, placeless_shape}
use Rattle.tcap_command_line.proofs.PlacelessWalk.{by_id, by_index, by_long, by_short, finished_same, reacted_same, settled_same, walk_same, walked_same, word_same}

-- ---- values

named_same : (test : Text → Bool) (names : List (Bor Text))
    → list_any (λ (name : Bor Text). test name.now) (map (λ (name : Bor Text). at_first name.now) names)
    ≡ list_any (λ (name : Bor Text). test name.now) names
named_same test [] = refl
named_same test (name ∷ rest) = ap (λ b. test name.now || b) (named_same test rest)

parser_accepts : (ignore_case : Bool) (p : ValueParser) (text : Text)
    → accepts ignore_case (placeless_parser p) text ≡ accepts ignore_case p text
parser_accepts ignore_case vp.String text = refl
parser_accepts ignore_case vp.NonEmptyString text = refl
parser_accepts ignore_case vp.Bool text = refl
parser_accepts ignore_case vp.Boolish text = refl
parser_accepts ignore_case vp.Falsey text = refl
parser_accepts ignore_case (vp.Signed low high) text = refl
parser_accepts ignore_case (vp.Unsigned low high) text = refl
parser_accepts ignore_case vp.Float text = refl
parser_accepts ignore_case vp.Char text = refl
parser_accepts ignore_case (vp.Names names) text = named_same (λ name. same_text ignore_case name text) names.now
parser_accepts ignore_case (vp.Values values) text = refl

pub accepts_same : (ignore_case : Bool) (o : Option ValueParser) (text : Text)
    → accepts ignore_case (parser_of_value (option_map placeless_parser o)) text
    ≡ accepts ignore_case (parser_of_value o) text
accepts_same ignore_case None text = refl
accepts_same ignore_case (Some p) text = parser_accepts ignore_case p text

values_same : (a : Rule) (values : List Text) → values_pass (placeless_rule a) values ≡ values_pass a values
values_same a [] = refl
values_same a (v ∷ vs) = ap₂ (λ b d. b && d) (accepts_same a.ignore_case a.parser v) (values_same a vs)

pub missing_same : (a : Rule) (values : List Text)
    → values_or_missing (placeless_rule a) values ≡ values_or_missing a values
missing_same a [] = refl
missing_same a (v ∷ vs) = refl

-- ---- one use of an argument

module _ (again : Bool) where
  set_same : (a : Rule) (values : List Text) (rows : List Row)
      → set_passes again (placeless_rule a) values rows ≡ set_passes again a values rows
  set_same a values rows = ap (λ b. (not (has_row a.id rows) || again) && b) (values_same a values)

  count_same : (a : Rule) (values : List Text) (rows : List Row)
      → count_passes (placeless_rule a) values rows ≡ count_passes a values rows
  count_same a [] rows = accepts_same a.ignore_case a.parser (count_text (min (count_of a.id rows + 1) 255))
  count_same a (v ∷ vs) rows = values_same a (v ∷ vs)

  action_same : (x : ArgAction) (a : Rule) (values : List Text) (rows : List Row)
      → action_passes x again (placeless_rule a) values rows ≡ action_passes x again a values rows
  action_same Set a values rows = set_same a values rows
  action_same SetTrue a values rows = set_same a values rows
  action_same SetFalse a values rows = set_same a values rows
  action_same Append a values rows = values_same a values
  action_same Count a values rows = count_same a values rows
  action_same Help a values rows = refl
  action_same HelpShort a values rows = refl
  action_same HelpLong a values rows = refl
  action_same Version a values rows = refl

  use_same : (a : Rule) (values : List Text) (rows : List Row)
      → use_passes again (placeless_rule a) values rows ≡ use_passes again a values rows
  use_same a values rows =
      ap (λ b. nat_le (unwrap_or_range a.range).start_inclusive (length values)
      && (nat_le (length values) (most_values a) && b))
      (ap (λ vs. action_passes (action_of a) again (placeless_rule a) vs rows) (missing_same a values)
      ∙ action_same (action_of a) a (values_or_missing a values) rows)

  found_use_same : (o : Option Rule) (values : List Text) (rows : List Row)
      → option_map_or (λ a. use_passes again a values rows) (option_map placeless_rule o) true
      ≡ option_map_or (λ a. use_passes again a values rows) o true
  found_use_same None values rows = refl
  found_use_same (Some a) values rows = use_same a values rows

  -- ---- the walk

  module _ (c : List Rule) where
    abbrev d : List Rule
    d = map placeless_rule c

    pub settle_same : (h : Held) → settle_passes d again h ≡ settle_passes c again h
    settle_same h = go h.pending
      where
        go : (p : Option (Text × List Text))
            → option_map_or (λ p. option_map_or (λ a. use_passes again a p.1 h.rows) (arg_by_id d p.0) true) p true
            ≡ option_map_or (λ p. option_map_or (λ a. use_passes again a p.1 h.rows) (arg_by_id c p.0) true) p true
        go None = refl
        go (Some p) =
            ap (λ o. option_map_or (λ a. use_passes again a p.1 h.rows) o true) (by_id c p.0)
            ∙ found_use_same (arg_by_id c p.0) p.1 h.rows

    react_same : (a : Rule) (values : List Text) (h : Held)
        → react_passes d again (placeless_rule a) values h ≡ react_passes c again a values h
    react_same a values h =
        ap₂ (λ b e. b && e) (settle_same h)
        (use_same a values (settled d h).rows ∙ ap (λ (x : Held). use_passes again a values x.rows) (settled_same c h))

    option_same : (a : Rule) (v : Option Text) (h : Held)
        → option_passes d again (placeless_rule a) v h ≡ option_passes c again a v h
    option_same a (Some v) h = react_same a (v ∷ []) h
    option_same a None h = settle_same h

    long_same : (o : Option Rule) (v : Option Text) (h : Held)
        → long_passes d again (option_map placeless_rule o) v h ≡ long_passes c again o v h
    long_same None v h = refl
    long_same (Some a) v h =
        ap₂ (λ x y. if takes_values a then x else (not (is_some v) && y)) (option_same a v h) (react_same a [] h)

    short_same : (o : Option Rule) (rest : Text) (h : Held) (pass others : Held → Bool)
        → ((h : Held) → pass h ≡ others h)
        → short_passes d again (option_map placeless_rule o) rest h pass ≡ short_passes c again o rest h others
    short_same None rest h pass others same = refl
    short_same (Some a) rest h pass others same =
        ap₂ (λ x y. if takes_values a then x else y) (option_same a (attached_value rest) h)
        (ap₂ (λ b e. b && e) (react_same a [] h)
        (same (reacted d (placeless_rule a) [] h) ∙ ap others (reacted_same c a [] h)))

    bundle_step_same : (o : Option ℕ) (flags : Text) (skip : ℕ) (h : Held) (pass others : Text → ℕ → Held → Bool)
        → ((flags : Text) (skip : ℕ) (h : Held) → pass flags skip h ≡ others flags skip h)
        → bundle_step_passes d again o flags skip h pass ≡ bundle_step_passes c again o flags skip h others
    bundle_step_same None flags skip h pass others same = refl
    bundle_step_same (Some x) flags zero h pass others same =
        let rest = drop (length (encode_utf8 x)) flags in
        ap (λ o. short_passes d again o rest h (pass rest 0)) (by_short c x)
        ∙ short_same (arg_by_short c x) rest h (pass rest 0) (others rest 0) (same rest 0)
    bundle_step_same (Some x) flags (suc skip) h pass others same = same _ skip h

    flags_same : (k : ℕ) (flags : Text) (skip : ℕ) (h : Held)
        → flags_pass d again k flags skip h ≡ flags_pass c again k flags skip h
    unfolding flags_pass
    flags_same zero flags skip h = refl
    flags_same (suc k) flags skip h =
        bundle_step_same (slice_get (chars flags) 0) flags skip h (flags_pass d again k) (flags_pass c again k)
        (flags_same k)

    flag_word_same : (o : Option (Text × Option Text)) (word : Text) (h : Held)
        → flag_word_passes d again o word h ≡ flag_word_passes c again o word h
    flag_word_same (Some p) word h =
        ap (λ o. long_passes d again o p.1 h) (by_long c p.0) ∙ long_same (arg_by_long c p.0) p.1 h
    flag_word_same None word h = go (short_of word)
      where
        go : (o : Option Text)
            → option_map_or (λ flags. bundle_passes d again flags h) o true
            ≡ option_map_or (λ flags. bundle_passes c again flags h) o true
        go None = refl
        go (Some flags) = flags_same (length flags) flags h.skip (record h { skip = 0 })

    place_same : (o : Option Rule) (h : Held)
        → option_map_or (λ a. positional_passes d again a h) (option_map placeless_rule o) false
        ≡ option_map_or (λ a. positional_passes c again a h) o false
    place_same None h = refl
    place_same (Some a) h = ap (λ b. (is_pending a h.pending && takes_several a) || b) (settle_same h)

-- ---- a level

module _ (s : Shape) where
  abbrev t : Shape
  t = placeless_shape s

  other_same : (o : Option Text) (word : Text) (h : Held) → other_passes t o word h ≡ other_passes s o word h
  other_same (Some name) word h = refl
  other_same None word h =
      ap (λ b. bytes_eq word (45 ∷ 45 ∷ []) || b)
      (flag_word_same s.args_override_self s.rules (long_of word) word h)

  step_same : (position : ℕ) (h : Held) (step : Step) → step_passes t position h step ≡ step_passes s position h step
  step_same position h (next waiting) = refl
  step_same position h (trailing place) = refl
  step_same position h (subcommand name) = refl
  step_same position h value =
      ap (λ o. option_map_or (λ a. positional_passes t.rules s.args_override_self a h) o false)
      (by_index s.rules position)
      ∙ place_same s.args_override_self s.rules (arg_by_index s.rules position) h

  turn_same : (names : Names) (w : Walk) (word : Text) → turn_passes t names w word ≡ turn_passes s names w word
  turn_same names w word =
      let met = word_met s.rules names w.is_trailing w.waiting w.position word w.held in
      ap₂ (λ b e. is_some w.stopped || (b && e))
      (ap (λ b. w.is_trailing || b) (other_same (subcommand_met names w.waiting word) word w.held))
      (ap (λ (x : Held × Step). step_passes t w.position x.0 x.1)
      (word_same s.rules names w.is_trailing w.waiting w.position word w.held)
      ∙ step_same w.position met.0 met.1)

  walk_passes_same : (names : Names) (w : Walk) (words : List Text)
      → walk_passes t names w words ≡ walk_passes s names w words
  unfolding walk_passes
  walk_passes_same names w [] = refl
  walk_passes_same names w (word ∷ rest) =
      ap₂ (λ b e. b && e) (turn_same names w word)
      (ap (λ x. walk_passes t names x rest) (walked_same s.rules names w word)
      ∙ walk_passes_same names (walked s.rules names w word) rest)

default_same : (a : Rule) → default_passes (placeless_rule a) ≡ default_passes a
default_same a = ap (λ b. is_empty a.defaults || (not (is_request (action_of a)) && b)) (values_same a a.defaults)

-- `f` does not change whether all items pass a test that `f` does not change
pub all_same : {X : Type 0} (f : X → X) (test : X → Bool) → ((a : X) → test (f a) ≡ test a) → (c : List X)
    → list_all test (map f c) ≡ list_all test c
all_same f test same [] = refl
all_same f test same (a ∷ rest) = ap₂ (λ b e. b && e) (same a) (all_same f test same rest)

valid_same : (s : Shape) (rows : List Row) (has : Bool) → is_valid (placeless_shape s) rows has ≡ is_valid s rows has
valid_same s rows has =
    ap₂ (λ b e. (not s.arg_required_else_help || (has || list_any (λ (r : Row). explicit_source r.source) rows))
    && ((not s.subcommand_required || has) && (b && ((s.subcommand_negates_reqs && has) || e))))
    (all_same placeless_rule (λ a. a.is_free) (λ a. refl) s.rules)
    (all_same placeless_rule (λ a. not a.required || is_given a.id rows) (λ a. refl) s.rules)

pub level_same : (s : Shape) (names : Names) (h : Held) (words : List Text) (has : Bool)
    → level_passes (placeless_shape s) names h words has ≡ level_passes s names h words has
level_same s names h words has =
    let again = s.args_override_self in
    let end = (walk s.rules names h words).held in
    let other_end = (walk (placeless_shape s).rules names h words).held in
    let ends : other_end ≡ end = ap (λ (w : Walk). w.held) (walk_same s.rules names h words) in
    ap₂ (λ b e. b && e) (walk_passes_same s names (walk_from h) words)
    (ap₂ (λ b e. b && e) (ap (settle_passes (placeless_shape s).rules again) ends ∙ settle_same again s.rules end)
    (ap₂ (λ b e. b && e) (all_same placeless_rule default_passes default_same s.rules)
    (ap (λ (x : Held). is_valid (placeless_shape s) (finished (placeless_shape s).rules x) has) ends
    ∙ ap (λ rows. is_valid (placeless_shape s) rows has) (finished_same s.rules end)
    ∙ valid_same s (finished s.rules end) has)))
