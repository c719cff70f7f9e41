-- After words with no fault, each row has a value, and each value is one that its argument accepts.
use Rattle.std.proofs.Common.{◌≡◌, ◌∙◌, ◌&&◌, ◌||◌, ◌++◌, ℕ, zero, suc, Bool, true, false, List, [], ◌∷◌, Option, Some, None, is_some, refl, ap₂, subst, sym}
use Rattle.std.proofs.lemmas.List.Folds.{list_all-append}
use Rattle.std.proofs.lemmas.Slice.Eq.{bytes_eq-Decides}
use Rattle.std.specs.Prelude.{⊤, IfSome, find, fold, if◌then◌else◌, length, nat_lt, option_and_then, slice_get}
use Rattle.std.specs.List.{list_all}
use Rattle.std.specs.Option.{option_map_or}
use Rattle.std.specs.Str.{bytes_eq, chars}
use Rattle.clap.specs.Facts.{explicit_source, parser_of_value, unwrap_or_range}
use Rattle.clap.proofs.WalkLemmas.{both}
use Rattle.clap.specs.Faults.{action_fault, bundle_fault, bundle_step_fault, flag_word_fault, flags_fault, long_fault, option_fault, other_fault, positional_fault, react_fault, settle_fault, short_fault, step_fault, stray_fault, turn_fault, use_fault, values_fault, walk_fault, word_fault}
use Rattle.clap.specs.Kinds.{Kinds, or_else, range_kinds, value_kinds}
use Rattle.clap.specs.Lexer.{long_of, short_of}
use Rattle.clap.specs.Simple.{Shape}
use Rattle.clap.specs.Takes.{is_given, value_passes}
use Rattle.clap.specs.Values.{is_request, refused_kind}
use Rattle.clap.specs.Walk.{Held, Names, Outcome, Row, Rule, Step, Text, Waiting, Walk, action_of, done, waits, plain, refused, idle, option, positional, next, trailing, subcommand, value, after_flag, after_step, arg_by_id, arg_by_index, arg_by_long, arg_by_short, at_row, attached_value, bundle, bundle_met, bundle_step, default_rows, finished, first_of, flag_met, has_row, is_pending, long_met, long_or_other, more_values, most_values, option_met, option_word, plain_word, reacted, reading_by, settled, settled_rows, short_met, short_or_plain, subcommand_met, subcommand_or_other, takes_several, takes_values, to_positional, used, used_as, used_by_id, walked, walked_from, with_default, with_values, without, word_met}
use Rattle.clap.specs.declared.builder.action.ArgAction.{ArgAction}
use Rattle.clap.specs.declared.builder.action.ArgAction.TheVariants.{Set, Append, SetTrue, SetFalse, Count, Help, HelpShort, HelpLong, Version}
use Rattle.clap.specs.declared.builder.value_parser.Reading.{Reading}
use Rattle.clap.specs.declared.error.kind.ErrorKind.TheVariants as kind
use Rattle.clap.specs.declared.parser.matches.ValueSource.{ValueSource}
use Rattle.clap.specs.declared.parser.matches.ValueSource.TheVariants.{DefaultValue, CommandLine}
use Rattle.tcap_command_line.specs.Subcommands.{has_argument}
use Rattle.tcap_command_line.proofs.Help.{or_empty}

abbrev has_one : List Text → Bool
has_one [] = false
has_one (v ∷ vs) = true

-- an argument with this ID accepts the value
abbrev accepts_one : List Rule → Text → Text → Bool
accepts_one c id word = has_argument (λ a. value_passes a word) id c

abbrev accepts_all : List Rule → Text → List Text → Bool
accepts_all c id = list_all (accepts_one c id)

-- the row has a value, and an argument with its ID accepts each of its values
abbrev IsValued : List Rule → Row → Type 0
IsValued c r = (has_one r.values ≡ true) × (accepts_all c r.id r.values ≡ true)

-- each row is valued
abbrev pub Valued : List Rule → List Row → Type 0
Valued c [] = ⊤
Valued c (r ∷ rs) = IsValued c r × Valued c rs

-- the argument accepts its defaults, and a use of it has a value or makes no row
abbrev pub is_good : Rule → Bool
is_good a = list_all (value_passes a) a.defaults
    && (nat_lt 0 (unwrap_or_range a.range).start_inclusive || (is_request (action_of a) || has_one a.missing))

-- the argument is good and one of these
abbrev Good : List Rule → Rule → Type 0
Good c a = (is_good a ≡ true)
    × ((v : Text) → value_passes a v ≡ true → accepts_one c a.id v ≡ true)

or_right : (x y : Bool) → y ≡ true → (x || y) ≡ true
or_right true y e = refl
or_right false y e = e

-- the arguments `xs` are good and among `c`
abbrev pub AllGood : List Rule → List Rule → Type 0
AllGood c [] = ⊤
AllGood c (a ∷ xs) = Good c a × AllGood c xs

more_good : (b : Rule) (c xs : List Rule) → AllGood c xs → AllGood (b ∷ c) xs
more_good b c [] all = tt
more_good b c (a ∷ xs) all = ((all.0.0, λ v is. or_right _ _ (all.0.1 v is)), more_good b c xs all.1)

pub all_good : (c : List Rule) → list_all is_good c ≡ true → AllGood c c
all_good [] e = tt
all_good (a ∷ rest) e =
    let p = both (is_good a) _ e in
    ((p.0, λ v is. rw ((bytes_eq-Decides a.id a.id).1 refl, is) refl), more_good a rest rest (all_good rest p.1))

found_good : (test : Rule → Bool) (c xs : List Rule) → AllGood c xs → IfSome (find test xs) (Good c)
found_good test c [] all = tt
found_good test c (a ∷ rest) all = go (test a) (found_good test c rest all.1)
  where
    go : (b : Bool) → IfSome (find test rest) (Good c) → IfSome (if b then Some a else find test rest) (Good c)
    go true later = all.0
    go false later = later

-- values that the argument accepts
fits : (c : List Rule) (a : Rule) (values : List Text) → Good c a → list_all (value_passes a) values ≡ true
    → accepts_all c a.id values ≡ true
fits c a [] good e = refl
fits c a (v ∷ vs) good e =
    let p = both (value_passes a v) _ e in
    ap₂ (λ b d. b && d) (good.1 v p.0) (fits c a vs good p.1)

-- values with no fault
passed : (a : Rule) (values : List Text) → values_fault a values ≡ [] → list_all (value_passes a) values ≡ true
passed a [] e = refl
passed a (v ∷ vs) e =
    let p = or_empty (value_kinds a.ignore_case (parser_of_value a.parser) v) _ e in
    ap₂ (λ b d. b && d) (accepted (value_passes a v) p.0) (passed a vs p.1)
  where
    accepted : (b : Bool) → (if b then [] else refused_kind (parser_of_value a.parser) ∷ []) ≡ [] → b ≡ true
    accepted true none = refl
    accepted false none = cc

-- ---- rows

more_has_one : (xs ys : List Text) → has_one xs ≡ true → has_one (xs ++ ys) ≡ true
more_has_one [] ys e = cc
more_has_one (x ∷ xs) ys e = refl

both_valued : (c : List Rule) (a b : List Row) → Valued c a → Valued c b → Valued c (a ++ b)
both_valued c [] b is_a is_b = is_b
both_valued c (r ∷ rs) b is_a is_b = (is_a.0, both_valued c rs b is_a.1 is_b)

changed_valued : (c : List Rule) (id : Text) (change : Row → List Row) (missing rows : List Row)
    → ((r : Row) → r.id ≡ id → IsValued c r → Valued c (change r)) → Valued c missing → Valued c rows
    → Valued c (at_row id change missing rows)
changed_valued c id change missing [] changed is ok = is
changed_valued c id change missing (r ∷ rs) changed is ok =
    go (bytes_eq r.id id) refl (changed_valued c id change missing rs changed is ok.1)
  where
    go : (b : Bool) → bytes_eq r.id id ≡ b → Valued c (at_row id change missing rs)
        → Valued c (if b then change r ++ rs else r ∷ at_row id change missing rs)
    go true same later = both_valued c (change r) rs (changed r ((bytes_eq-Decides r.id id).0 same) ok.0) ok.1
    go false same later = (ok.0, later)

without_valued : (c : List Rule) (id : Text) (rows : List Row) → Valued c rows → Valued c (without id rows)
without_valued c id rows ok = changed_valued c id (λ _. []) [] rows (λ r same e. tt) tt ok

values_valued : (c : List Rule) (id : Text) (how : Reading) (s : ValueSource) (v : Text) (vs : List Text)
    (rows : List Row) → accepts_all c id (v ∷ vs) ≡ true → Valued c rows
    → Valued c (with_values id how s (v ∷ vs) rows)
values_valued c id how s v vs rows fit ok =
    changed_valued c id (more_values s (v ∷ vs)) _ rows (λ r same e. (
      (
        more_has_one r.values (v ∷ vs) e.0,
        list_all-append _ r.values (v ∷ vs)
            ∙ ap₂ (λ b d. b && d) e.1 (subst (λ i. accepts_all c i (v ∷ vs) ≡ true) (sym same) fit),
      ),
      tt,
    )) ((refl, fit), tt) ok

-- ---- one use of an argument

used_valued : (c : List Rule) (x : ArgAction) (again : Bool) (a : Rule) (how : Reading) (v : Text) (vs : List Text)
    (rows : List Row) → Good c a → action_fault x again a (v ∷ vs) rows ≡ [] → Valued c rows
    → Valued c (used_as x a.id how (v ∷ vs) rows)
used_valued c x again a how v vs rows good = go x
  where
    -- the values replace those of the row, or are added to it
    put : (kept : List Row) → values_fault a (v ∷ vs) ≡ [] → Valued c kept
        → Valued c (with_values a.id how CommandLine (v ∷ vs) kept)
    put kept e ok = values_valued c a.id how CommandLine v vs kept (fits c a (v ∷ vs) good (passed a (v ∷ vs) e)) ok

    go : (x : ArgAction) → action_fault x again a (v ∷ vs) rows ≡ [] → Valued c rows
        → Valued c (used_as x a.id how (v ∷ vs) rows)
    go Set e ok = put _ (or_empty _ _ e).1 (without_valued c a.id rows ok)
    go SetTrue e ok = put _ (or_empty _ _ e).1 (without_valued c a.id rows ok)
    go SetFalse e ok = put _ (or_empty _ _ e).1 (without_valued c a.id rows ok)
    go Append e ok = put rows e ok
    go Count e ok = put _ e (without_valued c a.id rows ok)
    go Help e ok = ok
    go HelpShort e ok = ok
    go HelpLong e ok = ok
    go Version e ok = ok

-- a request for help or the version makes no row
request_used : (x : ArgAction) (id : Text) (how : Reading) (vs : List Text) (rows : List Row) → is_request x ≡ true
    → used_as x id how vs rows ≡ rows
request_used Set id how vs rows is = cc
request_used SetTrue id how vs rows is = cc
request_used SetFalse id how vs rows is = cc
request_used Append id how vs rows is = cc
request_used Count id how vs rows is = cc
request_used Help id how vs rows is = refl
request_used HelpShort id how vs rows is = refl
request_used HelpLong id how vs rows is = refl
request_used Version id how vs rows is = refl

missing_valued : (c : List Rule) (again : Bool) (a : Rule) (vs : List Text) (rows : List Row) → Good c a
    → has_one vs ≡ true → action_fault (action_of a) again a vs rows ≡ [] → Valued c rows
    → Valued c (used_as (action_of a) a.id (reading_by a) vs rows)
missing_valued c again a [] rows good has e ok = cc
missing_valued c again a (v ∷ vs) rows good has e ok =
    used_valued c (action_of a) again a (reading_by a) v vs rows good e ok

use_valued : (c : List Rule) (again : Bool) (a : Rule) (values : List Text) (rows : List Row) → Good c a
    → use_fault again a values rows ≡ [] → Valued c rows → Valued c (used a values rows)
use_valued c again a (v ∷ vs) rows good e ok =
    used_valued c (action_of a) again a (reading_by a) v vs rows good (or_empty _ _ e).1 ok
use_valued c again a [] rows good e ok =
    go (nat_lt 0 (unwrap_or_range a.range).start_inclusive) (is_request (action_of a)) refl refl (both _ _ good.0).1
  where
    go : (x y : Bool) → nat_lt 0 (unwrap_or_range a.range).start_inclusive ≡ x → is_request (action_of a) ≡ y
        → (x || (y || has_one a.missing)) ≡ true → Valued c (used a [] rows)
    go true y least is has =
        let none : range_kinds (unwrap_or_range a.range).start_inclusive (most_values a) 0 ≡ [] = (or_empty _ _ e).0 in
        let bad : kind.InvalidValue ∷ [] ≡ [] = rw least at none in cc
    go false true least is has =
        subst (Valued c) (sym (request_used (action_of a) a.id (reading_by a) a.missing rows is)) ok
    go false false least is has = missing_valued c again a a.missing rows good has (or_empty _ _ e).1 ok

-- ---- held values

by_id_valued : (c : List Rule) (again : Bool) (o : Option Rule) (values : List Text) (rows : List Row)
    → IfSome o (Good c) → option_map_or (λ a. use_fault again a values rows) o [] ≡ [] → Valued c rows
    → Valued c (used_by_id o values rows)
by_id_valued c again None values rows good e ok = ok
by_id_valued c again (Some a) values rows good e ok = use_valued c again a values rows good e ok

module _ (c : List Rule) (again : Bool) (all : AllGood c c) where
  pending_valued : (p : Option (Text × List Text)) (rows : List Row)
      → option_map_or (λ p. option_map_or (λ a. use_fault again a p.1 rows) (arg_by_id c p.0) []) p [] ≡ []
      → Valued c rows → Valued c (settled_rows c p rows)
  pending_valued None rows e ok = ok
  pending_valued (Some p) rows e ok = by_id_valued c again (arg_by_id c p.0) p.1 rows (found_good _ c c all) e ok

  settled_valued : (h : Held) → settle_fault c again h ≡ [] → Valued c h.rows → Valued c (settled c h).rows
  settled_valued h e ok = pending_valued h.pending h.rows e ok

  reacted_valued : (a : Rule) (values : List Text) (h : Held) → Good c a → react_fault c again a values h ≡ []
      → Valued c h.rows
      → Valued c (reacted c a values h).rows
  reacted_valued a values h good e ok =
      let p = or_empty (settle_fault c again h) _ e in
      use_valued c again a values (settled c h).rows good p.1 (settled_valued h p.0 ok)

  option_valued : (a : Rule) (v : Option Text) (h : Held) → Good c a → option_fault c again a v h ≡ [] → Valued c h.rows
      → Valued c (option_met c a v h).0.rows
  option_valued a (Some v) h good e ok = reacted_valued a (v ∷ []) h good e ok
  option_valued a None h good e ok = settled_valued h e ok

  long_valued : (o : Option Rule) (v : Option Text) (h : Held) → IfSome o (Good c) → long_fault c again o v h ≡ []
      → Valued c h.rows
      → Valued c (long_met c o v h).0.rows
  long_valued None v h good e ok = ok
  long_valued (Some a) v h good e ok = go (takes_values a) v e
    where
      go : (b : Bool) (v : Option Text)
          → (if b then option_fault c again a v h
          else (if is_some v then kind.TooManyValues ∷ [] else react_fault c again a [] h)) ≡ []
          → Valued c (if b then option_met c a v h else flag_met c a v h).0.rows
      go true v e = option_valued a v h good e ok
      go false (Some v) e = ok
      go false None e = reacted_valued a [] h good e ok

  -- the rest of a bundle of flags keeps the rows valued
  abbrev Next : (Text → ℕ → Outcome → Held → Held × Outcome) → (Text → ℕ → Held → Kinds) → Type 0
  Next met fault = (flags : Text) (skip : ℕ) (so_far : Outcome) (h : Held) → fault flags skip h ≡ [] → Valued c h.rows
      → Valued c (met flags skip so_far h).0.rows

  short_valued : (o : Option Rule) (rest : Text) (h : Held) (met : Text → ℕ → Outcome → Held → Held × Outcome)
      (fault : Text → ℕ → Held → Kinds) → Next met fault → IfSome o (Good c)
      → short_fault c again o rest h (fault rest 0) ≡ []
      → Valued c h.rows → Valued c (short_met c o rest h (met rest 0 done)).0.rows
  short_valued None rest h met fault after good e ok = ok
  short_valued (Some a) rest h met fault after good e ok = go (takes_values a) e
    where
      go : (b : Bool)
          → (if b then option_fault c again a (attached_value rest) h
          else or_else (react_fault c again a [] h) (fault rest 0 (reacted c a [] h))) ≡ []
          → Valued c (if b then option_met c a (attached_value rest) h else met rest 0 done (reacted c a [] h)).0.rows
      go true e = option_valued a (attached_value rest) h good e ok
      go false e =
          let p = or_empty (react_fault c again a [] h) _ e in
          after rest 0 done (reacted c a [] h) p.1 (reacted_valued a [] h good p.0 ok)

  step_valued : (o : Option ℕ) (flags : Text) (skip : ℕ) (so_far : Outcome) (h : Held)
      (met : Text → ℕ → Outcome → Held → Held × Outcome) (fault : Text → ℕ → Held → Kinds) → Next met fault
      → bundle_step_fault c again o flags skip h fault ≡ [] → Valued c h.rows
      → Valued c (bundle_step c o flags skip so_far h met).0.rows
  step_valued None flags skip so_far h met fault after e ok = ok
  step_valued (Some x) flags zero so_far h met fault after e ok =
      short_valued (arg_by_short c x) _ h met fault after (found_good _ c c all) e ok
  step_valued (Some x) flags (suc skip) so_far h met fault after e ok = after _ skip so_far h e ok

  bundle_valued : (k : ℕ) → Next (bundle_met c k) (flags_fault c again k)
  unfolding bundle_met flags_fault
  bundle_valued zero flags skip so_far h e ok = ok
  bundle_valued (suc k) flags skip so_far h e ok =
      step_valued (slice_get (chars flags) 0) flags skip so_far h (bundle_met c k)
      (flags_fault c again k) (bundle_valued k) e ok

  -- ---- one word

  plain_valued : (waiting : Waiting) (word : Text) (h : Held) → Valued c h.rows
      → Valued c (plain_word c waiting word h).0.rows
  plain_valued idle word h ok = ok
  plain_valued positional word h ok = ok
  plain_valued (option id) word h ok = go (arg_by_id c id)
    where
      go : (o : Option Rule) → Valued c (option_word o id word h).0.rows
      go None = ok
      go (Some a) = ok

  after_valued : (waiting : Waiting) (word : Text) (h : Held) (o : Outcome) → Valued c h.rows
      → Valued c (after_flag c waiting word h o).0.rows
  after_valued waiting word h done ok = ok
  after_valued waiting word h (waits id) ok = ok
  after_valued waiting word h plain ok = plain_valued waiting word h ok
  after_valued waiting word h refused ok = plain_valued waiting word h ok

  flag_valued : (waiting : Waiting) (word : Text) (o : Option (Text × Option Text)) (h : Held)
      → flag_word_fault c again o word h ≡ [] → Valued c h.rows → Valued c (long_or_other c waiting word o h).0.rows
  flag_valued waiting word (Some p) h e ok =
      let met = long_met c (arg_by_long c p.0) p.1 h in
      after_valued waiting word met.0 met.1 (long_valued (arg_by_long c p.0) p.1 h (found_good _ c c all) e ok)
  flag_valued waiting word None h e ok = go (short_of word) e
    where
      go : (o : Option Text) → option_map_or (λ flags. bundle_fault c again flags h) o [] ≡ []
          → Valued c (short_or_plain c waiting word o h).0.rows
      go None e = plain_valued waiting word h ok
      go (Some flags) e =
          let met = bundle c flags h in
          after_valued waiting word met.0 met.1
          (bundle_valued (length flags) flags h.skip plain (record h { skip = 0 }) e ok)

-- ---- the walk

module _ (s : Shape) (names : Names) (all : AllGood s.rules s.rules) where
  other_valued : (o : Option Text) (waiting : Waiting) (position : ℕ) (word : Text) (h : Held)
      → other_fault s o word h ≡ []
      → Valued s.rules h.rows → Valued s.rules (subcommand_or_other s.rules o waiting position word h).0.rows
  other_valued (Some name) waiting position word h e ok = ok
  other_valued None waiting position word h e ok = go (bytes_eq word (45 ∷ 45 ∷ [])) e
    where
      go : (b : Bool) → (if b then [] else flag_word_fault s.rules s.args_override_self (long_of word) word h) ≡ []
          → Valued s.rules (if b then (h, trailing position) else long_or_other s.rules waiting word (long_of word) h).0.rows
      go true e = ok
      go false e = flag_valued s.rules s.args_override_self all waiting word (long_of word) h e ok

  word_valued : (is_trailing : Bool) (waiting : Waiting) (position : ℕ) (word : Text) (h : Held)
      → word_fault s names is_trailing waiting word h ≡ [] → Valued s.rules h.rows
      → Valued s.rules (word_met s.rules names is_trailing waiting position word h).0.rows
  word_valued true waiting position word h e ok = ok
  word_valued false waiting position word h e ok =
      other_valued (subcommand_met names waiting word) waiting position word h e ok

  place_valued : (o : Option Rule) (word : Text) (w : Walk) (h : Held)
      → option_map_or (λ a. positional_fault s.rules s.args_override_self a h) o (stray_fault s) ≡ [] → Valued s.rules h.rows
      → Valued s.rules (to_positional s.rules o word w h).held.rows
  place_valued None word w h e ok = ok
  place_valued (Some a) word w h e ok = go (is_pending a h.pending && takes_several a) e
    where
      go : (b : Bool) → (if b then [] else settle_fault s.rules s.args_override_self h) ≡ []
          → Valued s.rules (if b then h else settled s.rules h).rows
      go true e = ok
      go false e = settled_valued s.rules s.args_override_self all h e ok

  stepped_valued : (word : Text) (w : Walk) (h : Held) (step : Step) → step_fault s w.position h step ≡ []
      → Valued s.rules h.rows
      → Valued s.rules (after_step s.rules word w h step).held.rows
  stepped_valued word w h (next waiting) e ok = ok
  stepped_valued word w h (trailing position) e ok = ok
  stepped_valued word w h (subcommand name) e ok = ok
  stepped_valued word w h value e ok = place_valued (arg_by_index s.rules w.position) word w h e ok

  walked_valued : (w : Walk) (word : Text) → turn_fault s names w word ≡ [] → Valued s.rules w.held.rows
      → Valued s.rules (walked s.rules names w word).held.rows
  unfolding walked
  walked_valued w word e ok = go w.stopped e
    where
      met : Held × Step
      met = word_met s.rules names w.is_trailing w.waiting w.position word w.held

      go : (o : Option (Text × List Text))
          → (if is_some o then [] else or_else (word_fault s names w.is_trailing w.waiting word w.held)
          (step_fault s w.position met.0 met.1)) ≡ []
          → Valued s.rules (walked_from s.rules names o w word).held.rows
      go (Some p) e = ok
      go None e =
          let p = or_empty (word_fault s names w.is_trailing w.waiting word w.held) _ e in
          stepped_valued word w met.0 met.1 p.1 (word_valued w.is_trailing w.waiting w.position word w.held p.0 ok)

  walk_valued : (w : Walk) (words : List Text) → walk_fault s names w words ≡ [] → Valued s.rules w.held.rows
      → Valued s.rules (fold (walked s.rules names) w words).held.rows
  unfolding walk_fault
  walk_valued w [] e ok = ok
  walk_valued w (word ∷ rest) e ok =
      let p = or_empty (turn_fault s names w word) _ e in
      walk_valued (walked s.rules names w word) rest p.1 (walked_valued w word p.0 ok)

  default_valued : (rows : List Row) (a : Rule) → Good s.rules a → Valued s.rules rows → Valued s.rules (with_default rows a)
  default_valued rows a good ok =
      go (has_row a.id rows) a.defaults (fits s.rules a a.defaults good (both _ _ good.0).0)
    where
      go : (b : Bool) (vs : List Text) → accepts_all s.rules a.id vs ≡ true
          → Valued s.rules (if b then rows else default_rows a.id (reading_by a) vs rows)
      go true vs fit = ok
      go false [] fit = ok
      go false (v ∷ vs) fit = values_valued s.rules a.id (reading_by a) DefaultValue v vs rows fit ok

  defaults_valued : (c : List Rule) (rows : List Row) → AllGood s.rules c → Valued s.rules rows → Valued s.rules (fold with_default rows c)
  defaults_valued [] rows good ok = ok
  defaults_valued (a ∷ rest) rows good ok =
      defaults_valued rest (with_default rows a) good.1 (default_valued rows a good.0 ok)

  -- the rows at the end of a walk with no fault are valued
  pub end_valued : (w : Walk) (words : List Text) → walk_fault s names w words ≡ []
      → settle_fault s.rules s.args_override_self (fold (walked s.rules names) w words).held ≡ [] → Valued s.rules w.held.rows
      → Valued s.rules (finished s.rules (fold (walked s.rules names) w words).held)
  end_valued w words e settles ok =
      let end = (fold (walked s.rules names) w words).held in
      defaults_valued s.rules (settled s.rules end).rows all
      (settled_valued s.rules s.args_override_self all end settles (walk_valued w words e ok))

-- an argument that is given has a first value
pub first_there : (c : List Rule) (id : Text) (rows : List Row) → Valued c rows → is_given id rows ≡ true
    → is_some (first_of id rows) ≡ true
first_there c id [] ok e = cc
first_there c id (r ∷ rs) ok e = go (bytes_eq r.id id) (first_there c id rs ok.1) e
  where
    has : (vs : List Text) → has_one vs ≡ true → is_some (slice_get vs 0) ≡ true
    has [] is = cc
    has (v ∷ vs) is = refl

    go : (b : Bool) → (is_given id rs ≡ true → is_some (first_of id rs) ≡ true)
        → option_map_or (λ (r : Row). explicit_source r.source)
        (if b then Some r else find (λ (r : Row). bytes_eq r.id id) rs) false ≡ true
        → is_some (option_and_then (λ (r : Row). slice_get r.values 0)
        (if b then Some r else find (λ (r : Row). bytes_eq r.id id) rs)) ≡ true
    go true later e = has r.values ok.0.0
    go false later e = later e

-- an argument with this ID accepts its first value
pub first_fits : (c : List Rule) (id : Text) (rows : List Row) → Valued c rows
    → IfSome (first_of id rows) (λ word. accepts_one c id word ≡ true)
first_fits c id [] ok = tt
first_fits c id (r ∷ rs) ok = go (bytes_eq r.id id) refl (first_fits c id rs ok.1)
  where
    first : (vs : List Text) → accepts_all c id vs ≡ true → IfSome (slice_get vs 0) (λ word. accepts_one c id word ≡ true)
    first [] fits = tt
    first (v ∷ vs) fits = (both (accepts_one c id v) (accepts_all c id vs) fits).0

    go : (b : Bool) → bytes_eq r.id id ≡ b
        → IfSome (option_and_then (λ (r : Row). slice_get r.values 0) (find (λ (r : Row). bytes_eq r.id id) rs))
        (λ word. accepts_one c id word ≡ true)
        → IfSome (option_and_then (λ (r : Row). slice_get r.values 0)
        (if b then Some r else find (λ (r : Row). bytes_eq r.id id) rs)) (λ word. accepts_one c id word ≡ true)
    go true same later =
        first r.values
        (subst (λ i. accepts_all c i r.values ≡ true) ((bytes_eq-Decides r.id id).0 same) ok.0.1)
    go false same later = later
