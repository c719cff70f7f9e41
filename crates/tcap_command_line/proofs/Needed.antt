-- If the command line finds no fault in the words, they name a subcommand, whose arguments have what it requires.
use Rattle.std.proofs.Common.{◌≡◌, ◌∙◌, ◌&&◌, ◌||◌, ap, subst, sym, Bool, true, false, not, List, [], ◌∷◌, Option, Some, None, is_some, refl, codes}
use Rattle.std.proofs.lemmas.Slice.Eq.{bytes_eq-Decides}
use Rattle.std.specs.Prelude.{IfSome, IsSomeAnd, find, if◌then◌else◌, option_map}
use Rattle.std.specs.List.{list_all, list_any}
use Rattle.std.specs.Option.{option_map_or}
use Rattle.std.specs.Str.{bytes_eq}
use Rattle.clap.proofs.OnLiterals.{clap_on_literals}
use Rattle.clap.proofs.WalkLemmas.{both}
use Rattle.clap.specs.Kinds.{check_kinds}
use Rattle.clap.specs.Faults.{built_fault, check_fault, defaults_fault, entered_fault, fault_of, level_fault, settle_fault, walk_fault}
use Rattle.clap.specs.Simple.{App, Shape, argument_words, built, entered, label_of, names_of, rows_at, subcommand_of}
use Rattle.clap.specs.Takes.{is_given}
use Rattle.clap.specs.Walk.{Row, Rule, Text, answers_to, finished, first_of, nothing_held, rows_after, settled, stop_after, walk, walk_from}
use Rattle.tcap_command_line.specs.CommandLine.{tool}
use Rattle.tcap_command_line.specs.Subcommands.{HasNeeded, IsSound, has_argument, is_known}
use Rattle.tcap_command_line.proofs.Help.{NotHelp, or_empty, walk_not}
use Rattle.tcap_command_line.proofs.Valued.{all_good, end_valued, first_fits, first_there, is_good}

-- ---- a level with no fault

neither : (x y : Bool) → (x || y) ≡ false → (x ≡ false) × (y ≡ false)
neither false y e = (refl, e)
neither true y e = cc

not_false : (b : Bool) → not b ≡ false → b ≡ true
not_false true e = refl
not_false false e = cc

-- if no required argument is missing, one that is required is given
required_given : (rows : List Row) (id : Text) (c : List Rule)
    → list_any (λ (a : Rule). a.required && not (is_given a.id rows)) c ≡ false
    → has_argument (λ a. a.required) id c ≡ true → is_given id rows ≡ true
required_given rows id [] e is = cc
required_given rows id (a ∷ rest) e is =
    let p = neither (a.required && not (is_given a.id rows)) _ e in
    go (bytes_eq a.id id) a.required refl refl p.0 (required_given rows id rest p.1) is
  where
    go : (b r : Bool) → bytes_eq a.id id ≡ b → a.required ≡ r → (r && not (is_given a.id rows)) ≡ false
        → (has_argument (λ a. a.required) id rest ≡ true → is_given id rows ≡ true)
        → (b && r || has_argument (λ a. a.required) id rest) ≡ true → is_given id rows ≡ true
    go true true same needs clear later is =
        subst (λ i. is_given i rows ≡ true) ((bytes_eq-Decides a.id id).0 same) (not_false _ clear)
    go true false same needs clear later is = later is
    go false r same needs clear later is = later is

none_missing : (help sub missing : Bool) → check_kinds help sub missing ≡ [] → missing ≡ false
none_missing help sub false e = refl
none_missing true sub true e = cc
none_missing false true true e = cc
none_missing false false true e = cc

-- the rows of a subcommand that finds no fault in the words are sound
level_sound : (s : Shape) (words : List Text) → list_all is_good s.rules ≡ true
    → not s.subcommand_negates_reqs ≡ true → level_fault s [] nothing_held words false [] ≡ []
    → IsSound s.rules (rows_after s.rules [] words)
level_sound s words good off e =
    let end = (walk s.rules [] nothing_held words).held in
    let a = or_empty (walk_fault s [] (walk_from nothing_held) words) _ e in
    let d = or_empty (settle_fault s.rules s.args_override_self end) _ a.1 in
    let f = or_empty (defaults_fault (settled s.rules end).rows s.rules) _ d.1 in
    let ok = end_valued s [] (all_good s.rules good) (walk_from nothing_held) words a.0 d.0 tt in record {
      needed = λ id is. first_there s.rules id _ ok (required_given _ id s.rules (checked s.subcommand_negates_reqs refl f.1) is);
      taken = λ id. first_fits s.rules id _ ok;
    }
  where
    rows : List Row
    rows = rows_after s.rules [] words

    missing : Bool
    missing = list_any (λ (a : Rule). a.required && not (is_given a.id rows)) s.rules

    checked : (b : Bool) → s.subcommand_negates_reqs ≡ b → check_fault s rows false ≡ [] → missing ≡ false
    checked true is e = let bad : false ≡ true = rw is at off in cc
    checked false is e = none_missing _ _ missing (rw is at e)

-- ---- the subcommand of the words

-- the first item that passes the test is fine if all items are
found_fine : {X : Type 0} (test fine : X → Bool) (xs : List X) → list_all fine xs ≡ true
    → IfSome (find test xs) (λ x. (test x ≡ true) × (fine x ≡ true))
found_fine test fine [] e = tt
found_fine test fine (x ∷ rest) e = go (test x) refl (found_fine test fine rest (both (fine x) _ e).1)
  where
    go : (b : Bool) → test x ≡ b → IfSome (find test rest) (λ x. (test x ≡ true) × (fine x ≡ true))
        → IfSome (if b then Some x else find test rest) (λ x. (test x ≡ true) × (fine x ≡ true))
    go true is later = (is, (both (fine x) _ e).0)
    go false is later = later

abbrev has_none : List Text → Bool
has_none [] = true
has_none (x ∷ xs) = false

-- `help`, or a subcommand whose rows are sound after words with no fault
abbrev is_fine : Shape → Bool
is_fine s = has_none s.aliases && (bytes_eq s.name (codes "help")
    || (is_known s.name && (list_all is_good s.rules && not s.subcommand_negates_reqs)))

alone : (b : Bool) → (b || false) ≡ true → b ≡ true
alone true e = refl
alone false e = e

-- a test that no other argument's test follows
pub taken_alone : (o : Option Text) (test : Text → Bool) → IfSome o (λ word. (test word || false) ≡ true)
    → IfSome o (λ word. test word ≡ true)
taken_alone None test ok = tt
taken_alone (Some word) test ok = alone (test word) ok

-- a command with no alias has the name to which it answers
answered : (name word : Text) (aliases : List Text) → has_none aliases ≡ true → answers_to word (name, aliases) ≡ true
    → name ≡ word
answered name word [] none is = (bytes_eq-Decides name word).0 (alone (bytes_eq name word) is)
answered name word (alias ∷ aliases) none is = cc

wanted : (help has missing : Bool) → check_kinds (not has && help) (not has && true) missing ≡ [] → has ≡ true
wanted help true missing e = refl
wanted true false missing e = cc
wanted false false missing e = cc

module _ (app : App) (fine : list_all is_fine app.subs ≡ true) (off : app.top.disable_help_subcommand ≡ false)
    (requires : app.top.subcommand_required ≡ true) (words : List Text) (e : built_fault app nothing_held words ≡ []) where
  abbrev stop : Option (Text × List Text)
  stop = stop_after app.top.rules (names_of app) words

  -- the name is known, and the rows are sound for the subcommand of this name
  abbrev IsMet : Text × List Row → Type 0
  IsMet found = (is_known found.0 ≡ true)
      × IsSomeAnd (find (λ s. answers_to found.0 (label_of s)) app.subs) (λ s. IsSound s.rules found.1)

  is_met : (found : Text × List Row) → entered app stop ≡ Some found → IsMet found
  is_met found is =
      let walks = or_empty (walk_fault app.top (names_of app) (walk_from nothing_held) words) _ e in
      let below = or_empty (entered_fault app stop) _ walks.1 in
      go stop (walk_not app.top (names_of app) (walk_from nothing_held) words off tt walks.0) below.0 is
    where
      met : (p : Text × List Text) → bytes_eq p.0 (codes "help") ≡ false
          → (o : Option Shape) → find (λ s. answers_to p.0 (label_of s)) app.subs ≡ o
          → IfSome o (λ s. (answers_to p.0 (label_of s) ≡ true) × (is_fine s ≡ true))
          → option_map_or (λ s. level_fault s [] nothing_held p.1 false []) o [] ≡ []
          → option_map (λ s. rows_at s p.1) o ≡ Some found → IsMet found
      met p not_help None at is_fine clear is = cc
      met p not_help (Some s) at (answers, fine) clear is =
          let p_fine = both (has_none s.aliases) _ fine in
          let same : s.name ≡ p.0 = answered s.name p.0 s.aliases p_fine.0 answers in
          let other : bytes_eq s.name (codes "help") ≡ false = rw same not_help in
          let known = both (is_known s.name) _ (rw other at p_fine.1) in
          let good = both (list_all is_good s.rules) _ known.1 in
          let found_is : rows_at s p.1 ≡ found = cc in
          subst IsMet found_is (
            known.0,
            rw (same, at) (level_sound s p.1 good.0 good.1 clear),
          )

      go : (stop : Option (Text × List Text)) → NotHelp stop → entered_fault app stop ≡ []
          → entered app stop ≡ Some found → IsMet found
      go None not_help clear is = cc
      go (Some p) not_help clear is =
          met p not_help _ refl (found_fine (λ s. answers_to p.0 (label_of s)) is_fine app.subs fine) clear is

  has_one : is_some (entered app stop) ≡ true
  has_one =
      let a = or_empty (walk_fault app.top (names_of app) (walk_from nothing_held) words) _ e in
      let b = or_empty (entered_fault app stop) _ a.1 in
      let end = (walk app.top.rules (names_of app) nothing_held words).held in
      let d = or_empty (settle_fault app.top.rules app.top.args_override_self end) _ b.1 in
      let f = or_empty (defaults_fault (settled app.top.rules end).rows app.top.rules) _ d.1 in
      wanted _ _ _ (rw requires at f.1)

tool_fine : list_all is_fine (built tool).subs ≡ true
unfolding tool clap_on_literals
tool_fine = refl

tool_off : (built tool).top.disable_help_subcommand ≡ false
unfolding tool
tool_off = refl

tool_requires : (built tool).top.subcommand_required ≡ true
unfolding tool
tool_requires = refl

-- words with no fault name a subcommand
pub has_subcommand : (words : List Text) → fault_of tool words ≡ [] → is_some (subcommand_of tool words) ≡ true
has_subcommand words e =
    has_one (built tool) tool_fine tool_off tool_requires (argument_words tool words) e

-- words with no fault give the required values of their subcommand
pub has_needed : (words : List Text) (name : Text) (rows : List Row) → fault_of tool words ≡ []
    → subcommand_of tool words ≡ Some (name, rows) → (is_known name ≡ true) × HasNeeded name rows
has_needed words name rows e is =
    is_met (built tool) tool_fine tool_off tool_requires (argument_words tool words) e (name, rows) is
