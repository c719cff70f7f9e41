-- Words with no fault do not name the subcommand `help`.
use Rattle.std.proofs.Common.{◌≡◌, ◌&&◌, ℕ, Bool, true, false, not, List, [], ◌∷◌, Option, Some, None, is_some, refl, codes}
use Rattle.std.specs.Prelude.{⊤, fold, if◌then◌else◌}
use Rattle.std.specs.Str.{bytes_eq}
use Rattle.clap.specs.Kinds.{Kinds, or_else}
use Rattle.clap.specs.Faults.{other_fault, turn_fault, walk_fault, word_fault}
use Rattle.clap.specs.Simple.{Shape}
use Rattle.clap.specs.Lexer.{long_of, short_of}
use Rattle.clap.specs.Walk.{Held, Names, Outcome, Rule, Step, Text, Waiting, Walk, done, waits, plain, refused, idle, option, positional, next, trailing, subcommand, value, after_flag, after_step, arg_by_index, arg_by_long, bundle, long_met, long_or_other, plain_word, short_or_plain, subcommand_met, subcommand_or_other, to_positional, walked, walked_from, word_met}
use Rattle.clap.specs.declared.error.kind.ErrorKind.TheVariants as kind

-- the walk has not stopped at `help`
abbrev pub NotHelp : Option (Text × List Text) → Type 0
NotHelp None = ⊤
NotHelp (Some p) = bytes_eq p.0 (codes "help") ≡ false

-- the word is not `help`
abbrev NotHelpStep : Step → Type 0
NotHelpStep (subcommand name) = bytes_eq name (codes "help") ≡ false
NotHelpStep _ = ⊤

pub or_empty : (a b : Kinds) → or_else a b ≡ [] → (a ≡ []) × (b ≡ [])
or_empty [] b e = (refl, e)
or_empty (k ∷ ks) b e = (e, absurd_pair e)
  where
    absurd_pair : (k ∷ ks) ≡ [] → b ≡ []
    absurd_pair e = cc

to_positional_not : (c : List Rule) (a : Option Rule) (word : Text) (w : Walk) (h : Held) → NotHelp w.stopped
    → NotHelp (to_positional c a word w h).stopped
to_positional_not c None word w h ok = ok
to_positional_not c (Some a) word w h ok = tt

after_step_not : (c : List Rule) (word : Text) (w : Walk) (h : Held) (step : Step) → NotHelp w.stopped → NotHelpStep step
    → NotHelp (after_step c word w h step).stopped
after_step_not c word w h (next waiting) ok is = ok
after_step_not c word w h (trailing position) ok is = ok
after_step_not c word w h (subcommand name) ok is = is
after_step_not c word w h value ok is = to_positional_not c (arg_by_index c w.position) word w h ok

plain_word_not : (c : List Rule) (waiting : Waiting) (word : Text) (h : Held) → NotHelpStep (plain_word c waiting word h).1
plain_word_not c (option id) word h = tt
plain_word_not c idle word h = tt
plain_word_not c positional word h = tt

after_flag_not : (c : List Rule) (waiting : Waiting) (word : Text) (h : Held) (o : Outcome)
    → NotHelpStep (after_flag c waiting word h o).1
after_flag_not c waiting word h done = tt
after_flag_not c waiting word h (waits id) = tt
after_flag_not c waiting word h plain = plain_word_not c waiting word h
after_flag_not c waiting word h refused = plain_word_not c waiting word h

short_or_plain_not : (c : List Rule) (waiting : Waiting) (word : Text) (flags : Option Text) (h : Held)
    → NotHelpStep (short_or_plain c waiting word flags h).1
short_or_plain_not c waiting word (Some flags) h = after_flag_not c waiting word (bundle c flags h).0 (bundle c flags h).1
short_or_plain_not c waiting word None h = plain_word_not c waiting word h

long_or_other_not : (c : List Rule) (waiting : Waiting) (word : Text) (long : Option (Text × Option Text)) (h : Held)
    → NotHelpStep (long_or_other c waiting word long h).1
long_or_other_not c waiting word (Some p) h =
    after_flag_not c waiting word (long_met c (arg_by_long c p.0) p.1 h).0 (long_met c (arg_by_long c p.0) p.1 h).1
long_or_other_not c waiting word None h = short_or_plain_not c waiting word (short_of word) h

named_not : (is off : Bool) → off ≡ false → (if is && not off then kind.DisplayHelp ∷ kind.InvalidSubcommand ∷ [] else []) ≡ []
    → is ≡ false
named_not false off enabled e = refl
named_not true false enabled e = cc
named_not true true enabled e = cc

other_not : (s : Shape) (name : Option Text) (waiting : Waiting) (position : ℕ) (word : Text) (h : Held)
    → s.disable_help_subcommand ≡ false
    → other_fault s name word h ≡ [] → NotHelpStep (subcommand_or_other s.rules name waiting position word h).1
other_not s (Some name) waiting position word h enabled e =
    named_not (bytes_eq name (codes "help")) s.disable_help_subcommand enabled e
other_not s None waiting position word h enabled e = go (bytes_eq word (45 ∷ 45 ∷ []))
  where
    go : (b : Bool) → NotHelpStep (if b then (h, trailing position) else long_or_other s.rules waiting word (long_of word) h).1
    go true = tt
    go false = long_or_other_not s.rules waiting word (long_of word) h

word_not : (s : Shape) (names : Names) (is_trailing : Bool) (waiting : Waiting) (position : ℕ) (word : Text) (h : Held)
    → s.disable_help_subcommand ≡ false
    → word_fault s names is_trailing waiting word h ≡ []
    → NotHelpStep (word_met s.rules names is_trailing waiting position word h).1
word_not s names true waiting position word h enabled e = tt
word_not s names false waiting position word h enabled e =
    other_not s (subcommand_met names waiting word) waiting position word h enabled e

turn_word : (o : Option (Text × List Text)) (a b : Kinds) → o ≡ None → (if is_some o then [] else or_else a b) ≡ [] → a ≡ []
turn_word None a b at e = (or_empty a b e).0
turn_word (Some p) a b at e = cc

walked_not : (s : Shape) (names : Names) (w : Walk) (word : Text) → s.disable_help_subcommand ≡ false → NotHelp w.stopped
    → turn_fault s names w word ≡ [] → NotHelp (walked s.rules names w word).stopped
unfolding walked
walked_not s names w word enabled before e = go w.stopped refl before
  where
    go : (o : Option (Text × List Text)) → w.stopped ≡ o → NotHelp o → NotHelp (walked_from s.rules names o w word).stopped
    go (Some p) at ok = ok
    go None at ok =
        let met = word_met s.rules names w.is_trailing w.waiting w.position word w.held in
        after_step_not s.rules word w met.0 met.1 before
        (word_not s names w.is_trailing w.waiting w.position word w.held enabled (turn_word w.stopped _ _ at e))

-- a walk with no fault does not stop at `help`
pub walk_not : (s : Shape) (names : Names) (w : Walk) (words : List Text) → s.disable_help_subcommand ≡ false → NotHelp w.stopped
    → walk_fault s names w words ≡ [] → NotHelp (fold (walked s.rules names) w words).stopped
unfolding walk_fault
walk_not s names w [] enabled ok e = ok
walk_not s names w (word ∷ rest) enabled ok e =
    let p = or_empty (turn_fault s names w word) _ e in
    walk_not s names (walked s.rules names w word) rest enabled (walked_not s names w word enabled ok p.0) p.1
