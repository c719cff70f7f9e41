-- The addresses of an option's choices do not matter to what a command makes of words.
use Rattle.std.proofs.Common.{◌≡◌, ◌∙◌, ◌+◌, ◌&&◌, ◌||◌, ◌++◌, ℕ, Bool, true, false, not, List, [], ◌∷◌, Option, Some, None, is_some, ap, ap₂, sym, refl}
use Rattle.std.specs.Prelude.{count_by, find, fold, if◌then◌else◌, map, option_map, unwrap_or}
use Rattle.std.specs.List.{list_all, list_any}
use Rattle.std.specs.Option.{option_map_or}
use Rattle.clap.specs.Faults.{built_fault, entered_fault, fault_of, has_free_rules, is_free_app, is_simple_and_free, level_fault}
use Rattle.clap.specs.Simple.{App, Shape, argument_words, built, built_above, built_leaf, entered, filled, filled_from, has_simple_rules, help_rule, help_shape, index_after, inherited, is_in_order, is_ready, is_ready_leaf, is_simple, is_simple_leaf, label_of, marked_built, names_of, on_top, parser_for, rows_at, subcommand_of, version_rule, with_action, with_built_subs, with_filled_rules, with_help_flag, with_help_subcommand, with_index, with_inherited, with_leaf_noted, with_subcommand, with_version_flag}
use Rattle.clap.specs.Takes.{built_takes, entered_passes, level_passes, takes}
use Rattle.clap.specs.Walk.{Names, Row, Rule, Text, Walk, action_of, answers_to, is_early_multiple, nothing_held, walk}
use Rattle.clap.specs.declared.builder.action.ArgAction.{ArgAction}
use Rattle.clap.specs.declared.builder.action.ArgAction.TheVariants.{Set, Append, SetTrue, SetFalse, Count, Help, HelpShort, HelpLong, Version}
use Rattle.clap.specs.declared.builder.value_parser.ValueParser.{ValueParser}
use Rattle.tcap_command_line.specs.CommandLine.{placeless, placeless_parser, placeless_rule, placeless_shape}
use Rattle.tcap_command_line.proofs.PlacelessFaults.{any_same, level_same as fault_same}
use Rattle.tcap_command_line.proofs.PlacelessTakes.{all_same, level_same as passes_same}
use Rattle.tcap_command_line.proofs.PlacelessWalk.{found, rows_same, walk_same}

-- ---- lists

map_twice : {X Y : Type 0} (f h : X → Y) (g : X → X) → ((x : X) → f (g x) ≡ h x) → (xs : List X)
    → map f (map g xs) ≡ map h xs
map_twice f h g same [] = refl
map_twice f h g same (x ∷ xs) = ap₂ (λ y ys. y ∷ ys) (same x) (map_twice f h g same xs)

map_over : {X : Type 0} (f g h : X → X) → ((x : X) → f (g x) ≡ g (h x)) → (xs : List X)
    → map f (map g xs) ≡ map g (map h xs)
map_over f g h same [] = refl
map_over f g h same (x ∷ xs) = ap₂ (λ y ys. y ∷ ys) (same x) (map_over f g h same xs)

map_more : {X : Type 0} (f : X → X) (xs : List X) (x : X) → f x ≡ x → map f xs ++ x ∷ [] ≡ map f (xs ++ x ∷ [])
map_more f [] x same = ap (λ y. y ∷ []) (sym same)
map_more f (y ∷ ys) x same = ap (λ zs. f y ∷ zs) (map_more f ys x same)

counted_same : {X : Type 0} (f : X → X) (test : X → Bool) → ((x : X) → test (f x) ≡ test x) → (xs : List X) (n : ℕ)
    → fold (λ m x. m + (if test x then 1 else 0)) n (map f xs) ≡ fold (λ m x. m + (if test x then 1 else 0)) n xs
counted_same f test same [] n = refl
counted_same {X} f test same (x ∷ xs) n =
    ap (λ (b : Bool). fold (λ (m : ℕ) (x : X). m + (if test x then 1 else 0)) (n + (if b then 1 else 0)) (map f xs))
    (same x)
    ∙ counted_same f test same xs (n + (if test x then 1 else 0))

-- ---- what building makes

parser_given : (o : Option ValueParser) (x : ArgAction)
    → unwrap_or (option_map placeless_parser o) (parser_for x) ≡ placeless_parser (unwrap_or o (parser_for x))
parser_given (Some p) x = refl
parser_given None Set = refl
parser_given None Append = refl
parser_given None SetTrue = refl
parser_given None SetFalse = refl
parser_given None Count = refl
parser_given None Help = refl
parser_given None HelpShort = refl
parser_given None HelpLong = refl
parser_given None Version = refl

filled_same : (a : Rule) → filled (placeless_rule a) ≡ placeless_rule (filled a)
filled_same a = ap (λ p. record (filled a) { parser = Some p }) (parser_given a.parser (action_of (with_action a)))

filled_from_same : (i : ℕ) (c : List Rule)
    → filled_from i (map placeless_rule c) ≡ map placeless_rule (filled_from i c)
filled_from_same i [] = refl
filled_from_same i (a ∷ rest) =
    ap₂ (λ (x : Rule) xs. x ∷ xs) (ap (with_index i) (filled_same a)) (filled_from_same (index_after i a) rest)

rules_filled : (s : Shape) → with_filled_rules (placeless_shape s) ≡ placeless_shape (with_filled_rules s)
rules_filled s = ap (λ rules. record s { rules = rules }) (filled_from_same 1 s.rules)

rule_added : (b : Bool) (c : List Rule) (a : Rule) → placeless_rule a ≡ a
    → (if b then map placeless_rule c else map placeless_rule c ++ a ∷ [])
    ≡ map placeless_rule (if b then c else c ++ a ∷ [])
rule_added true c a same = refl
rule_added false c a same = map_more placeless_rule c a same

help_added : (s : Shape) → with_help_flag (placeless_shape s) ≡ placeless_shape (with_help_flag s)
help_added s =
    ap (λ rules. record s { rules = rules }) (rule_added s.disable_help_flag s.rules help_rule refl)

version_added : (s : Shape) → with_version_flag (placeless_shape s) ≡ placeless_shape (with_version_flag s)
version_added s =
    ap (λ rules. record s { rules = rules })
    (rule_added (s.disable_version_flag || (not s.has_version && not s.has_long_version)) s.rules version_rule refl)

leaf_built : (s : Shape) → built_leaf (placeless_shape s) ≡ placeless_shape (built_leaf s)
leaf_built s =
    ap (λ (x : Shape). if s.is_built then placeless_shape s else x)
    (ap with_filled_rules (ap with_version_flag (help_added noted) ∙ version_added (with_help_flag noted))
    ∙ rules_filled (with_version_flag (with_help_flag noted)))
    ∙ go s.is_built
  where
    noted : Shape
    noted = with_leaf_noted (marked_built s)

    filled_in : Shape
    filled_in = with_filled_rules (with_version_flag (with_help_flag noted))

    go : (b : Bool) → (if b then placeless_shape s else placeless_shape filled_in)
        ≡ placeless_shape (if b then s else filled_in)
    go true = refl
    go false = refl

inherits : (a : App) → with_inherited (placeless a) ≡ placeless (with_inherited a)
inherits a =
    ap (λ (subs : List Shape). record { top = placeless_shape a.top; subs = subs })
    (map_over (inherited (placeless_shape a.top)) placeless_shape (inherited a.top) (λ s. refl) a.subs)

help_named : (a : App) → with_help_subcommand (placeless a) ≡ placeless (with_help_subcommand a)
help_named a =
    ap (λ (x : App). if a.top.disable_help_subcommand then placeless a else x)
    (ap (λ (subs : List Shape). record { top = placeless_shape (record a.top { is_leaf = false }); subs = subs })
    (map_more placeless_shape a.subs help_shape refl))
    ∙ go a.top.disable_help_subcommand
  where
    go : (b : Bool) → (if b then placeless a else placeless (with_subcommand a help_shape))
        ≡ placeless (if b then a else with_subcommand a help_shape)
    go true = refl
    go false = refl

topped : (f : Shape → Shape) → ((s : Shape) → f (placeless_shape s) ≡ placeless_shape (f s)) → (a : App)
    → on_top f (placeless a) ≡ placeless (on_top f a)
topped f same a = ap (λ (top : Shape). record { top = top; subs = map placeless_shape a.subs }) (same a.top)

above_built : (a : App) → built_above (placeless a) ≡ placeless (built_above a)
above_built a =
    let noted = on_top with_leaf_noted a in
    let given = with_inherited noted in
    let helped = on_top with_help_flag given in
    let numbered = on_top with_version_flag helped in
    ap (on_top with_filled_rules)
    (ap with_help_subcommand
    (ap (on_top with_version_flag)
    (ap (on_top with_help_flag) (inherits noted) ∙ topped with_help_flag help_added given)
    ∙ topped with_version_flag version_added helped)
    ∙ help_named numbered)
    ∙ topped with_filled_rules rules_filled (with_help_subcommand numbered)

pub built_same : (a : App) → built (placeless a) ≡ placeless (built a)
built_same a =
    ap (λ (x : App). if a.top.is_built then placeless a else x)
    (ap with_built_subs (above_built (on_top marked_built a)) ∙ subs_built (built_above (on_top marked_built a)))
    ∙ go a.top.is_built
  where
    subs_built : (b : App) → with_built_subs (placeless b) ≡ placeless (with_built_subs b)
    subs_built b =
        ap (λ (subs : List Shape). record { top = placeless_shape b.top; subs = subs })
        (map_over built_leaf placeless_shape built_leaf leaf_built b.subs)

    go : (b : Bool) → (if b then placeless a else placeless (with_built_subs (built_above (on_top marked_built a))))
        ≡ placeless (if b then a else with_built_subs (built_above (on_top marked_built a)))
    go true = refl
    go false = refl

-- ---- simple commands

rules_simple : (s : Shape) → has_simple_rules (placeless_shape s) ≡ has_simple_rules s
rules_simple s = ap (λ b. s.is_plain && b) (all_same placeless_rule (λ a. a.is_simple) (λ a. refl) s.rules)

in_order : (c : List Rule) → is_in_order (map placeless_rule c) ≡ is_in_order c
in_order c =
    ap (λ n. not (list_any (is_early_multiple n) (map placeless_rule c)))
    (counted_same placeless_rule (λ (a : Rule). is_some a.index) (λ a. refl) c 0)
    ∙ ap not (any_same placeless_rule (is_early_multiple (count_by (λ (a : Rule). is_some a.index) c)) (λ a. refl) c)

ready : (s : Shape) → is_ready (placeless_shape s) ≡ is_ready s
ready s = ap₂ (λ b d. b && d) (rules_simple s) (in_order s.rules)

pub simple_same : (a : App) → is_simple (placeless a) ≡ is_simple a
simple_same a =
    ap₂ (λ b d. b && d)
    (ap₂ (λ b d. b && d) (rules_simple a.top)
    (all_same placeless_shape is_simple_leaf (λ s. ap (λ b. s.is_leaf && b) (rules_simple s)) a.subs))
    (ap (λ (b : App). is_ready b.top && list_all is_ready_leaf b.subs) (built_same a)
    ∙ ap₂ (λ b d. b && d) (ready (built a).top)
    (all_same placeless_shape is_ready_leaf (λ s. ap (λ b. s.is_leaf && b) (ready s)) (built a).subs))

rules_free : (s : Shape) → has_free_rules (placeless_shape s) ≡ has_free_rules s
rules_free s = all_same placeless_rule (λ a. a.is_free) (λ a. refl) s.rules

free_same : (a : App) → is_free_app (placeless a) ≡ is_free_app a
free_same a = ap₂ (λ b d. b && d) (rules_free a.top) (all_same placeless_shape has_free_rules rules_free a.subs)

pub simple_and_free_same : (a : App) → is_simple_and_free (placeless a) ≡ is_simple_and_free a
simple_and_free_same a = ap₂ (λ b d. b && d) (simple_same a) (ap is_free_app (built_same a) ∙ free_same (built a))

-- ---- a command and its subcommands

names_same : (a : App) → names_of (placeless a) ≡ names_of a
names_same a = map_twice label_of label_of placeless_shape (λ s. refl) a.subs

named : (name : Text) (subs : List Shape)
    → find (λ s. answers_to name (label_of s)) (map placeless_shape subs)
    ≡ option_map placeless_shape (find (λ s. answers_to name (label_of s)) subs)
named name subs = found placeless_shape (λ s. answers_to name (label_of s)) (λ s. refl) subs

entered_same : (a : App) (stop : Option (Text × List Text)) → entered (placeless a) stop ≡ entered a stop
entered_same a None = refl
entered_same a (Some p) =
    ap (option_map (λ s. rows_at s p.1)) (named p.0 a.subs) ∙ go (find (λ s. answers_to p.0 (label_of s)) a.subs)
  where
    go : (o : Option Shape)
        → option_map (λ s. rows_at s p.1) (option_map placeless_shape o) ≡ option_map (λ s. rows_at s p.1) o
    go None = refl
    go (Some s) = ap (λ (rows : List Row). Some (s.name, rows)) (rows_same s.rules [] p.1)

entered_passes_same : (a : App) (stop : Option (Text × List Text))
    → entered_passes (placeless a) stop ≡ entered_passes a stop
entered_passes_same a None = refl
entered_passes_same a (Some p) =
    ap (λ o. option_map_or (λ s. level_passes s [] nothing_held p.1 false) o true) (named p.0 a.subs)
    ∙ go (find (λ s. answers_to p.0 (label_of s)) a.subs)
  where
    go : (o : Option Shape)
        → option_map_or (λ s. level_passes s [] nothing_held p.1 false) (option_map placeless_shape o) true
        ≡ option_map_or (λ s. level_passes s [] nothing_held p.1 false) o true
    go None = refl
    go (Some s) = passes_same s [] nothing_held p.1 false

entered_fault_same : (a : App) (stop : Option (Text × List Text))
    → entered_fault (placeless a) stop ≡ entered_fault a stop
entered_fault_same a None = refl
entered_fault_same a (Some p) =
    ap (λ o. option_map_or (λ s. level_fault s [] nothing_held p.1 false []) o []) (named p.0 a.subs)
    ∙ go (find (λ s. answers_to p.0 (label_of s)) a.subs)
  where
    go : (o : Option Shape)
        → option_map_or (λ s. level_fault s [] nothing_held p.1 false []) (option_map placeless_shape o) []
        ≡ option_map_or (λ s. level_fault s [] nothing_held p.1 false []) o []
    go None = refl
    go (Some s) = fault_same s [] nothing_held p.1 false []

-- the walk of the command stops at the same subcommand
stop_same : (a : App) (words : List Text)
    → (walk (placeless a).top.rules (names_of (placeless a)) nothing_held words).stopped
    ≡ (walk a.top.rules (names_of a) nothing_held words).stopped
stop_same a words =
    ap (λ (names : Names). (walk (placeless a).top.rules names nothing_held words).stopped) (names_same a)
    ∙ ap (λ (w : Walk). w.stopped) (walk_same a.top.rules (names_of a) nothing_held words)

built_takes_same : (a : App) (words : List Text)
    → built_takes (placeless a) nothing_held words ≡ built_takes a nothing_held words
built_takes_same a words =
    let other = (walk (placeless a).top.rules (names_of (placeless a)) nothing_held words).stopped in
    let stop = (walk a.top.rules (names_of a) nothing_held words).stopped in
    ap₂ (λ b d. b && d) (ap (entered_passes (placeless a)) (stop_same a words) ∙ entered_passes_same a stop)
    (ap (λ (names : Names). level_passes (placeless a).top names nothing_held words
    (is_some (entered (placeless a) other)))
    (names_same a)
    ∙ ap (λ o. level_passes (placeless a).top (names_of a) nothing_held words (is_some o))
    (ap (entered (placeless a)) (stop_same a words) ∙ entered_same a stop)
    ∙ passes_same a.top (names_of a) nothing_held words (is_some (entered a stop)))

built_fault_same : (a : App) (words : List Text)
    → built_fault (placeless a) nothing_held words ≡ built_fault a nothing_held words
built_fault_same a words =
    let other = (walk (placeless a).top.rules (names_of (placeless a)) nothing_held words).stopped in
    let stop = (walk a.top.rules (names_of a) nothing_held words).stopped in
    ap (λ (names : Names). level_fault (placeless a).top names nothing_held words
    (is_some (entered (placeless a) other))
    (entered_fault (placeless a) other)) (names_same a)
    ∙ ap₂ (λ o k. level_fault (placeless a).top (names_of a) nothing_held words (is_some o) k)
    (ap (entered (placeless a)) (stop_same a words) ∙ entered_same a stop)
    (ap (entered_fault (placeless a)) (stop_same a words) ∙ entered_fault_same a stop)
    ∙ fault_same a.top (names_of a) nothing_held words (is_some (entered a stop)) (entered_fault a stop)

-- ---- the result of words

pub takes_same : (a : App) (words : List Text) → takes (placeless a) words ≡ takes a words
takes_same a words =
    ap₂ (λ b d. b && d) (simple_same a)
    (ap (λ (b : App). built_takes b nothing_held (argument_words a words)) (built_same a)
    ∙ built_takes_same (built a) (argument_words a words))

pub fault_of_same : (a : App) (words : List Text) → fault_of (placeless a) words ≡ fault_of a words
fault_of_same a words =
    ap (λ (b : App). built_fault b nothing_held (argument_words a words)) (built_same a)
    ∙ built_fault_same (built a) (argument_words a words)

pub subcommand_same : (a : App) (words : List Text) → subcommand_of (placeless a) words ≡ subcommand_of a words
subcommand_same a words =
    let args = argument_words a words in
    ap (λ (b : App). entered b (walk b.top.rules (names_of b) nothing_held args).stopped) (built_same a)
    ∙ ap (entered (placeless (built a))) (stop_same (built a) args)
    ∙ entered_same (built a) (walk (built a).top.rules (names_of (built a)) nothing_held args).stopped
