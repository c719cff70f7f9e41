-- The stacks of numbers, and which lines are untied.
use Rattle.std.proofs.Common.{◌≡◌, ℕ, ◌+◌, Bool, true, false, cond, List, [], ◌∷◌, ◌++◌, length, reverse, Option, Some, None, Vec, refl, sym, ap, ◌∙◌, arith, ◌<◌, ◌≤◌, ◌==◌, ◌&&◌, ◌||◌, not, map}
use Rattle.std.specs.Prelude.{MatchOption, filter, option_map}
use Rattle.std.specs.BTreeMap.{is_at}
use Rattle.std.specs.Map.{lookup}
use Rattle.std.specs.Option.{option_to_list}
use Rattle.std.specs.Str.{bytes_eq}
use Rattle.std.proofs.lemmas.List.{append-nil, length-reverse, reverse-append}
use Rattle.std.proofs.lemmas.Slice.Eq.{bytes_eq-Decides}
use Rattle.tcap_end.specs.Table.{octets_cmp}
use Rattle.tcap_search.specs.Candidates.{is_top, numbers_of, stack_in, under_top, without, top}
use Rattle.tcap_search.proofs.TestLaws.{same_id}
use Rattle.tcap_search.proofs.LineLaws.{reverse_push, last_push}
use Rattle.std.specs.List.{AllByRecursion, list_any}
use Rattle.std.proofs.lemmas.Bool.{and_right, eq-eqb, ne_eqb, or_parts}
use Rattle.tcap_record.specs.declared.entry.Entry.{Entry}
use Rattle.tcap_search.specs.declared.tie.Tie.{Tie}
use Rattle.tcap_search.specs.SegmentEntries.{Line, last, line_after, lines_after, lines_of, message_of}
use Rattle.tcap_search.specs.ProposedCertificate.{is_tied, is_provider_abort, ties_from, with_tie_by}
use Rattle.std.proofs.lemmas.List.Folds.{list_any-append}
use Rattle.tcap_msg.specs.declared.message.AbortReason.TheVariants as reasons
use Rattle.tcap_msg.specs.declared.message.Message.{Message}
use Rattle.tcap_msg.specs.declared.message.Message.TheVariants.{Unidirectional, Begin, Continue, End, Abort}
use Rattle.tcap_search.specs.ProviderAborts.{aborts_by_provider}
use Rattle.tcap_search.specs.SegmentLists.{AreTies}
use Rattle.tcap_search.proofs.UnansweredLaws.{any_line}

-- ---- one map

-- A stack put at an ID changes no other.
pub put_stack : {A : Type 0} (step : List ℕ → List ℕ) (id : List ℕ) (old new : List (List ℕ × Vec ℕ A))
    (stack : Vec ℕ A)
    → ((key : List ℕ) → lookup (is_at (octets_cmp key)) new
    ≡ cond (is_at (octets_cmp id) key) (Some stack) (lookup (is_at (octets_cmp key)) old))
    → reverse stack.items ≡ step (stack_in id old)
    → (key : List ℕ) → stack_in key new ≡ cond (bytes_eq key id) (step (stack_in key old)) (stack_in key old)
put_stack {A} step id old new stack put is key =
    ap numbers_of (put key ∙ ap (λ (b : Bool). cond b (Some stack) (lookup (is_at (octets_cmp key)) old))
    (same_id id key))
    ∙ by (bytes_eq key id) refl
  where
    by : (b : Bool) → bytes_eq key id ≡ b
        → numbers_of (cond b (Some stack) (lookup (is_at (octets_cmp key)) old))
        ≡ cond b (step (stack_in key old)) (stack_in key old)
    by true same = let one : key ≡ id = (bytes_eq-Decides key id).0 same in rw one is
    by false apart = refl

-- A step that changes nothing at an ID needs no change.
pub same_stack : {A : Type 0} (step : List ℕ → List ℕ) (id : List ℕ) (old new : List (List ℕ × Vec ℕ A)) → new ≡ old
    → stack_in id old ≡ step (stack_in id old)
    → (key : List ℕ) → stack_in key new ≡ cond (bytes_eq key id) (step (stack_in key old)) (stack_in key old)
same_stack {A} step id old new same is key =
    ap (λ (es : List (List ℕ × Vec ℕ A)). stack_in key es) same ∙ by (bytes_eq key id) refl
  where
    by : (b : Bool) → bytes_eq key id ≡ b → stack_in key old ≡ cond b (step (stack_in key old)) (stack_in key old)
    by true found = let one : key ≡ id = (bytes_eq-Decides key id).0 found in rw one is
    by false apart = refl

-- ---- one stack

-- one more number
pub pushed : {A : Type 0} (number : ℕ) (o : Option (Vec ℕ A)) (old new : Vec ℕ A) → Some old ≡ o
    → new.items ≡ old.items ++ number ∷ [] → reverse new.items ≡ number ∷ numbers_of o
pushed {A} number o old new is more =
    ap (reverse {A = ℕ}) more
    ∙ (reverse_push old.items number ∙ ap (λ (v : Option (Vec ℕ A)). number ∷ numbers_of v) is)

pub pushed_first : {A : Type 0} (number : ℕ) (o : Option (Vec ℕ A)) (items left : List ℕ) → None ≡ o → items ≡ []
    → left ≡ items ++ number ∷ [] → reverse left ≡ number ∷ numbers_of o
pushed_first {A} number o items left is empty more =
    ap (reverse {A = ℕ}) (more ∙ ap (λ (ns : List ℕ). ns ++ number ∷ []) empty)
    ∙ ap (λ (v : Option (Vec ℕ A)). number ∷ numbers_of v) is

-- one number less
pub popped : (items left : List ℕ) (number : Option ℕ) (count left_count : ℕ) → count ≡ length items
    → items ≡ left ++ option_to_list number
    → MatchOption number ((count ≡ 0) × (left_count ≡ 0)) (λ n. left_count + 1 ≡ count)
    → reverse left ≡ under_top (reverse items)
popped items left (Some n) count left_count counted is some =
    sym (ap (λ (ns : List ℕ). under_top (reverse ns)) is ∙ ap under_top (reverse_push left n))
popped [] left None count left_count counted is none =
    let same : left ≡ [] = sym (is ∙ append-nil left) in ap (reverse {A = ℕ}) same
popped (x ∷ items) left None count left_count counted is none = absurd (omega arith)

-- one number less if it is on top, else the same
pub taken_off : (number : ℕ) (stack : List ℕ) → is_top number stack ≡ true → under_top stack ≡ without number stack
taken_off number stack is = sym (ap (λ (b : Bool). cond b (under_top stack) stack) is)

pub left_on : (number : ℕ) (stack : List ℕ) → is_top number stack ≡ false → stack ≡ without number stack
left_on number stack is = sym (ap (λ (b : Bool). cond b (under_top stack) stack) is)

-- ---- the numbers of lines, newest first, fall to 0

abbrev pub Falls : List Line → Type 0
Falls [] = Unit {0}
Falls (x ∷ lines) = (x.number ≡ length lines) × Falls lines

falls_behind : (earlier : List Line) (es : List Entry) → Falls (reverse earlier)
    → Falls (reverse (lines_after earlier es))
falls_behind earlier [] falls = falls
falls_behind earlier (e ∷ es) falls =
    falls_behind (earlier ++ line_after earlier e ∷ []) es
    (rw (reverse_push earlier (line_after earlier e)) (sym (length-reverse earlier), falls))

pub falls_of : (es : List Entry) → Falls (reverse (lines_of es))
falls_of es = falls_behind [] es tt

-- Each number is below the count.
abbrev pub AreBelow : ℕ → List Line → Type 0
AreBelow count lines = AllByRecursion (λ x. x.number < count) lines

pub are_below : (count : ℕ) (lines : List Line) → Falls lines → length lines ≤ count → AreBelow count lines
are_below count [] falls within = tt
are_below count (x ∷ lines) falls within = (omega arith, are_below count lines falls.1 (omega arith))

-- ---- the first of a list

abbrev pub first_of : {A : Type 0} → List A → Option A
first_of [] = None
first_of (x ∷ xs) = Some x

pub last_reversed : {A : Type 0} (passes : A → Bool) (xs : List A)
    → last passes (reverse xs) ≡ first_of (filter passes xs)
last_reversed passes [] = refl
last_reversed {A} passes (x ∷ xs) =
    ap (last passes) (reverse-append (x ∷ []) xs)
    ∙ (last_push passes (reverse xs) x
    ∙ (ap (λ (o : Option A). cond (passes x) (Some x) o) (last_reversed passes xs) ∙ by (passes x)))
  where
    by : (b : Bool) → cond b (Some x) (first_of (filter passes xs))
        ≡ first_of (cond b (x ∷ filter passes xs) (filter passes xs))
    by true = refl
    by false = refl

pub top_of : (lines : List Line) → top (map (λ x. x.number) lines) ≡ option_map (λ x. x.number) (first_of lines)
top_of [] = refl
top_of (x ∷ lines) = refl

-- The first that passes passes the test.
pub first_passes : {A : Type 0} (passes : A → Bool) (xs : List A) (y : A) (rest : List A)
    → filter passes xs ≡ y ∷ rest → passes y ≡ true
first_passes passes [] y rest is = cc
first_passes {A} passes (x ∷ xs) y rest is = by (passes x) refl (first_passes passes xs y rest) is
  where
    by : (b : Bool) → passes x ≡ b → (filter passes xs ≡ y ∷ rest → passes y ≡ true)
        → cond b (x ∷ filter passes xs) (filter passes xs) ≡ y ∷ rest → passes y ≡ true
    by true so more is = let same : x ≡ y = cc in rw (← same) so
    by false so more is = more is

-- A property of all lines holds for it.
pub first_holds : {A : Type 0} (P : A → Type 0) (passes : A → Bool) (xs : List A) (y : A) (rest : List A)
    → AllByRecursion P xs → filter passes xs ≡ y ∷ rest → P y
first_holds P passes [] y rest all is = cc
first_holds {A} P passes (x ∷ xs) y rest all is = by (passes x) (first_holds P passes xs y rest all.1) is
  where
    by : (b : Bool) → (filter passes xs ≡ y ∷ rest → P y) → cond b (x ∷ filter passes xs) (filter passes xs) ≡ y ∷ rest
        → P y
    by true more is = let same : x ≡ y = cc in rw (← same) all.0
    by false more is = more is

-- ---- one more tie

-- whether a line passes and is untied
abbrev pub is_left : (Line → Bool) → List Tie → Line → Bool
is_left passes ties x = passes x && not (is_tied ties x)

abbrev pub left : (Line → Bool) → List Tie → List Line → List Line
left passes ties lines = filter (is_left passes ties) lines

same_left : (a b : Bool) (x : Line) (xs ys : List Line) → a ≡ b → xs ≡ ys → cond a (x ∷ xs) xs ≡ cond b (x ∷ ys) ys
same_left a b x xs ys is are = cc

module _ (t : Tie) (ties : List Tie) where
  not_its : (passes : Line → Bool) (x : Line) → (t.entry ≡ x.number → ⊥)
      → is_left passes (t ∷ ties) x ≡ is_left passes ties x
  not_its passes x apart = ap (λ (b : Bool). passes x && not (b || is_tied ties x)) (ne_eqb t.entry x.number apart)

  its_own : (passes : Line → Bool) (x : Line) → t.entry ≡ x.number → is_left passes (t ∷ ties) x ≡ false
  its_own passes x is =
      ap (λ (b : Bool). passes x && not (b || is_tied ties x)) (eq-eqb t.entry x.number is)
      ∙ and_right (passes x) false refl

  -- The tie changes nothing below its number.
  left_below : (passes : Line → Bool) (lines : List Line) → AreBelow t.entry lines
      → left passes (t ∷ ties) lines ≡ left passes ties lines
  left_below passes [] below = refl
  left_below passes (x ∷ lines) below =
      same_left (is_left passes (t ∷ ties) x) (is_left passes ties x) x (left passes (t ∷ ties) lines)
      (left passes ties lines)
      (not_its passes x (λ same. omega arith)) (left_below passes lines below.1)

  below_own : (x : Line) (lines : List Line) → Falls (x ∷ lines) → t.entry ≡ x.number → AreBelow t.entry lines
  below_own x lines falls is = are_below t.entry lines falls.1 (omega arith)

  -- If the first line left is tied, the others are left.
  pub left_popped : (passes : Line → Bool) (lines : List Line) (y : Line) (rest : List Line) → Falls lines
      → left passes ties lines ≡ y ∷ rest → t.entry ≡ y.number → left passes (t ∷ ties) lines ≡ rest
  left_popped passes [] y rest falls is its = cc
  left_popped passes (x ∷ lines) y rest falls is its =
      by (is_left passes ties x) refl (left_popped passes lines y rest falls.1) is
    where
      dropped : is_left passes ties x ≡ false → is_left passes (t ∷ ties) x ≡ false
      dropped not_left = gone (passes x) (t.entry == x.number) (is_tied ties x) not_left
        where
          gone : (p own tied : Bool) → (p && not tied) ≡ false → (p && not (own || tied)) ≡ false
          gone false own tied is = refl
          gone true true tied is = refl
          gone true false tied is = is

      by : (b : Bool) → is_left passes ties x ≡ b
          → (left passes ties lines ≡ y ∷ rest → t.entry ≡ y.number → left passes (t ∷ ties) lines ≡ rest)
          → cond b (x ∷ left passes ties lines) (left passes ties lines) ≡ y ∷ rest
          → cond (is_left passes (t ∷ ties) x) (x ∷ left passes (t ∷ ties) lines) (left passes (t ∷ ties) lines) ≡ rest
      by true so more is =
          let same : x ≡ y = cc in
          let others : left passes ties lines ≡ rest = cc in
          let own : t.entry ≡ x.number = its ∙ ap (λ (z : Line). z.number) (sym same) in
          ap (λ (b : Bool). cond b (x ∷ left passes (t ∷ ties) lines) (left passes (t ∷ ties) lines))
          (its_own passes x own)
          ∙ (left_below passes lines (below_own x lines falls own) ∙ others)
      by false so more is =
          ap (λ (b : Bool). cond b (x ∷ left passes (t ∷ ties) lines) (left passes (t ∷ ties) lines)) (dropped so)
          ∙ more is its

  -- A test that fails at this line leaves the same.
  pub left_others : (asked passes : Line → Bool) (lines : List Line) (y : Line) (rest : List Line) → Falls lines
      → left asked ties lines ≡ y ∷ rest → t.entry ≡ y.number → passes y ≡ false
      → left passes (t ∷ ties) lines ≡ left passes ties lines
  left_others asked passes [] y rest falls is its fails = refl
  left_others asked passes (x ∷ lines) y rest falls is its fails =
      by (is_left asked ties x) (λ found. left_others asked passes lines y rest falls.1 found its fails) is
    where
      by : (b : Bool) → (left asked ties lines ≡ y ∷ rest → left passes (t ∷ ties) lines ≡ left passes ties lines)
          → cond b (x ∷ left asked ties lines) (left asked ties lines) ≡ y ∷ rest
          → cond (is_left passes (t ∷ ties) x) (x ∷ left passes (t ∷ ties) lines) (left passes (t ∷ ties) lines)
          ≡ cond (is_left passes ties x) (x ∷ left passes ties lines) (left passes ties lines)
      by true more is =
          let same : x ≡ y = cc in
          let own : t.entry ≡ x.number = its ∙ ap (λ (z : Line). z.number) (sym same) in
          let here : passes x ≡ false = ap passes same ∙ fails in
          same_left (is_left passes (t ∷ ties) x) (is_left passes ties x) x (left passes (t ∷ ties) lines)
          (left passes ties lines)
          (its_own passes x own ∙ sym (ap (λ (b : Bool). b && not (is_tied ties x)) here))
          (left_below passes lines (below_own x lines falls own))
      by false more is =
          let under : y.number < length lines =
          first_holds (λ (z : Line). z.number < length lines) (is_left asked ties) lines y rest
          (are_below (length lines) lines falls.1 (omega arith)) is in
          same_left (is_left passes (t ∷ ties) x) (is_left passes ties x) x (left passes (t ∷ ties) lines)
          (left passes ties lines)
          (not_its passes x (λ same. let at : x.number ≡ length lines = falls.0 in omega arith)) (more is)

-- ---- no provider's Abort

none_reversed : {A : Type 0} (test : A → Bool) (xs : List A) → list_any test xs ≡ false
    → list_any test (reverse xs) ≡ false
none_reversed test [] none = refl
none_reversed test (x ∷ xs) none =
    let (here, later) = or_parts (test x) (list_any test xs) none in
    ap (list_any test) (reverse-append (x ∷ []) xs)
    ∙ list_any-append test (reverse xs) (x ∷ [])
    ∙ rw (none_reversed test xs later, here) refl

ties_nothing : (earlier : List Line) (ties : List Tie) (x : Line) (message : Option Message)
    → is_provider_abort message ≡ false → with_tie_by earlier ties x message ≡ ties
ties_nothing earlier ties x None none = refl
ties_nothing earlier ties x (Some (Unidirectional dialogue components)) none = refl
ties_nothing earlier ties x (Some (Begin otid dialogue components)) none = refl
ties_nothing earlier ties x (Some (Continue otid dtid dialogue components)) none = refl
ties_nothing earlier ties x (Some (End dtid dialogue components)) none = refl
ties_nothing earlier ties x (Some (Abort dtid None)) none = refl
ties_nothing earlier ties x (Some (Abort dtid (Some (reasons.Cause cause)))) none = cc
ties_nothing earlier ties x (Some (Abort dtid (Some (reasons.Dialogue dialogue)))) none = refl

none_tied : (lines : List Line) (ties : List Tie) → list_any (λ x. aborts_by_provider x.entry) lines ≡ false
    → ties_from lines ties ≡ ties
none_tied [] ties none = refl
none_tied (x ∷ earlier) ties none =
    let (here, later) = or_parts (aborts_by_provider x.entry) (list_any (λ y. aborts_by_provider y.entry) earlier) none
    in
    ap (ties_from earlier) (ties_nothing (reverse earlier) ties x (message_of x.entry) here)
    ∙ none_tied earlier ties later

pub no_ties : (entries : List Entry) → list_any aborts_by_provider entries ≡ false → AreTies entries []
no_ties entries none =
    sym (none_tied (reverse (lines_of entries)) []
    (none_reversed (λ x. aborts_by_provider x.entry) (lines_of entries) (any_line aborts_by_provider entries ∙ none)))
