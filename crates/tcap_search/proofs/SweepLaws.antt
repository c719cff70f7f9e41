-- What a sweep keeps, component by component, gap by gap and entry by entry.
use Rattle.std.proofs.Common.{◌≡◌, ℕ, ℤ, ◌+◌, ◌<◌, ◌≤◌, ◌==◌, Bool, true, false, cond, List, ◌∷◌, length, drop, get_or, Option, Some, None, refl, sym, ap, ◌∙◌, suc, [], ◌++◌, map, take, arith, zero, Vec, ap₂}
use Rattle.std.specs.Option.{option_or}
use Rattle.std.specs.Prelude.{◌&&◌, nat_le, option_map, ◌||◌, is_some, nat_lt, slice_get}
use Rattle.std.proofs.lemmas.List.{at_drop_more, drop_all}
use Rattle.tcap_parts.specs.declared.component.Component.{Component}
use Rattle.tcap_record.specs.declared.entry.End.{End as Side}
use Rattle.tcap_record.specs.declared.entry.Entry.{Entry}
use Rattle.tcap_model.specs.World.{is_side}
use Rattle.tcap_model.specs.Run.{only_if}
use Rattle.tcap_search.specs.SegmentEntries.{message_of, Line, are_of_one_end}
use Rattle.tcap_search.specs.ProposedCertificate.{is_invoke_of, last_invoke, may_invoke, number_limit, Fated, components_at, invocation_at, is_answer_of, is_expiry_of, with_expiry}
use Rattle.tcap_search.specs.Fates.{is_of, is_line_of}
use Rattle.tcap_search.specs.Sweep.{components_of, invoked_by, answer_at, answers, answers_at, invoked_in, last_given, message_components}
use Rattle.tcap_search.proofs.TestLaws.{and_swap, and_false, and_true, then_equal}
use Rattle.std.specs.List.{AllByRecursion, list_any}
use Rattle.std.proofs.lemmas.Bool.{and_parts, eqb-true, le-ltb, lt-ltb}
use Rattle.std.proofs.lemmas.Bool.Decides.{nat_tests}
use Rattle.std.proofs.lemmas.Option.{slice_get-map}
use Rattle.tcap_msg.specs.declared.message.Message.{Message}
use Rattle.tcap_record.specs.declared.entry.End.TheVariants as sides
use Rattle.tcap_record.specs.Ends.{other, is_entry_of}
use Rattle.tcap_certificate.specs.declared.certificate.Fate.{Fate}
use Rattle.tcap_certificate.specs.declared.certificate.Fate.TheVariants.{Gap, Lost, By}
use Rattle.tcap_search.specs.GapDeliveries.{due_at}
use Rattle.tcap_certificate.specs.Replay.{due_in, is_gap}
use Rattle.tcap_search.specs.declared.sweep.Answer.{Answer}
use Rattle.tcap_search.specs.DeliveryOrder.{AreInOrder, ComesNoEarlier}
use Rattle.tcap_search.proofs.LatestLaws.{given_more}
use Rattle.std.specs.BTreeMap.{is_at}
use Rattle.std.specs.Ordering.{is_eq, nat_cmp}
use Rattle.std.proofs.lemmas.List.Folds.{list_any-append}
use Rattle.tcap_certificate.specs.declared.certificate.Expiry.{Expiry}
use Rattle.tcap_search.specs.ListedExpiries.{pair_cmp}

-- The last Invoke is that after the first component, or else the first.
pub first_invoke : (id : ℤ) (place : ℕ) (c : Component) (more : List Component)
    → last_invoke id place (c ∷ more)
    ≡ option_or (last_invoke id (place + 1) more) (only_if (is_invoke_of id c && nat_le place number_limit) (Some place))
first_invoke id place c more = by (last_invoke id (place + 1) more) refl
  where
    by : (o : Option ℕ) → last_invoke id (place + 1) more ≡ o
        → last_invoke id place (c ∷ more)
        ≡ option_or o (only_if (is_invoke_of id c && nat_le place number_limit) (Some place))
    by None at = rw at refl
    by (Some later) at = rw at refl

-- the Invoke kept after these components
abbrev pub kept_behind : Bool → ℕ → Option ℕ → Option (ℕ × ℕ) → Option (ℕ × ℕ)
kept_behind here number invoked kept = option_or (only_if here (option_map (λ place. (number, place)) invoked)) kept

-- one more component
pub invoke_step : (here : Bool) (number : ℕ) (id : ℤ) (components : List Component) (place : ℕ) (d : Component)
    (kept : Option (ℕ × ℕ)) → place < length components → d ≡ get_or components place d
    → kept_behind here number (last_invoke id (place + 1) (drop (place + 1) components))
    (cond (here && (is_invoke_of id d && nat_le place number_limit)) (Some (number, place)) kept)
    ≡ kept_behind here number (last_invoke id place (drop place components)) kept
invoke_step here number id components place d kept within is =
    by here (last_invoke id (place + 1) (drop (place + 1) components)) (is_invoke_of id d && nat_le place number_limit)
    ∙ ap (λ (o : Option ℕ). kept_behind here number o kept) (sym first)
  where
    first : last_invoke id place (drop place components)
        ≡ option_or (last_invoke id (place + 1) (drop (place + 1) components))
        (only_if (is_invoke_of id d && nat_le place number_limit) (Some place))
    first = at_drop_more (last_invoke id place) components place d within
        ∙ ap (λ (c : Component). last_invoke id place (c ∷ drop (place + 1) components)) (sym is)
        ∙ first_invoke id place d (drop (place + 1) components)

    by : (b : Bool) (o : Option ℕ) (c : Bool) → kept_behind b number o (cond (b && c) (Some (number, place)) kept)
        ≡ kept_behind b number (option_or o (only_if c (Some place))) kept
    by false o c = refl
    by true (Some later) c = refl
    by true None true = refl
    by true None false = refl

-- After the last component nothing is left.
pub invoke_end : (here : Bool) (number : ℕ) (id : ℤ) (components : List Component) (place : ℕ) (kept : Option (ℕ × ℕ))
    → length components ≤ place → kept ≡ kept_behind here number (last_invoke id place (drop place components)) kept
invoke_end here number id components place kept past =
    by here ∙ ap (λ (cs : List Component). kept_behind here number (last_invoke id place cs) kept)
    (sym (drop_all place components past))
  where
    by : (b : Bool) → kept ≡ kept_behind b number None kept
    by true = refl
    by false = refl

-- the Invoke kept after the components of a Begin or a Continue
pub entry_step : (e : Entry) (number : ℕ) (side s : Side) (transaction t : ℕ) (id : ℤ) (kept : Option (ℕ × ℕ))
    → e.side ≡ Some side → may_invoke (message_of e) ≡ true
    → kept_behind (t == transaction && is_side s side) number (last_invoke id 0 (components_of e)) kept
    ≡ option_or (only_if (is_of s t e (Some transaction)) (invoked_by number e id)) kept
entry_step e number side s transaction t id kept is may =
    rw (is, may) (ap (λ (b : Bool). kept_behind b number (last_invoke id 0 (components_of e)) kept)
    (and_swap (t == transaction) (is_side s side)))

-- ---- components

pub components_are : (x : Line) → components_at x ≡ components_of x.entry
components_are x = by (message_of x.entry) refl
  where
    by : (m : Option Message) → message_of x.entry ≡ m → components_at x ≡ message_components m
    by None at = rw at refl
    by (Some m) at = rw at refl

-- ---- invocations, with one more entry

pub invocation_is : (id : ℤ) (x : Line) → invocation_at id x ≡ invoked_by x.number x.entry id
invocation_is id x = rw (components_are x) refl

pub invoked_more : (lines : List Line) (x : Line) (t : ℕ) (s : Side) (id : ℤ)
    → invoked_in (lines ++ x ∷ []) t s id
    ≡ option_or (only_if (is_line_of s t x) (invoked_by x.number x.entry id)) (invoked_in lines t s id)
invoked_more lines x t s id =
    given_more (λ y. only_if (is_line_of s t y) (invocation_at id y)) lines x
    ∙ ap (λ (o : Option (ℕ × ℕ)). option_or (only_if (is_line_of s t x) o) (invoked_in lines t s id))
    (invocation_is id x)

-- ---- answers, with one more gap

abbrev pub is_in_gap_below : ℕ → Fate → Bool
is_in_gap_below limit (Gap g) = nat_lt g limit
is_in_gap_below limit _ = false

-- the answer delivered with a fate
abbrev pub answer_with : List Line → ℕ → Side → ℤ → Fate → Option Answer
answer_with lines t s id (Gap gap) = Some (answer_at gap (invoked_in (take gap lines) t s id))
answer_with lines t s id _ = None

abbrev pub is_answering : Bool → ℕ → Side → ℤ → Fated → Bool
is_answering is_result t s id y = answers is_result t s id y.line.entry y.line.transaction

-- the last answer delivered in a gap below a limit
abbrev pub answered_in : List Line → List Fated → ℕ → Bool → ℕ → Side → ℤ → Option Answer
answered_in lines all limit is_result t s id =
    last_given (λ y. only_if (is_in_gap_below limit y.fate && is_answering is_result t s id y)
    (answer_with lines t s id y.fate)) all

-- An answer is a component of a message, and all answers to an end are from its peer.
any_message : (test : Component → Bool) (m : Option Message) → list_any test (message_components m) ≡ true
    → is_some m ≡ true
any_message test None any = absurd (cc)
any_message test (Some m) any = refl

of_one_end : (e f : Entry) (s : Side) → is_entry_of s e.side ≡ true → is_entry_of s f.side ≡ true → are_of_one_end e f ≡ true
of_one_end e f s one two = by e.side refl one
  where
    same : (r : Side) → is_side s r ≡ true → is_entry_of r f.side ≡ true
    same r is = by s r is two
      where
        by : (s r : Side) → is_side s r ≡ true → is_entry_of s f.side ≡ true → is_entry_of r f.side ≡ true
        by sides.A sides.A is two = two
        by sides.B sides.B is two = two
        by sides.A sides.B is two = absurd (cc)
        by sides.B sides.A is two = absurd (cc)

    by : (o : Option Side) → e.side ≡ o → is_entry_of s o ≡ true → are_of_one_end e f ≡ true
    by None at is = absurd (cc)
    by (Some r) at is = rw at (same r is)

is_of_end : (s : Side) (t : ℕ) (e : Entry) (o : Option ℕ) → is_of s t e o ≡ true → is_entry_of s e.side ≡ true
is_of_end s t e None is = absurd (cc)
is_of_end s t e (Some u) is = (and_parts (is_entry_of s e.side) (t == u) is).0

module _ (lines : List Line) (gap : ℕ) (is_result : Bool) (t : ℕ) (s : Side) (id : ℤ) where
  -- the answer delivered in a gap below this limit
  below : ℕ → Fated → Option Answer
  below limit y = only_if (is_in_gap_below limit y.fate && is_answering is_result t s id y)
      (answer_with lines t s id y.fate)

  -- whether y is an answer delivered in this gap
  here : Fated → Bool
  here y = is_gap gap y.fate && is_answering is_result t s id y

  answer : Answer
  answer = answer_at gap (invoked_in (take gap lines) t s id)

  where_false : (b : Bool) (o : Option Answer) → b ≡ false → only_if b o ≡ None
  where_false b o is = rw is refl

  -- After an answer in this gap, no answer of its end is delivered in an earlier gap.
  one_earlier : (x y : Fated) → ComesNoEarlier x y → x.fate ≡ Gap gap → is_answering is_result t s id x ≡ true
      → below gap y ≡ None
  unfolding below
  one_earlier x y order is answers_x = by y.fate refl (is_answering is_result t s id y) refl
    where
      message : is_some (message_of x.line.entry) ≡ true
      message = any_message (is_answer_of is_result id) (message_of x.line.entry)
          ((and_parts (is_of (other s) t x.line.entry x.line.transaction)
          (list_any (is_answer_of is_result id) (components_of x.line.entry)) answers_x).1)

      end_of : (z : Fated) → is_answering is_result t s id z ≡ true → is_entry_of (other s) z.line.entry.side ≡ true
      end_of z is = is_of_end (other s) t z.line.entry z.line.transaction
          ((and_parts (is_of (other s) t z.line.entry z.line.transaction)
          (list_any (is_answer_of is_result id) (components_of z.line.entry)) is).0)

      by : (f : Fate) → y.fate ≡ f → (b : Bool) → is_answering is_result t s id y ≡ b
          → only_if (is_in_gap_below gap f && b) (answer_with lines t s id f) ≡ None
      by Lost at b answers_y = refl
      by (By reply) at b answers_y = refl
      by (Gap h) at false answers_y = where_false (nat_lt h gap && false) (answer_with lines t s id (Gap h))
          (and_false (nat_lt h gap))
      by (Gap h) at true answers_y =
          let no_earlier : gap ≤ h = order gap h is at message
          (of_one_end x.line.entry y.line.entry (other s) (end_of x answers_x) (end_of y answers_y)) in
          let late : nat_lt h gap ≡ false = le-ltb h gap no_earlier in
          rw late refl

  none_earlier : (x : Fated) (more : List Fated) → AllByRecursion (ComesNoEarlier x) more → x.fate ≡ Gap gap
      → is_answering is_result t s id x ≡ true → last_given (below gap) more ≡ None
  none_earlier x [] order is answers_x = refl
  none_earlier x (y ∷ more) order is answers_x =
      rw (none_earlier x more order.1 is answers_x) (one_earlier x y order.0 is answers_x)

  lt_next : (h : ℕ) → (h == gap) ≡ false → nat_lt h (gap + 1) ≡ nat_lt h gap
  lt_next h apart = grind (arith, nat_tests)

  -- An answer in another gap is below both limits or below none.
  not_here : (x : Fated) → here x ≡ false → below (gap + 1) x ≡ below gap x
  unfolding below here
  not_here x is = by x.fate (is_answering is_result t s id x) is
    where
      by : (f : Fate) (b : Bool) → (is_gap gap f && b) ≡ false
          → only_if (is_in_gap_below (gap + 1) f && b) (answer_with lines t s id f)
          ≡ only_if (is_in_gap_below gap f && b) (answer_with lines t s id f)
      by Lost b is = refl
      by (By reply) b is = refl
      by (Gap h) false is = rw (and_false (nat_lt h (gap + 1)), and_false (nat_lt h gap)) refl
      by (Gap h) true is = rw (lt_next h (sym (and_true (h == gap)) ∙ is)) refl

  -- An answer in this gap is below the next limit.
  is_here : (x : Fated) → here x ≡ true → (x.fate ≡ Gap gap) × (is_answering is_result t s id x ≡ true)
  unfolding here
  is_here x is =
      let parts = and_parts (is_gap gap x.fate) (is_answering is_result t s id x) is in
      (by x.fate parts.0, parts.1)
    where
      by : (f : Fate) → is_gap gap f ≡ true → f ≡ Gap gap
      by Lost in_gap = absurd (cc)
      by (By reply) in_gap = absurd (cc)
      by (Gap h) in_gap = ap Gap (eqb-true h gap in_gap)

  comes : (x : Fated) → x.fate ≡ Gap gap → is_answering is_result t s id x ≡ true → below (gap + 1) x ≡ Some answer
  unfolding below answer
  comes x is answers_x =
      let early : nat_lt gap (gap + 1) ≡ true = lt-ltb gap (gap + 1) (omega arith) in
      rw (is, answers_x, early) refl

  -- The last answer below the next limit is in this gap if there is one there, else below this limit.
  gap_more : (all : List Fated) → AreInOrder all
      → last_given (below (gap + 1)) all ≡ cond (list_any here all) (Some answer) (last_given (below gap) all)
  gap_more [] order = refl
  gap_more (x ∷ more) order = by (list_any here more) (gap_more more order.1) (here x) refl
    where
      by : (m : Bool) → last_given (below (gap + 1)) more ≡ cond m (Some answer) (last_given (below gap) more)
          → (b : Bool) → here x ≡ b
          → option_or (last_given (below (gap + 1)) more) (below (gap + 1) x)
          ≡ cond (b || m) (Some answer) (option_or (last_given (below gap) more) (below gap x))
      by true is true test = rw is refl
      by true is false test = rw is refl
      by false is false test = rw (is, not_here x test) refl
      by false is true test =
          let parts = is_here x test in
          rw (is, none_earlier x more order.0 parts.0 parts.1, comes x parts.0 parts.1) refl

-- ---- deliveries in a gap

due_from : (F : ℕ → Bool) (G : Fated → Bool) (gap k : ℕ) (rest : List Fated)
    → ((j : ℕ) (y : Fated) → slice_get rest j ≡ Some y → F (k + j) ≡ G y)
    → list_any F (due_in gap k (map (λ y. y.fate) rest)) ≡ list_any (λ y. is_gap gap y.fate && G y) rest
due_from F G gap k [] agree = refl
due_from F G gap k (y ∷ rest) agree = by y.fate (due_from F G gap (k + 1) rest later)
  where
    first : F k ≡ G y
    first = let e : k ≡ k + 0 = omega arith in ap F e ∙ agree 0 y refl

    later : (j : ℕ) (z : Fated) → slice_get rest j ≡ Some z → F ((k + 1) + j) ≡ G z
    later j z at = let e : (k + 1) + j ≡ k + suc j = omega arith in ap F e ∙ agree (suc j) z at

    by : (f : Fate)
        → list_any F (due_in gap (k + 1) (map (λ y. y.fate) rest)) ≡ list_any (λ y. is_gap gap y.fate && G y) rest
        → list_any F (due_in gap k (f ∷ map (λ y. y.fate) rest))
        ≡ ((is_gap gap f && G y) || list_any (λ y. is_gap gap y.fate && G y) rest)
    by Lost is = is
    by (By reply) is = is
    by (Gap g) is = in_gap (g == gap)
      where
        in_gap : (b : Bool)
            → list_any F (cond b (k ∷ due_in gap (k + 1) (map (λ y. y.fate) rest))
            (due_in gap (k + 1) (map (λ y. y.fate) rest)))
            ≡ ((b && G y) || list_any (λ y. is_gap gap y.fate && G y) rest)
        in_gap true = rw (first, is) refl
        in_gap false = is

-- The answers in this gap are among its deliveries.
pub due_is : (gap : ℕ) (is_result : Bool) (t : ℕ) (s : Side) (id : ℤ) (all : List Fated)
    → list_any (answers_at (map (λ y. y.line.entry) all) (map (λ y. y.line.transaction) all) is_result t s id)
    (due_in gap 0 (map (λ y. y.fate) all))
    ≡ list_any (λ y. is_gap gap y.fate && is_answering is_result t s id y) all
due_is gap is_result t s id all =
    due_from (answers_at (map (λ y. y.line.entry) all) (map (λ y. y.line.transaction) all) is_result t s id)
    (is_answering is_result t s id) gap 0 all agree
  where
    agree : (j : ℕ) (y : Fated) → slice_get all j ≡ Some y
        → answers_at (map (λ y. y.line.entry) all) (map (λ y. y.line.transaction) all) is_result t s id (0 + j)
        ≡ is_answering is_result t s id y
    agree j y at =
        let e : 0 + j ≡ j = omega arith in
        rw (
          e,
          slice_get-map (λ (y : Fated). y.line.entry) all j,
          slice_get-map (λ (y : Fated). y.line.transaction) all j,
          at,
        ) refl

-- The answers kept after a gap are those below the next limit.
pub answered_more : (lines : List Line) (all : List Fated) (gap : ℕ) (is_result : Bool) (t : ℕ) (s : Side) (id : ℤ)
    → AreInOrder all
    → cond (list_any (answers_at (map (λ y. y.line.entry) all) (map (λ y. y.line.transaction) all) is_result t s id)
    (due_in gap 0 (map (λ y. y.fate) all)))
    (Some (answer_at gap (invoked_in (take gap lines) t s id))) (answered_in lines all gap is_result t s id)
    ≡ answered_in lines all (gap + 1) is_result t s id
unfolding below here answer
answered_more lines all gap is_result t s id order =
    rw (due_is gap is_result t s id all) (sym (gap_more lines gap is_result t s id all order))

-- ---- the list of expiries, and the lists of deliveries

abbrev pub expiry_at : ℕ → ℕ → Side → ℕ → Expiry
expiry_at gap component side entry = record { gap = gap; component = component; side = side; entry = entry }

-- An invocation that is not listed is added.
pub adds_new : (listed : List Expiry) (side : Side) (gap entry component : ℕ)
    → list_any (is_expiry_of (entry, component)) listed ≡ false
    → listed ++ expiry_at gap component side entry ∷ [] ≡ with_expiry listed (Some side) gap (Some (entry, component))
adds_new listed side gap entry component new = rw new refl

-- An invocation that is listed is not added.
pub adds_none : (listed : List Expiry) (side : Side) (gap entry component : ℕ)
    → list_any (is_expiry_of (entry, component)) listed ≡ true
    → listed ≡ with_expiry listed (Some side) gap (Some (entry, component))
adds_none listed side gap entry component old = rw old refl

numbers_equal : (m n : ℕ) → is_eq (nat_cmp m n) ≡ (m == n)
numbers_equal m n = grind (arith, nat_tests)

pairs_equal : (m n k l : ℕ) → is_at (pair_cmp (m, n)) (k, l) ≡ ((m == k) && (n == l))
pairs_equal m n k l =
    then_equal (nat_cmp m k) (nat_cmp n l) ∙ ap₂ (λ (a b : Bool). a && b) (numbers_equal m k) (numbers_equal n l)

-- The set of named invocations, with one more.
pub named_more : (listed : List Expiry) (side : Side) (gap entry component e c : ℕ) (was : Bool)
    → was ≡ list_any (is_expiry_of (e, c)) listed
    → cond (is_at (pair_cmp (entry, component)) (e, c)) true was
    ≡ list_any (is_expiry_of (e, c)) (listed ++ expiry_at gap component side entry ∷ [])
named_more listed side gap entry component e c was is = rw (pairs_equal entry component e c, is)
    (by ((entry == e) && (component == c)) (list_any (is_expiry_of (e, c)) listed)
    ∙ sym (list_any-append (is_expiry_of (e, c)) listed (expiry_at gap component side entry ∷ [])))
  where
    by : (b w : Bool) → cond b true w ≡ (w || (b || false))
    by true true = refl
    by true false = refl
    by false true = refl
    by false false = refl

-- One more empty list adds no number.
pub one_more_empty : {A : Type 0} (lists : List (Vec ℕ A)) (list : Vec ℕ A) → list.items ≡ []
    → ((gap : ℕ) → due_at gap lists ≡ []) → (gap : ℕ) → due_at gap (lists ++ list ∷ []) ≡ []
one_more_empty [] list is empty zero = is
one_more_empty [] list is empty (suc gap) = refl
one_more_empty (first ∷ lists) list is empty zero = empty zero
one_more_empty (first ∷ lists) list is empty (suc gap) = one_more_empty lists list is (λ k. empty (suc k)) gap
