-- The count of steps of each kind in a run.
use Rattle.std.proofs.Common.{arith, ◌≡◌, ◌≤◌, ◌<◌, ◌+◌, ℕ, ℤ, zero, suc, Bool, true, false, cond, List, [], ◌∷◌, ◌++◌, filter_map, length, Option, Some, None, Ok, refl, ap}
use Rattle.std.specs.Prelude.{Contains, is_some, slice_index_or}
use Rattle.std.specs.List.{cons_option}
use Rattle.std.proofs.lemmas.List.{length-append}
use Rattle.tcap_record.specs.declared.entry.End.TheVariants.{A, B}
use Rattle.tcap_end.specs.declared.half.HalfName.{HalfName}
use Rattle.tcap_end.specs.declared.own_invocations.OwnInvocation.{OwnInvocation}
use Rattle.tcap_end.specs.Component.{own_invocation}
use Rattle.tcap_end.specs.End.{End, KeyedHalf, named}
use Rattle.tcap_end.specs.HiddenSteps.{expire}
use Rattle.tcap_end.specs.ReachableEnd.{IsEnd}
use Rattle.tcap_end.specs.Table.{Table}
use Rattle.tcap_model.specs.World.{Item, Sent, World, channel_from}
use Rattle.tcap_model.specs.Run.{Adds, Event, Sends, Receives, Replies, Loses, Expires, Closes, Quiet, Tells, Runs, after, numbers_of, numbers_sent, numbers_taken, takes_from, option_then}
use Rattle.tcap_check.specs.GivenRun.{IsInUse}
use Rattle.tcap_model.proofs.ChannelLaws.{are_whole}
use Rattle.tcap_check.proofs.described_run_laws.ExpiryLaws.{ends_in_use, not_in_use, was_in_use}
use Rattle.tcap_model.proofs.RunLaws.{grows, runs_keep}

-- ---- sums over lists

-- the sum of the weights of a list
abbrev pub total : {X : Type 0} → (X → ℕ) → List X → ℕ
total weigh [] = 0
total weigh (x ∷ xs) = weigh x + total weigh xs

-- 1 if the test passes, else 0
abbrev pub one : {X : Type 0} → (X → Bool) → X → ℕ
one passes x = cond (passes x) 1 0

pub total_both : {X : Type 0} (weigh : X → ℕ) (xs ys : List X) → total weigh (xs ++ ys) ≡ total weigh xs + total weigh ys
total_both weigh [] ys = omega arith
total_both weigh (x ∷ xs) ys = omega (arith, total_both weigh xs ys)

pub total_most : {X : Type 0} (weigh : X → ℕ) (xs : List X) → ((x : X) → weigh x ≤ 1) → total weigh xs ≤ length xs
total_most weigh [] most = omega arith
total_most weigh (x ∷ xs) most = omega (arith, most x, total_most weigh xs most)

pub one_most : {X : Type 0} (passes : X → Bool) (x : X) → one passes x ≤ 1
one_most passes x = by (passes x)
  where
    by : (b : Bool) → cond b 1 0 ≤ 1
    by true = omega arith
    by false = omega arith

-- If a test is stricter than another, its 1 is at most that of the other.
implied_one : {X : Type 0} (p q : X → Bool) (x : X) → (q x ≡ true → p x ≡ true) → one q x ≤ one p x
implied_one p q x less = by (q x) (p x) less
  where
    by : (b a : Bool) → (b ≡ true → a ≡ true) → cond b 1 0 ≤ cond a 1 0
    by true true less = omega arith
    by true false less = let bad = less refl in cc
    by false true less = omega arith
    by false false less = omega arith

-- A stricter test passes at most as many elements.
no_more : {X : Type 0} (p q : X → Bool) (xs : List X) → ((x : X) → q x ≡ true → p x ≡ true) → total (one q) xs ≤ total (one p) xs
no_more p q [] less = omega arith
no_more p q (x ∷ xs) less = omega (arith, implied_one p q x (less x), no_more p q xs less)

-- It passes fewer, if an element at some index passes only the other test.
fewer_at : {X : Type 0} (p q : X → Bool) (xs : List X) (x : X) → ((y : X) → q y ≡ true → p y ≡ true) → p x ≡ true → q x ≡ false
    → (k : ℕ) → k < length xs → slice_index_or xs k x ≡ x → total (one q) xs + 1 ≤ total (one p) xs
fewer_at p q [] x less was gone k below is = absurd (omega (arith, below))
fewer_at p q (y ∷ xs) x less was gone zero below is =
    let before : one p y ≡ 1 = rw (is, was) refl in
    let now : one q y ≡ 0 = rw (is, gone) refl in
    omega (arith, before, now, no_more p q xs less)
fewer_at p q (y ∷ xs) x less was gone (suc k) below is =
    omega (arith, implied_one p q y (less y), fewer_at p q xs x less was gone k (omega (arith, below)) is)

-- It passes fewer, if an element of the list passes only the other test.
pub fewer : {X : Type 0} (p q : X → Bool) (xs : List X) (x : X) → ((y : X) → q y ≡ true → p y ≡ true) → p x ≡ true → q x ≡ false
    → Contains xs x → total (one q) xs + 1 ≤ total (one p) xs
fewer p q xs x less was gone (k, below, is) = fewer_at p q xs x less was gone k below is

pub filter_map_most : {X Y : Type 0} (f : X → Option Y) (xs : List X) → length (filter_map f xs) ≤ length xs
filter_map_most f [] = omega arith
filter_map_most {Y = Y} f (x ∷ xs) = by (f x) (filter_map_most f xs)
  where
    by : (o : Option Y) → length (filter_map f xs) ≤ length xs → length (cons_option o (filter_map f xs)) ≤ suc (length xs)
    by None rest = omega (arith, rest)
    by (Some y) rest = omega (arith, rest)

-- ---- the weight of a step

-- 1 if the event is an expiry or a closing, else 0
abbrev pub hides : Event → ℕ
hides (Expires side name id) = 1
hides (Closes side name) = 1
hides _ = 0

-- 1 if the event adds to the sent list, else 0
abbrev pub joins : Event → ℕ
joins (Sends side message) = 1
joins (Replies side number) = 1
joins Quiet = 1
joins (Tells side message) = 1
joins _ = 0

-- Each event takes a message, adds an item, or is hidden.
each_step : (event : Event) → 1 ≤ length (takes_from A event) + length (takes_from B event) + joins event + hides event
each_step (Sends side message) = omega arith
each_step (Receives A number) = omega arith
each_step (Receives B number) = omega arith
each_step (Replies side number) = omega arith
each_step (Loses A number) = omega arith
each_step (Loses B number) = omega arith
each_step (Expires side name id) = omega arith
each_step (Closes side name) = omega arith
each_step Quiet = omega arith
each_step (Tells side message) = omega arith

-- So there are at most as many steps as these counts add up to.
pub steps_most : (events : List Event) → length events
    ≤ length (numbers_taken A events) + length (numbers_taken B events) + total joins events + total hides events
steps_most [] = omega arith
steps_most (event ∷ events) = omega (
  arith,
  each_step event,
  steps_most events,
  length-append (takes_from A event) (numbers_taken A events),
  length-append (takes_from B event) (numbers_taken B events),
)

-- ---- taken and sent messages

-- Each number is that of a message of one end.
sent_most : (n : ℕ) (items : List Item) → length (numbers_sent A n items) + length (numbers_sent B n items) ≤ length items
sent_most n [] = omega arith
sent_most n (Item.Quiet ∷ items) = omega (arith, sent_most (n + 1) items)
sent_most n (Sent A message ∷ items) = omega (arith, sent_most (n + 1) items)
sent_most n (Sent B message ∷ items) = omega (arith, sent_most (n + 1) items)

-- What was taken from a channel was sent.
pub taken_most : (table : Table) (events : List Event) (w : World) → Runs table events w
    → length (numbers_taken A events) + length (numbers_taken B events) ≤ length w.sent
taken_most table events w runs = omega (
  arith,
  sent_most 0 w.sent,
  ap length (are_whole table events w runs A),
  ap length (are_whole table events w runs B),
  length-append (numbers_taken A events) (numbers_of (channel_from A w)),
  length-append (numbers_taken B events) (numbers_of (channel_from B w)),
)

-- An event that adds to the sent list adds one item.
joins_one : (w : World) (event : Event) (items : List Item) → Adds w event items → joins event ≤ length items
joins_one w (Sends side m) items adds = rw adds (omega arith)
joins_one w (Receives side number) items adds = omega arith
joins_one w (Replies side number) items adds = rw (adds.6) (omega arith)
joins_one w (Loses side number) items adds = omega arith
joins_one w (Expires side name id) items adds = omega arith
joins_one w (Closes side name) items adds = omega arith
joins_one w Quiet items adds = rw adds (omega arith)
joins_one w (Tells side m) items adds = rw adds (omega arith)

-- A run has at most as many such steps as it sends items.
pub joins_most : (table : Table) (events : List Event) (w : World) → Runs table events w → total joins events ≤ length w.sent
joins_most table = runs_keep table (λ events w. total joins events ≤ length w.sent) (omega arith) by
  where
    by : (before : List Event) (event : Event) (w next : World) → Runs table before w → after table event w ≡ Some next
        → total joins before ≤ length w.sent → total joins (before ++ event ∷ []) ≤ length next.sent
    by before event w next ran step kept =
        let adds = grows table event w next step in
        let new = joins_one w event adds.0 adds.1 in
        let last : total joins (event ∷ []) ≡ joins event = omega arith in
        rw (adds.2, length-append w.sent adds.0, total_both joins before (event ∷ [])) (omega (arith, last, new, kept))

-- ---- own invocations in use

-- whether an own invocation with this ID is in use on the half with this name
abbrev pub in_use : End → Option HalfName → ℤ → Bool
in_use e name id = is_some (option_then (option_then name (named e)) (λ kept. own_invocation kept.half id))

-- The test passes if the ID is in use.
is_used : (e : End) (name : HalfName) (id : ℤ) → IsInUse e name id → in_use e (Some name) id ≡ true
is_used e name id (kept, own, found, has) = rw (found, has) refl

-- The test passes only if the ID is in use.
used_is : (e : End) (name : HalfName) (id : ℤ) → in_use e (Some name) id ≡ true → IsInUse e name id
used_is e name id is = by (named e name) refl is
  where
    found : (kept : KeyedHalf) (o : Option OwnInvocation) → named e name ≡ Some kept → own_invocation kept.half id ≡ o
        → is_some o ≡ true → IsInUse e name id
    found kept None at has so = cc
    found kept (Some own) at has so = (kept, own, at, has)

    by : (o : Option KeyedHalf) → named e name ≡ o → is_some (option_then o (λ kept. own_invocation kept.half id)) ≡ true
        → IsInUse e name id
    by None at so = cc
    by (Some kept) at so = found kept (own_invocation kept.half id) at refl so

-- An own invocation that was in use ended, and none began.
pub record EndsOne (name : HalfName) (id : ℤ) (e next : End) : Type 0 where
  pub was : in_use e (Some name) id ≡ true
  pub gone : in_use next (Some name) id ≡ false
  pub others : (q : ℤ) → in_use next (Some name) q ≡ true → in_use e (Some name) q ≡ true

-- This is the effect of an expiry.
pub expired : (table : Table) (e next : End) (name : HalfName) (id : ℤ) → IsEnd e
    → expire table e name id ≡ Ok next → EndsOne name id e next
expired table e next name id sound is = record {
  was = is_used e name id (ends_in_use table e name id next is);
  gone = by (in_use next (Some name) id) refl;
  others = λ q so. is_used e name q (was_in_use table e name id q next is (used_is next name q so));
}
  where
    by : (b : Bool) → in_use next (Some name) id ≡ b → b ≡ false
    by true so = absurd (not_in_use table e name id next sound is (used_is next name id so))
    by false so = refl
