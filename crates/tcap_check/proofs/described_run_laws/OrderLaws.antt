-- A run that follows a certificate takes the messages of an end in the order of their numbers and of their times.
use Rattle.std.proofs.Common.{arith, ◌≡◌, ◌⊎◌, inl, inr, ℕ, ◌+◌, ◌*◌, ◌≤◌, ◌<◌, Bool, true, false, cond, nat_lt, List, [], ◌∷◌, ◌++◌, map, Option, Some, refl, sym, ap, ◌∙◌, append-nil}
use Rattle.std.specs.Prelude.{slice_get}
use Rattle.std.specs.Cmp.{nat_cmp_is}
use Rattle.std.specs.List.{AllByRecursion}
use Rattle.std.specs.List.Sorted.{IsStrictlySortedBy}
use Rattle.std.specs.Ordering.{nat_cmp}
use Rattle.std.specs.declared.cmp.Ordering.TheVariants.{Less, Greater}
use Rattle.std.proofs.lemmas.Bool.{ltb-false, ltb-true}
use Rattle.tcap_record.specs.declared.entry.End.{End as Side}
use Rattle.tcap_record.specs.Ends.{other}
use Rattle.tcap_model.specs.World.{Item, is_side}
use Rattle.tcap_model.specs.Run.{Event, Replies, numbers_taken, takes_from, option_then}
use Rattle.tcap_certificate.specs.declared.certificate.Fate.{Fate}
use Rattle.tcap_certificate.specs.declared.certificate.Fate.TheVariants.{By}
use Rattle.tcap_certificate.specs.Certificate.{Certificate}
use Rattle.tcap_certificate.specs.DescribedRun.{FollowsFrom, IsImplied, deliveries, gap_events, is_loss, sending_by, taken_by, without_losses}
use Rattle.tcap_certificate.specs.Replay.{time_of}
use Rattle.tcap_model.proofs.ListLaws.{all_both, all_weaker}
use Rattle.tcap_check.proofs.replay_laws.ReplayGaps.{gap_split, all_implied}
use Rattle.tcap_check.proofs.replay_laws.ReplaySteps.{IsIn, in_left, in_right, in_either, all_in, from_start, all_delivered, taken_are}
use Rattle.tcap_check.proofs.given_run_lemmas.NumberLaws.{taken_both, among_plain}
use Rattle.tcap_check.proofs.given_run_lemmas.GivenEvents.{IsSender, by_mark, by_reply, by_send, sender_is}

-- ---- numbers in lists

-- No number is below an earlier one.
abbrev pub Rises : List ℕ → Type 0
Rises [] = Unit {0}
Rises (x ∷ xs) = ((y : ℕ) → IsIn y xs → x ≤ y) × Rises xs

not_below : (x y : ℕ) → nat_cmp x y ≡ Less → x ≤ y
not_below x y less = by (nat_lt y x) refl
  where
    by : (b : Bool) → nat_lt y x ≡ b → x ≤ y
    by true e = let greater : Greater ≡ nat_cmp x y = nat_cmp_is x y Greater (ltb-true y x e) in cc
    by false e = ltb-false y x e

-- The front of a sorted list rises.
pub rises_front : (xs ys : List ℕ) → IsStrictlySortedBy nat_cmp (xs ++ ys) → Rises xs
unfolding IsStrictlySortedBy
rises_front [] ys sorted = tt
rises_front (x ∷ xs) ys sorted = (
  λ y is. not_below x y (all_in (λ z. nat_cmp x z ≡ Less) y (xs ++ ys) sorted.0 (in_left y xs ys is)),
  rises_front xs ys sorted.1,
)

-- The end of a rising list rises.
rises_tail : (xs ys : List ℕ) → Rises (xs ++ ys) → Rises ys
rises_tail [] ys rises = rises
rises_tail (x ∷ xs) ys rises = rises_tail xs ys rises.1

-- A rising list still rises if some of its last numbers are left out.
rises_fewer : (xs ys zs : List ℕ) → ((n : ℕ) → IsIn n zs → IsIn n ys) → (Rises ys → Rises zs) → Rises (xs ++ ys)
    → Rises (xs ++ zs)
rises_fewer [] ys zs fewer on rises = on rises
rises_fewer (x ∷ xs) ys zs fewer on rises =
    (λ n is. rises.0 n (by n (in_either n xs zs is)), rises_fewer xs ys zs fewer on rises.1)
  where
    by : (n : ℕ) → IsIn n xs ⊎ IsIn n zs → IsIn n (xs ++ ys)
    by n (inl left) = in_left n xs ys left
    by n (inr right) = in_right n xs ys (fewer n right)

-- ---- without losses

-- The numbers of a run without its losses rise if those of the run do.
pub rises_without : (side : Side) (events : List Event) → Rises (numbers_taken side events)
    → Rises (numbers_taken side (without_losses events))
rises_without side [] rises = tt
rises_without side (event ∷ events) rises = by (is_loss event) (rises_without side events)
  where
    by : (b : Bool) → (Rises (numbers_taken side events) → Rises (numbers_taken side (without_losses events)))
        → Rises (numbers_taken side (cond b (without_losses events) (event ∷ without_losses events)))
    by true on = on (rises_tail (takes_from side event) (numbers_taken side events) rises)
    by false on =
        let plain = numbers_taken side (without_losses events) in
        rises_fewer (takes_from side event) (numbers_taken side events) plain (λ n. among_plain side n events) on rises

-- ---- times

-- the time at which the message with this number is taken
abbrev pub time_at : List Fate → ℕ → Option ℕ
time_at fates n = option_then (slice_get fates n) time_of

-- The messages with these numbers are taken in order, none before this time.
abbrev pub Timed : List Fate → ℕ → List ℕ → Type 0
Timed fates t [] = Unit {0}
Timed fates t (n ∷ ns) = (u : ℕ) × (t ≤ u) × (time_at fates n ≡ Some u) × Timed fates u ns

timed_from : (fates : List Fate) (t u : ℕ) (ns : List ℕ) → t ≤ u → Timed fates u ns → Timed fates t ns
timed_from fates t u [] below timed = tt
timed_from fates t u (n ∷ ns) below timed = (timed.0, omega (arith, timed.1), timed.2, timed.3)

-- Some are taken at this time, and then the others.
timed_both : (fates : List Fate) (t : ℕ) (xs ys : List ℕ) → AllByRecursion (λ n. time_at fates n ≡ Some t) xs
    → Timed fates t ys
    → Timed fates t (xs ++ ys)
timed_both fates t [] ys all timed = timed
timed_both fates t (x ∷ xs) ys all timed = (t, omega arith, all.0, timed_both fates t xs ys all.1 timed)

timed_all : (fates : List Fate) (t : ℕ) (xs : List ℕ) → AllByRecursion (λ n. time_at fates n ≡ Some t) xs
    → Timed fates t xs
timed_all fates t xs all = rw (← append-nil xs) (timed_both fates t xs [] all tt)

-- Each has this time or a later one.
timed_in : (fates : List Fate) (t u n : ℕ) (xs : List ℕ) → Timed fates t xs → IsIn n xs → time_at fates n ≡ Some u
    → t ≤ u
timed_in fates t u n [] timed is at = absurd is
timed_in fates t u n (x ∷ xs) timed (inl same) at =
    let here = timed.2 in
    let equal : Some timed.0 ≡ Some u = sym here ∙ ap (time_at fates) (sym same) ∙ at in
    let so : timed.0 ≡ u = cc in
    omega (arith, timed.1, so)
timed_in fates t u n (x ∷ xs) timed (inr more) at =
    let later : timed.0 ≤ u = timed_in fates timed.0 u n xs timed.3 more at in omega (arith, timed.1, later)

-- Of two messages, the one with the lower number has no later time.
pub in_turn : (fates : List Fate) (t first second u v : ℕ) (xs : List ℕ) → Rises xs → Timed fates t xs
    → IsIn first xs → IsIn second xs
    → first < second → time_at fates first ≡ Some u → time_at fates second ≡ Some v → u ≤ v
in_turn fates t first second u v [] rises timed a b below at_a at_b = absurd a
in_turn fates t first second u v (x ∷ xs) rises timed (inl same_a) (inl same_b) below at_a at_b =
    absurd (omega (arith, same_a, same_b))
in_turn fates t first second u v (x ∷ xs) rises timed (inl same_a) (inr more_b) below at_a at_b =
    let here = timed.2 in
    let equal : Some timed.0 ≡ Some u = sym here ∙ ap (time_at fates) (sym same_a) ∙ at_a in
    let so : timed.0 ≡ u = cc in
    let later : timed.0 ≤ v = timed_in fates timed.0 v second xs timed.3 more_b at_b in
    omega (arith, so, later)
in_turn fates t first second u v (x ∷ xs) rises timed (inr more_a) (inl same_b) below at_a at_b =
    let no : x ≤ first = rises.0 first more_a in absurd (omega (arith, no, same_b))
in_turn fates t first second u v (x ∷ xs) rises timed (inr more_a) (inr more_b) below at_a at_b =
    in_turn fates timed.0 first second u v xs rises.1 timed.3 more_a more_b below at_a at_b

-- ---- the messages that events take

-- Events that take nothing add nothing.
none_take : (side : Side) (xs ys : List Event) → AllByRecursion (λ event. takes_from side event ≡ []) xs
    → numbers_taken side (xs ++ ys) ≡ numbers_taken side ys
none_take side [] ys all = refl
none_take side (event ∷ xs) ys all = rw (all.0) (none_take side xs ys all.1)

-- The messages that a gap takes are those that it delivers.
pub here_takes : (side : Side) (c : Certificate) (items : List Item) (gap : ℕ) (here : List Event)
    → map Some here ≡ gap_events c items gap
    → numbers_taken side here ≡ numbers_taken side (deliveries gap 0 c.fates items)
here_takes side c items gap here is =
    let parts = gap_split (λ event. takes_from side event ≡ []) c items gap here (λ at name. refl) (λ at name id. refl) is in
    ap (numbers_taken side) parts.2 ∙ none_take side parts.0 (deliveries gap 0 c.fates items) parts.1

-- The expiries that an item implies take nothing.
implied_takes : (side : Side) (item : Item) (events : List Event) → AllByRecursion (IsImplied item) events
    → numbers_taken side events ≡ []
implied_takes side item events all =
    ap (numbers_taken side) (sym (append-nil events))
    ∙ none_take side events [] (all_implied (λ event. takes_from side event ≡ []) item events (λ at name id. refl) all)

-- From a gap on, a run takes what the gap delivers, what the next item takes, and what the rest takes.
pub step_takes : (side : Side) (c : Certificate) (items : List Item) (gap : ℕ) (item : Item)
    (here implied rest : List Event) (sends : Event)
    → map Some here ≡ gap_events c items gap → AllByRecursion (IsImplied item) implied
    → numbers_taken side (here ++ implied ++ sends ∷ rest)
    ≡ numbers_taken side (deliveries gap 0 c.fates items) ++ (takes_from side sends ++ numbers_taken side rest)
step_takes side c items gap item here implied rest sends is all =
    taken_both side (here ++ implied) (sends ∷ rest)
    ∙ ap (λ ns. ns ++ (takes_from side sends ++ numbers_taken side rest))
    (taken_both side here implied ∙ ap (λ ns. numbers_taken side here ++ ns) (implied_takes side item implied all)
    ∙ append-nil (numbers_taken side here) ∙ here_takes side c items gap here is)

-- ---- the messages that an item takes

-- The event takes nothing, or is the reply that takes one message.
abbrev pub Takes : List ℕ → Event → Type 0
Takes taken sends = (((side : Side) → takes_from side sends ≡ []) × (taken ≡ []))
    ⊎ ((replier : Side) × (n : ℕ) × (taken ≡ n ∷ []) × (sends ≡ Replies replier n))

-- The event that sends an item takes exactly the messages that the item takes.
pub sending_takes : (c : Certificate) (number : ℕ) (item : Item) (taken : List ℕ) (sends : Event)
    → sending_by c number item taken ≡ Some sends
    → Takes taken sends
sending_takes c number item taken sends is = by taken sends (sender_is c number item taken sends is)
  where
    by : (taken : List ℕ) (sends : Event) → IsSender taken sends → Takes taken sends
    by taken sends (by_send side m none) = inl (λ place. refl, none)
    by taken sends (by_reply side n one) = inr (side, n, one, refl)
    by taken sends (by_mark none) = inl (λ place. refl, none)

-- ---- the time of each event

-- What holds for all messages that each event takes holds for all messages that are taken.
all_taken : (side : Side) (Q : ℕ → Type 0) (events : List Event) → AllByRecursion (λ event. AllByRecursion Q (takes_from side event)) events
    → AllByRecursion Q (numbers_taken side events)
all_taken side Q [] all = tt
all_taken side Q (event ∷ events) all =
    all_both Q (takes_from side event) (numbers_taken side events) all.0 (all_taken side Q events all.1)

-- A delivery takes its message at the time of its gap.
deliveries_time : (side : Side) (fates : List Fate) (gap : ℕ) (items : List Item)
    → AllByRecursion (λ m. time_at fates m ≡ Some (2 * gap)) (numbers_taken side (deliveries gap 0 fates items))
deliveries_time side fates gap items =
    all_taken side InTime (deliveries gap 0 fates items)
    (all_delivered (λ event. AllByRecursion InTime (takes_from side event)) fates gap 0 fates items (from_start fates)
    (λ sender n at. one n (is_side side (other (other sender))) (ap (λ (o : Option Fate). option_then o time_of) at)))
  where
    InTime : ℕ → Type 0
    InTime m = time_at fates m ≡ Some (2 * gap)

    one : (n : ℕ) (b : Bool) → InTime n → AllByRecursion InTime (cond b (n ∷ []) [])
    one n true at = (at, tt)
    one n false at = tt

-- A reply takes its message at the time of the reply.
replies_time : (fates : List Fate) (reply : ℕ) → AllByRecursion (λ m. time_at fates m ≡ Some (2 * reply + 1)) (taken_by reply 0 fates)
replies_time fates reply =
    all_weaker (λ m. slice_get fates m ≡ Some (By reply)) (λ m. time_at fates m ≡ Some (2 * reply + 1)) (taken_by reply 0 fates)
    (λ m at. ap (λ (o : Option Fate). option_then o time_of) at) (taken_are fates fates reply 0 (from_start fates))

-- The event that sends an item takes its messages at the time of the item.
sends_time : (side : Side) (P : ℕ → Type 0) (taken : List ℕ) (sends : Event) → Takes taken sends
    → AllByRecursion P taken
    → AllByRecursion P (takes_from side sends)
sends_time side P taken sends (inl (none, free)) all = rw (none side) tt
sends_time side P taken sends (inr (replier, n, one, is)) all = rw is (by (is_side side (other replier)))
  where
    by : (same : Bool) → AllByRecursion P (cond same (n ∷ []) [])
    by true = let only : AllByRecursion P (n ∷ []) = rw one at all in (only.0, tt)
    by false = tt

-- From a gap on, a run takes messages in order, none before the time of the gap.
pub run_timed : (side : Side) (c : Certificate) (items : List Item) (gap : ℕ) (left : List Item) (events : List Event)
    → FollowsFrom c items gap left events → Timed c.fates (2 * gap) (numbers_taken side events)
run_timed side c items gap [] events follows =
    rw (here_takes side c items gap events follows)
    (timed_all c.fates (2 * gap) (numbers_taken side (deliveries gap 0 c.fates items))
    (deliveries_time side c.fates gap items))
run_timed side c items gap (item ∷ more) events (here, implied, rest, sends, here_is, all, sends_is, joined, on) =
    let now = deliveries_time side c.fates gap items in
    let taken = taken_by gap 0 c.fates in
    let next = sends_time side (λ m. time_at c.fates m ≡ Some (2 * gap + 1)) taken sends
    (sending_takes c gap item taken sends sends_is) (replies_time c.fates gap) in
    let behind = run_timed side c items (gap + 1) more rest on in
    let then = takes_from side sends ++ numbers_taken side rest in
    rw (joined, step_takes side c items gap item here implied rest sends here_is all)
    (timed_both c.fates (2 * gap) (numbers_taken side (deliveries gap 0 c.fates items)) then now
    (timed_from c.fates (2 * gap) (2 * gap + 1) then (omega arith)
    (timed_both c.fates (2 * gap + 1) (takes_from side sends) (numbers_taken side rest) next
    (timed_from c.fates (2 * gap + 1) (2 * (gap + 1)) (numbers_taken side rest) (omega arith) behind))))
