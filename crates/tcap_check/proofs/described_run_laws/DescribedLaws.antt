-- In a run that a certificate describes, the certificate is in range, and no message overtakes an earlier one of its
-- end.
use Rattle.std.proofs.Common.{arith, ◌≡◌, inl, inr, ◌≤◌, ◌<◌, drop, take, ℕ, zero, suc, ◌+◌, ◌==◌, Bool, true, false, cond, nat_lt, List, [], ◌∷◌, ◌++◌, map, filter, length, Option, Some, None, Ok, refl, sym, ap, subst, ◌∙◌}
use Rattle.std.specs.Prelude.{◌&&◌, ◌||◌, slice_get}
use Rattle.std.specs.List.{AllByRecursion}
use Rattle.std.proofs.lemmas.Bool.{eq-eqb, eqb-false, eqb-true, le-leb, lt-ltb, ltb-true, le-ltb}
use Rattle.std.proofs.lemmas.Option.{slice_get_within}
use Rattle.tcap_msg.specs.declared.message.Message.{Message}
use Rattle.tcap_record.specs.declared.entry.End.{End as Side}
use Rattle.tcap_record.specs.declared.entry.End.TheVariants as sides
use Rattle.tcap_end.specs.Table.{Table}
use Rattle.tcap_certificate.specs.declared.certificate.Closing.{Closing}
use Rattle.tcap_certificate.specs.declared.certificate.Expiry.{Expiry}
use Rattle.tcap_certificate.specs.declared.certificate.Fate.{Fate}
use Rattle.tcap_certificate.specs.declared.certificate.Fate.TheVariants.{Gap, Lost, By}
use Rattle.tcap_record.specs.Ends.{other}
use Rattle.tcap_model.specs.World.{Item, Sent, World, channel_from, is_side}
use Rattle.tcap_model.specs.Run.{Event, Receives, Replies, Runs, numbers_of, numbers_taken, takes_from, option_then, only_if}
use Rattle.tcap_certificate.specs.Certificate.{Certificate}
use Rattle.tcap_model.specs.World.{has_quiet}
use Rattle.tcap_certificate.specs.DescribedRun.{FatesFit, Follows, FollowsFrom, closing_by, closing_event, deliveries, expiry_by, expiry_event, gap_events, named_entry, taken_by, without_losses}
use Rattle.tcap_certificate.specs.Replay.{all_fit, certificate_fits, fates_fit, is_later, is_overtaking, time_of}
use Rattle.tcap_model.proofs.ListLaws.{all_weaker}
use Rattle.tcap_model.proofs.ChannelLaws.{in_order}
use Rattle.tcap_check.proofs.described_run_laws.OrderLaws.{Rises, Takes, here_takes, in_turn, rises_front, rises_without, run_timed, sending_takes, step_takes}
use Rattle.tcap_check.proofs.replay_laws.ReplayGaps.{get_before}
use Rattle.tcap_check.proofs.refusal_laws.TakenNumberLaws.{taken_sent}
use Rattle.tcap_check.proofs.given_run_lemmas.NumberLaws.{among_plain}
use Rattle.tcap_check.proofs.replay_laws.ReplaySteps.{IsIn, in_left, in_right}

-- ---- ranges

fates_found : (count n : ℕ) (fates : List Fate) → FatesFit count n fates → fates_fit count n fates ≡ Ok tt
fates_found count n [] fit = refl
fates_found count n (Gap g ∷ fates) (above, within, fit) =
    rw (lt-ltb n g above, le-leb g count within) (fates_found count (n + 1) fates fit)
fates_found count n (By k ∷ fates) (above, within, fit) =
    rw (lt-ltb n k above, lt-ltb k count within) (fates_found count (n + 1) fates fit)
fates_found count n (Lost ∷ fates) fit = fates_found count (n + 1) fates fit

listed_found : {C : Type 0} (count : ℕ) (entry gap : C → ℕ) (listed : List C)
    → AllByRecursion (λ c. (entry c < gap c) × (gap c ≤ count)) listed
    → all_fit count (map (λ c. (entry c, gap c)) listed) ≡ Ok tt
listed_found count entry gap [] all = refl
listed_found count entry gap (c ∷ listed) ((above, within), all) =
    rw (lt-ltb (entry c) (gap c) above, le-leb (gap c) count within) (listed_found count entry gap listed all)

-- ---- gaps

-- The option has a value.
abbrev IsThere : Option Event → Type 0
IsThere o = (event : Event) × (o ≡ Some event)

all_there : (events : List Event) (xs : List (Option Event)) → map Some events ≡ xs → AllByRecursion IsThere xs
all_there events [] is = tt
all_there [] (x ∷ xs) is = cc
all_there (event ∷ events) (x ∷ xs) is = ((event, let same : Some event ≡ x = cc in sym same), all_there events xs cc)

all_left : {A : Type 0} (P : A → Type 0) (xs ys : List A) → AllByRecursion P (xs ++ ys)
    → AllByRecursion P xs × AllByRecursion P ys
all_left P [] ys all = (tt, all)
all_left P (x ∷ xs) ys all = let rest = all_left P xs ys all.1 in ((all.0, rest.0), rest.1)

-- The run has a part for each gap.
gap_there : (c : Certificate) (items : List Item) (gap : ℕ) (left : List Item) (events : List Event)
    → FollowsFrom c items gap left events
    → (g : ℕ) → gap ≤ g → g ≤ gap + length left → (here : List Event) × (map Some here ≡ gap_events c items g)
gap_there c items gap [] events follows g above within =
    let same : gap ≡ g = omega arith in (events, follows ∙ ap (gap_events c items) same)
gap_there c items gap (item ∷ more) events (here, implied, rest, sends, here_is, all, sends_is, joined, on) g above within =
    by (gap == g) refl
    (λ below. gap_there c items (gap + 1) more rest on g (omega (arith, below)) (omega (arith, within)))
  where
    Found : Type 0
    Found = (here : List Event) × (map Some here ≡ gap_events c items g)

    by : (b : Bool) → (gap == g) ≡ b → (gap < g → Found) → Found
    by true e later = (here, here_is ∙ ap (gap_events c items) (eqb-true gap g e))
    by false e later = let apart = eqb-false gap g e in later (omega (arith, apart, above))

-- If all selected values exist, each value that passes the test exists.
passing_there : {C : Type 0} (p : C → Bool) (f : C → Option Event) (xs : List C)
    → AllByRecursion IsThere (map f (filter p xs))
    → AllByRecursion (λ x. p x ≡ true → IsThere (f x)) xs
passing_there p f [] all = tt
passing_there p f (x ∷ xs) all = by (p x) refl (passing_there p f xs) all
  where
    by : (b : Bool) → p x ≡ b
        → (AllByRecursion IsThere (map f (filter p xs)) → AllByRecursion (λ y. p y ≡ true → IsThere (f y)) xs)
        → AllByRecursion IsThere (map f (cond b (x ∷ filter p xs) (filter p xs)))
        → AllByRecursion (λ y. p y ≡ true → IsThere (f y)) (x ∷ xs)
    by true e on all = (λ same. all.0, on all.1)
    by false e on all = (λ same. let bad : true ≡ false = sym same ∙ e in cc, on all)

-- Each listed event exists in its gap.
listed_there : {C : Type 0} (count : ℕ) (gap : C → ℕ) (f : C → Option Event) (listed : List C)
    → ((g : ℕ) → g ≤ count → AllByRecursion (λ x. (gap x == g) ≡ true → IsThere (f x)) listed)
    → AllByRecursion (λ x. gap x ≤ count) listed → AllByRecursion (λ x. IsThere (f x) × (gap x ≤ count)) listed
listed_there count gap f [] there all = tt
listed_there count gap f (x ∷ listed) there all =
    let here = there (gap x) all.0 in (
      (here.0 (eq-eqb (gap x) (gap x) refl), all.0),
      listed_there count gap f listed (λ g within. (there g within).1) all.1,
    )

-- The entry that a listed event names comes before its gap.
named_above : (items : List Item) (gap entry : ℕ) (step : Item → Option Event)
    → IsThere (option_then (named_entry items gap entry) step) → entry < gap
named_above items gap entry step (event, is) =
    ltb-true entry gap (by (has_quiet (drop entry (take gap items))) (nat_lt entry gap) refl is)
  where
    by : (marked before : Bool) → nat_lt entry gap ≡ before
        → option_then (cond marked None (only_if before (slice_get items entry))) step ≡ Some event
        → nat_lt entry gap ≡ true
    by true before e is = cc
    by false true e is = e
    by false false e is = cc

-- Each event that is listed for a gap of a run exists.
gap_listed_there : (c : Certificate) (items : List Item) (events : List Event) → FollowsFrom c items 0 items events
    → (g : ℕ)
    → g ≤ length items → AllByRecursion IsThere (map (closing_event items) (filter (λ x. x.gap == g) c.close))
    × AllByRecursion IsThere (map (expiry_event items) (filter (λ x. x.gap == g) c.expire))
gap_listed_there c items events follows g within =
    let closings = map (closing_event items) (filter (λ x. x.gap == g) c.close) in
    let expiries = map (expiry_event items) (filter (λ x. x.gap == g) c.expire) in
    let (here, is) = gap_there c items 0 items events follows g (omega arith) (omega (arith, within)) in
    let all = all_there here (gap_events c items g) is in
    let listed = all_left IsThere (closings ++ expiries) (map Some (deliveries g 0 c.fates items)) all in
    all_left IsThere closings expiries listed.0

-- If a certificate describes a run, its numbers are in range.
pub described_fits : (c : Certificate) (items : List Item) (events : List Event) → Follows c items events
    → certificate_fits c ≡ Ok tt
described_fits c items events follows =
    let count = length items in
    let there = gap_listed_there c items (without_losses events) follows.gaps in
    let closings = listed_there count (λ (x : Closing). x.gap) (closing_event items) c.close
    (λ g within. passing_there (λ (x : Closing). x.gap == g) (closing_event items) c.close (there g within).0)
    follows.closings in
    let expiries = listed_there count (λ (x : Expiry). x.gap) (expiry_event items) c.expire
    (λ g within. passing_there (λ (x : Expiry). x.gap == g) (expiry_event items) c.expire (there g within).1)
    follows.expiries in
    let closings_fit = all_weaker (λ (x : Closing). IsThere (closing_event items x) × (x.gap ≤ count))
    (λ (x : Closing). (x.entry < x.gap) × (x.gap ≤ count)) c.close
    (λ x both. (named_above items x.gap x.entry (closing_by x) both.0, both.1)) closings in
    let expiries_fit = all_weaker (λ (x : Expiry). IsThere (expiry_event items x) × (x.gap ≤ count))
    (λ (x : Expiry). (x.entry < x.gap) × (x.gap ≤ count)) c.expire
    (λ x both. (named_above items x.gap x.entry (expiry_by x) both.0, both.1)) expiries in
    rw (
      follows.counted,
      fates_found count 0 c.fates follows.fates,
      listed_found count (λ (x : Closing). x.entry) (λ (x : Closing). x.gap) c.close closings_fit,
      listed_found count (λ (x : Expiry). x.entry) (λ (x : Expiry). x.gap) c.expire expiries_fit,
    ) refl

-- ---- messages with a time are taken

-- A gap's deliveries of later items are among its deliveries.
delivered_next : (side : Side) (m gap n : ℕ) (fate : Fate) (fates : List Fate) (item : Item) (items : List Item)
    → IsIn m (numbers_taken side (deliveries gap (n + 1) fates items))
    → IsIn m (numbers_taken side (deliveries gap n (fate ∷ fates) (item ∷ items)))
delivered_next side m gap n (Gap g) fates (Sent sender message) items is = by (g == gap)
  where
    others : List Event
    others = deliveries gap (n + 1) fates items

    by : (b : Bool) → IsIn m (numbers_taken side (cond b (Receives (other sender) n ∷ others) others))
    by true = in_right m (takes_from side (Receives (other sender) n)) (numbers_taken side others) is
    by false = is
delivered_next side m gap n (Gap g) fates Item.Quiet items is = is
delivered_next side m gap n Lost fates (Sent sender message) items is = is
delivered_next side m gap n Lost fates Item.Quiet items is = is
delivered_next side m gap n (By k) fates (Sent sender message) items is = is
delivered_next side m gap n (By k) fates Item.Quiet items is = is

received_from : (side : Side) (n : ℕ) → IsIn n (takes_from side (Receives (other side) n))
received_from sides.A n = inl refl
received_from sides.B n = inl refl

-- A message whose fate is a gap is delivered in this gap.
is_delivered : (side : Side) (m gap n i : ℕ) (fates : List Fate) (items : List Item) (message : Message)
    → slice_get fates i ≡ Some (Gap gap) → slice_get items i ≡ Some (Sent side message) → m ≡ n + i
    → IsIn m (numbers_taken side (deliveries gap n fates items))
is_delivered side m gap n i [] items message fate_is item_is at = cc
is_delivered side m gap n i (fate ∷ fates) [] message fate_is item_is at = cc
is_delivered side m gap n zero (fate ∷ fates) (item ∷ items) message fate_is item_is at =
    let same_fate : fate ≡ Gap gap = cc in
    let same_item : item ≡ Sent side message = cc in
    let number : m ≡ n = omega (arith, at) in
    rw (same_fate, same_item, number, eq-eqb gap gap refl)
    (in_left n (takes_from side (Receives (other side) n)) (numbers_taken side (deliveries gap (n + 1) fates items))
    (received_from side n))
is_delivered side m gap n (suc i) (fate ∷ fates) (item ∷ items) message fate_is item_is at =
    delivered_next side m gap n fate fates item items
    (is_delivered side m gap (n + 1) i fates items message fate_is item_is (omega (arith, at)))

-- The messages that a reply takes after the first fate are among those that it takes.
replied_next : (m reply n : ℕ) (fate : Fate) (fates : List Fate) → IsIn m (taken_by reply (n + 1) fates)
    → IsIn m (taken_by reply n (fate ∷ fates))
replied_next m reply n (Gap g) fates is = is
replied_next m reply n Lost fates is = is
replied_next m reply n (By k) fates is = by (k == reply)
  where
    by : (b : Bool) → IsIn m (cond b (n ∷ taken_by reply (n + 1) fates) (taken_by reply (n + 1) fates))
    by true = inr is
    by false = is

-- A message whose fate is a reply is taken by this reply.
is_replied : (m reply n i : ℕ) (fates : List Fate) → slice_get fates i ≡ Some (By reply) → m ≡ n + i
    → IsIn m (taken_by reply n fates)
is_replied m reply n i [] fate_is at = cc
is_replied m reply n zero (fate ∷ fates) fate_is at =
    let same : fate ≡ By reply = cc in
    let number : n ≡ m = omega (arith, at) in
    rw (same, eq-eqb reply reply refl) (inl (sym number))
is_replied m reply n (suc i) (fate ∷ fates) fate_is at =
    replied_next m reply n fate fates (is_replied m reply (n + 1) i fates fate_is (omega (arith, at)))

-- The run takes what a gap delivers.
gap_takes : (side : Side) (n : ℕ) (c : Certificate) (items : List Item) (gap : ℕ) (left : List Item) (events : List Event)
    → FollowsFrom c items gap left events → (g : ℕ) → gap ≤ g → g ≤ gap + length left
    → IsIn n (numbers_taken side (deliveries g 0 c.fates items)) → IsIn n (numbers_taken side events)
gap_takes side n c items gap [] events follows g above within is =
    let same : gap ≡ g = omega arith in rw (here_takes side c items gap events follows, same) is
gap_takes side n c items gap (item ∷ more) events (here, implied, rest, sends, here_is, all, sends_is, joined, on) g above within is =
    rw (joined, step_takes side c items gap item here implied rest sends here_is all)
    (by (gap == g) refl
    (λ below. gap_takes side n c items (gap + 1) more rest on g (omega (arith, below)) (omega (arith, within)) is))
  where
    now : List ℕ
    now = numbers_taken side (deliveries gap 0 c.fates items)

    next : List ℕ
    next = takes_from side sends ++ numbers_taken side rest

    by : (b : Bool) → (gap == g) ≡ b → (gap < g → IsIn n (numbers_taken side rest)) → IsIn n (now ++ next)
    by true e later = in_left n now next (rw (eqb-true gap g e) is)
    by false e later =
        let apart = eqb-false gap g e in
        let found = later (omega (arith, apart, above)) in
        in_right n now next (in_right n (takes_from side sends) (numbers_taken side rest) found)

-- The run takes what a reply takes, from the channel of one end.
reply_takes : (n : ℕ) (c : Certificate) (items : List Item) (gap : ℕ) (left : List Item) (events : List Event)
    → FollowsFrom c items gap left events → (k : ℕ) → gap ≤ k → k < gap + length left → IsIn n (taken_by k 0 c.fates)
    → (side : Side) × IsIn n (numbers_taken side events)
reply_takes n c items gap [] events follows k above within is = absurd (omega arith)
reply_takes n c items gap (item ∷ more) events (here, implied, rest, sends, here_is, all, sends_is, joined, on) k above within is =
    let one = by (gap == k) refl
    (λ below. reply_takes n c items (gap + 1) more rest on k (omega (arith, below)) (omega (arith, within)) is) in (
      one.0,
      rw (joined, step_takes one.0 c items gap item here implied rest sends here_is all)
          (in_right n (numbers_taken one.0 (deliveries gap 0 c.fates items))
          (takes_from one.0 sends ++ numbers_taken one.0 rest) one.1),
    )
  where
    Found : Type 0
    Found = (side : Side) × IsIn n (takes_from side sends ++ numbers_taken side rest)

    answered : (replier : Side) → IsIn n (takes_from (other replier) (Replies replier n))
    answered sides.A = inl refl
    answered sides.B = inl refl

    one_of : (taken : List ℕ) → IsIn n taken → Takes taken sends → Found
    one_of taken there (inl (none, free)) = let no : IsIn n [] = rw free at there in absurd no
    one_of taken there (inr (replier, m, one, sends_it)) = by (rw one at there)
      where
        by : IsIn n (m ∷ []) → Found
        by (inl same) = (
          other replier,
          in_left n (takes_from (other replier) sends) (numbers_taken (other replier) rest)
              (rw (sends_it, sym same) (answered replier)),
        )
        by (inr never) = absurd never

    by : (b : Bool) → (gap == k) ≡ b → (gap < k → (side : Side) × IsIn n (numbers_taken side rest)) → Found
    by true e later =
        let taken = taken_by gap 0 c.fates in
        one_of taken (rw (eqb-true gap k e) is) (sending_takes c gap item taken sends sends_is)
    by false e later =
        let apart = eqb-false gap k e in
        let (side, found) = later (omega (arith, apart, above)) in
        (side, in_right n (takes_from side sends) (numbers_taken side rest) found)

-- ---- the channel of a message

same_side : (side sender : Side) → is_side side sender ≡ true → sender ≡ side
same_side sides.A sides.A is = refl
same_side sides.B sides.B is = refl
same_side sides.A sides.B is = cc
same_side sides.B sides.A is = cc

one_sender : (items others : List Item) (n : ℕ) (first second : Side) (one another : Message) → items ≡ others
    → slice_get items n ≡ Some (Sent first one) → slice_get others n ≡ Some (Sent second another) → first ≡ second
one_sender items others n first second one another same a b =
    let both : slice_get items n ≡ slice_get others n = ap (λ (l : List Item). slice_get l n) same in cc

-- ---- order

-- The gap of a fate is at most the last one, and its reply is an entry.
abbrev IsWithin : ℕ → Fate → Type 0
IsWithin count (Gap g) = g ≤ count
IsWithin count (By k) = k < count
IsWithin count Lost = Unit {0}

-- Fates in range are within the record.
fate_within : (count n i : ℕ) (fates : List Fate) (fate : Fate) → FatesFit count n fates
    → slice_get fates i ≡ Some fate → IsWithin count fate
fate_within count n i [] fate fit is = cc
fate_within count n zero (Gap g ∷ fates) fate fit is = let same : Gap g ≡ fate = cc in subst (IsWithin count) same fit.1
fate_within count n zero (By k ∷ fates) fate fit is = let same : By k ≡ fate = cc in subst (IsWithin count) same fit.1
fate_within count n zero (Lost ∷ fates) fate fit is = let same : Lost ≡ fate = cc in subst (IsWithin count) same tt
fate_within count n (suc i) (Gap g ∷ fates) fate fit is = fate_within count (n + 1) i fates fate fit.2 is
fate_within count n (suc i) (By k ∷ fates) fate fit is = fate_within count (n + 1) i fates fate fit.2 is
fate_within count n (suc i) (Lost ∷ fates) fate fit is = fate_within count (n + 1) i fates fate fit is

module _ (table : Table) (c : Certificate) (items : List Item) (events : List Event) (w : World)
    (runs : Runs table events w) (sent : w.sent ≡ items) (follows : Follows c items events) where
  -- A message whose fate has a time is taken from its end's channel.
  is_taken : (side : Side) (n : ℕ) (message : Message) (fate : Fate) (t : ℕ)
      → slice_get items n ≡ Some (Sent side message)
      → slice_get c.fates n ≡ Some fate → time_of fate ≡ Some t → IsIn n (numbers_taken side (without_losses events))
  is_taken side n message (Gap g) t there has timed =
      let within : g ≤ length items = fate_within (length items) 0 n c.fates (Gap g) follows.fates has in
      gap_takes side n c items 0 items (without_losses events) follows.gaps g (omega arith) (omega (arith, within))
      (is_delivered side n g 0 n c.fates items message has there (omega arith))
  is_taken side n message (By k) t there has timed =
      let within : k < length items = fate_within (length items) 0 n c.fates (By k) follows.fates has in
      let (sender, found) = reply_takes n c items 0 items (without_losses events) follows.gaps k (omega arith)
      (omega (arith, within)) (is_replied n k 0 n c.fates has (omega arith)) in
      let (other_one, was) = taken_sent table events w sender n runs (among_plain sender n events found) in
      let same = one_sender w.sent items n sender side other_one message sent was there in
      subst (λ (s : Side). IsIn n (numbers_taken s (without_losses events))) same found
  is_taken side n message Lost t there has timed = cc

  -- A message has no later time than a later message of its end.
  none_later : (side : Side) (first second : ℕ) (one another : Message) (fate later : Fate) → first < second
      → slice_get items first ≡ Some (Sent side one) → slice_get items second ≡ Some (Sent side another)
      → slice_get c.fates first ≡ Some later → slice_get c.fates second ≡ Some fate
      → is_later (time_of fate) (time_of later) ≡ false
  none_later side first second one another fate later below at_first at_second has_first has_second =
      by (time_of fate) (time_of later) refl refl
    where
      taken : List ℕ
      taken = numbers_taken side (without_losses events)

      rises : Rises taken
      rises = rises_without side events
          (rises_front (numbers_taken side events) (numbers_of (channel_from side w)) (in_order table events w runs side))

      by : (a b : Option ℕ) → time_of fate ≡ a → time_of later ≡ b → is_later a b ≡ false
      by (Some v) (Some u) e_fate e_later =
          let a = is_taken side first one later u at_first has_first e_later in
          let b = is_taken side second another fate v at_second has_second e_fate in
          let timed = run_timed side c items 0 items (without_losses events) follows.gaps in
          le-ltb v u
          (in_turn c.fates 0 first second u v taken rises timed a b below
          (ap (λ o. option_then o time_of) has_first ∙ e_later) (ap (λ o. option_then o time_of) has_second ∙ e_fate))
      by (Some v) None e_fate e_later = refl
      by None (Some u) e_fate e_later = refl
      by None None e_fate e_later = refl

-- If none of these messages has a later time, none is overtaken.
none_of_these : (side : Side) (fate : Fate) (fates : List Fate) (front : List Item)
    → ((i : ℕ) (message : Message) (first : Fate) → slice_get front i ≡ Some (Sent side message)
    → slice_get fates i ≡ Some first → is_later (time_of fate) (time_of first) ≡ false)
    → is_overtaking side fate fates front ≡ false
none_of_these side fate [] front none = refl
none_of_these side fate (first ∷ fates) [] none = refl
none_of_these side fate (first ∷ fates) (Item.Quiet ∷ front) none =
    none_of_these side fate fates front (λ i. none (suc i))
none_of_these side fate (first ∷ fates) (Sent sender message ∷ front) none =
    by (is_side side sender) refl (none_of_these side fate fates front (λ i. none (suc i)))
  where
    by : (b : Bool) → is_side side sender ≡ b → is_overtaking side fate fates front ≡ false
        → ((b && is_later (time_of fate) (time_of first)) || is_overtaking side fate fates front) ≡ false
    by true e rest =
        let is = none 0 message first (ap (λ (s : Side). Some (Sent s message)) (same_side side sender e)) refl in
        rw (is, rest) refl
    by false e rest = rest

get_behind : {A : Type 0} (xs ys : List A) (y : A) → slice_get (xs ++ y ∷ ys) (length xs) ≡ Some y
get_behind [] ys y = refl
get_behind (x ∷ xs) ys y = get_behind xs ys y

-- No message is delivered or answered before an earlier one of its end.
pub none_overtakes : (table : Table) (c : Certificate) (items : List Item) (events : List Event) (w : World)
    → Runs table events w
    → w.sent ≡ items → Follows c items events
    → (front more : List Item) (side : Side) (message : Message) (fate : Fate)
    → items ≡ front ++ Sent side message ∷ more
    → slice_get c.fates (length front) ≡ Some fate → is_overtaking side fate c.fates front ≡ false
none_overtakes table c items events w runs sent follows front more side message fate joined has =
    let at_here : slice_get items (length front) ≡ Some (Sent side message) =
    rw joined (get_behind front more (Sent side message)) in
    none_of_these side fate c.fates front
    (λ i one first there has_first. let below = slice_get_within front i (Sent side one) there in
    let at_first = ap (λ (l : List Item). slice_get l i) joined
    ∙ get_before front (Sent side message ∷ more) i below ∙ there in
    none_later table c items events w runs sent follows side i (length front) one message fate first below at_first
    at_here has_first has)
