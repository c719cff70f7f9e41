-- The events of a prompt certificate: each item, and just after it the delivery of its message.
use Rattle.std.proofs.Common.{◌≡◌, ◌≤◌, ◌<◌, ℕ, zero, suc, ◌+◌, ◌==◌, arith, Bool, true, false, List, [], ◌∷◌, ◌++◌, map, length, Option, Some, None, refl, sym, ap, ap₂, subst, ◌∙◌, append_assoc, append-nil}
use Rattle.std.specs.Prelude.{slice_get}
use Rattle.std.specs.List.{AllByRecursion}
use Rattle.std.proofs.lemmas.Bool.{eq-eqb, ne_eqb}
use Rattle.std.proofs.lemmas.List.{length-append}
use Rattle.tcap_msg.specs.declared.message.AbortReason.TheVariants.{Cause, Dialogue as ByDialogue}
use Rattle.tcap_msg.specs.declared.message.Message.TheVariants.{Unidirectional, Begin, Continue, End as EndMessage, Abort}
use Rattle.tcap_record.specs.declared.entry.End.{End as Side}
use Rattle.tcap_record.specs.declared.entry.End.TheVariants as sides
use Rattle.tcap_record.specs.Ends.{other}
use Rattle.tcap_model.specs.World.{Item, Sent}
use Rattle.tcap_model.specs.Run.{Event, Sends, Receives, Replies, Loses, Expires, Closes, Quiet, Tells, numbers_sent, numbers_taken, only_if}
use Rattle.tcap_certificate.specs.declared.certificate.Fate.{Fate}
use Rattle.tcap_certificate.specs.declared.certificate.Fate.TheVariants.{Gap, Lost, By}
use Rattle.tcap_certificate.specs.Certificate.{Certificate, IsPrompt, prompt_fates, prompt_from}
use Rattle.tcap_certificate.specs.DescribedRun.{FatesFit, FollowsFrom, IsImplied, deliveries, gap_events, quiet_by, sending, taken_by}
use Rattle.tcap_check.specs.GivenRun.{is_over_or_sends}
use Rattle.tcap_model.proofs.ListLaws.{all_both}
use Rattle.tcap_model.proofs.RunLaws.{same_events}
use Rattle.tcap_check.proofs.prompt_laws.PromptLaws.{none_taken}
use Rattle.tcap_check.proofs.given_run_lemmas.NumberLaws.{taken_both}
use Rattle.tcap_check.proofs.replay_laws.ReplayGaps.{all_implied}

-- ---- prompt fates

-- The fate of each entry is the next gap.
fate_at : (n i : ℕ) (fates : List Fate) → prompt_from n fates → i < length fates
    → slice_get fates i ≡ Some (Gap (n + i + 1))
fate_at n i [] prompt below = absurd (omega (arith, below))
fate_at n zero (fate ∷ fates) prompt below =
    let place : n + 0 ≡ n = omega arith in rw place (ap (λ (f : Fate). Some f) prompt.0)
fate_at n (suc i) (fate ∷ fates) prompt below =
    let place : n + suc i ≡ (n + 1) + i = omega arith in
    rw place (fate_at (n + 1) i fates prompt.1 (omega (arith, below)))

pub fates_prompt : (n count : ℕ) → prompt_from n (prompt_fates n count)
fates_prompt n zero = tt
fates_prompt n (suc count) = (refl, fates_prompt (n + 1) count)

pub fates_count : (n count : ℕ) → length (prompt_fates n count) ≡ count
fates_count n zero = refl
fates_count n (suc count) = ap suc (fates_count (n + 1) count)

pub fates_in : (all n count : ℕ) → n + count ≤ all → FatesFit all n (prompt_fates n count)
fates_in all n zero within = tt
fates_in all n (suc count) within =
    (omega arith, omega (arith, within), fates_in all (n + 1) count (omega (arith, within)))

-- ---- gaps

-- the delivery of the item with this number
abbrev pub delivery_of : ℕ → Item → List Event
delivery_of n (Sent side message) = Receives (other side) n ∷ []
delivery_of n Item.Quiet = []

-- Nothing is delivered before it is sent.
pub none_before : (gap n : ℕ) (fates : List Fate) (items : List Item) → prompt_from n fates → gap ≤ n
    → deliveries gap n fates items ≡ []
none_before gap n [] items prompt below = refl
none_before gap n (fate ∷ fates) [] prompt below = refl
none_before gap n (Gap g ∷ fates) (Sent side message ∷ items) prompt below =
    let place : g ≡ n + 1 = let is = prompt.0 in cc in
    let later : (g == gap) ≡ false = ne_eqb g gap (λ e. omega (arith, below, place, e)) in
    rw later (none_before gap (n + 1) fates items prompt.1 (omega (arith, below)))
none_before gap n (Gap g ∷ fates) (Item.Quiet ∷ items) prompt below =
    none_before gap (n + 1) fates items prompt.1 (omega (arith, below))
none_before gap n (Lost ∷ fates) (item ∷ items) prompt below = let bad = prompt.0 in cc
none_before gap n (By k ∷ fates) (item ∷ items) prompt below = let bad = prompt.0 in cc

-- The gap after an item delivers only this item.
deliveries_behind : (gap n : ℕ) (fates : List Fate) (front : List Item) (item : Item) (more : List Item)
    → prompt_from n fates
    → length fates ≡ length (front ++ item ∷ more) → gap ≡ n + length front
    → deliveries (gap + 1) n fates (front ++ item ∷ more) ≡ delivery_of gap item
deliveries_behind gap n [] [] item more prompt counted at = cc
deliveries_behind gap n [] (f ∷ front) item more prompt counted at = cc
deliveries_behind gap n (Lost ∷ fates) front item more prompt counted at = let bad = prompt.0 in cc
deliveries_behind gap n (By k ∷ fates) front item more prompt counted at = let bad = prompt.0 in cc
deliveries_behind gap n (Gap g ∷ fates) [] Item.Quiet more prompt counted at =
    none_before (gap + 1) (n + 1) fates more prompt.1 (omega (arith, at))
deliveries_behind gap n (Gap g ∷ fates) [] (Sent side message) more prompt counted at =
    let place : g ≡ n + 1 = let is = prompt.0 in cc in
    let same : n ≡ gap = omega (arith, at) in
    let now : (g == gap + 1) ≡ true = eq-eqb g (gap + 1) (omega (arith, place, same)) in
    rw (now, none_before (gap + 1) (n + 1) fates more prompt.1 (omega (arith, at)), same) refl
deliveries_behind gap n (Gap g ∷ fates) (Item.Quiet ∷ front) item more prompt counted at =
    deliveries_behind gap (n + 1) fates front item more prompt.1 (omega (arith, counted)) (omega (arith, at))
deliveries_behind gap n (Gap g ∷ fates) (Sent side message ∷ front) item more prompt counted at =
    let place : g ≡ n + 1 = let is = prompt.0 in cc in
    let later : (g == gap + 1) ≡ false = ne_eqb g (gap + 1) (λ e. omega (arith, at, place, e)) in
    rw later (deliveries_behind gap (n + 1) fates front item more prompt.1 (omega (arith, counted)) (omega (arith, at)))

-- ---- events

-- the event that adds an item
abbrev pub event_of : Item → Event
event_of (Sent side message) = Sends side message
event_of Item.Quiet = Quiet

-- whether an item is no Abort with a cause, which only a provider sends
abbrev pub has_no_cause : Item → Bool
has_no_cause (Sent side (Abort dtid (Some (Cause cause)))) = false
has_no_cause _ = true

-- The events are first these, and then each item, with the expiries that it implies just before it and its delivery
-- just after it. The first of the items has number n.
abbrev pub Prompt : ℕ → List Event → List Item → List Event → Type 0
Prompt n here [] events = events ≡ here
Prompt n here (item ∷ more) events =
    (implied rest : List Event) × AllByRecursion (IsImplied item) implied × (has_no_cause item ≡ true)
    × (events ≡ here ++ implied ++ event_of item ∷ rest) × Prompt (n + 1) (delivery_of n item) more rest

-- One more delivery comes first.
pub prompt_behind : (n : ℕ) (event : Event) (left : List Item) (events : List Event) → Prompt n [] left events
    → Prompt n (event ∷ []) left (event ∷ events)
prompt_behind n event [] events is = ap (λ (more : List Event). event ∷ more) is
prompt_behind n event (item ∷ more) events (implied, rest, all, so, events_are, on) =
    (implied, rest, all, so, ap (λ (others : List Event). event ∷ others) events_are, on)

a_send : (sends event : Event) → Some sends ≡ Some event → event ≡ sends
a_send sends event is = cc

-- The event that sends an item, if the item takes no message.
sends_is : (c : Certificate) (n : ℕ) (item : Item) (event : Event) → taken_by n 0 c.fates ≡ []
    → sending c n item ≡ Some event
    → (event ≡ event_of item) × (has_no_cause item ≡ true)
sends_is c n (Sent side (Unidirectional dialogue components)) event none is = (a_send _ event (rw none at is), refl)
sends_is c n (Sent side (Begin otid dialogue components)) event none is = (a_send _ event (rw none at is), refl)
sends_is c n (Sent side (Continue otid dtid dialogue components)) event none is = (a_send _ event (rw none at is), refl)
sends_is c n (Sent side (EndMessage dtid dialogue components)) event none is = (a_send _ event (rw none at is), refl)
sends_is c n (Sent side (Abort dtid None)) event none is = (a_send _ event (rw none at is), refl)
sends_is c n (Sent side (Abort dtid (Some (ByDialogue dialogue)))) event none is =
    (a_send _ event (rw none at is), refl)
sends_is c n (Sent side (Abort dtid (Some (Cause cause)))) event none is =
    let bad : None ≡ Some event = rw none at is in cc
sends_is c n Item.Quiet event none is = (by (slice_get c.fates n) (rw none at is), refl)
  where
    quiet : (b : Bool) → only_if b (Some Quiet) ≡ Some event → event ≡ Quiet
    quiet true is = cc
    quiet false is = cc

    by : (fate : Option Fate) → quiet_by n fate ≡ Some event → event ≡ Quiet
    by None is = cc
    by (Some (Gap g)) is = quiet (g == n + 1) is
    by (Some Lost) is = cc
    by (Some (By k)) is = cc

-- An item that takes no message is sent by this event.
sends_so : (c : Certificate) (n : ℕ) (item : Item) → taken_by n 0 c.fates ≡ []
    → slice_get c.fates n ≡ Some (Gap (n + 1))
    → has_no_cause item ≡ true → sending c n item ≡ Some (event_of item)
sends_so c n (Sent side (Unidirectional dialogue components)) none at so = rw none refl
sends_so c n (Sent side (Begin otid dialogue components)) none at so = rw none refl
sends_so c n (Sent side (Continue otid dtid dialogue components)) none at so = rw none refl
sends_so c n (Sent side (EndMessage dtid dialogue components)) none at so = rw none refl
sends_so c n (Sent side (Abort dtid None)) none at so = rw none refl
sends_so c n (Sent side (Abort dtid (Some (ByDialogue dialogue)))) none at so = rw none refl
sends_so c n (Sent side (Abort dtid (Some (Cause cause)))) none at so = cc
sends_so c n Item.Quiet none at so = rw (none, at, eq-eqb (n + 1) (n + 1) refl) refl

-- If no hidden event is listed, a gap has only deliveries.
gap_is : (c : Certificate) (items : List Item) (gap : ℕ) (here : List Event) → IsPrompt c
    → map Some here ≡ gap_events c items gap
    → here ≡ deliveries gap 0 c.fates items
gap_is c items gap here prompt is = same_events here (deliveries gap 0 c.fates items) (rw (prompt.1, prompt.2) at is)

gap_so : (c : Certificate) (items : List Item) (gap : ℕ) (here : List Event) → IsPrompt c
    → here ≡ deliveries gap 0 c.fates items
    → map Some here ≡ gap_events c items gap
gap_so c items gap here prompt is = rw (prompt.1, prompt.2) (ap (map Some) is)

next_front : (items front : List Item) (item : Item) (more : List Item) → items ≡ front ++ item ∷ more
    → items ≡ (front ++ item ∷ []) ++ more
next_front items front item more joined = joined ∙ sym (append_assoc front (item ∷ []) more)

next_gap : (gap : ℕ) (front : List Item) (item : Item) → gap ≡ length front → gap + 1 ≡ length (front ++ item ∷ [])
next_gap gap front item at = ap (λ (n : ℕ). n + 1) at ∙ sym (length-append front (item ∷ []))

delivered_next : (c : Certificate) (items : List Item) (gap : ℕ) (front : List Item) (item : Item) (more : List Item)
    → IsPrompt c
    → length c.fates ≡ length items → items ≡ front ++ item ∷ more → gap ≡ length front
    → deliveries (gap + 1) 0 c.fates items ≡ delivery_of gap item
delivered_next c items gap front item more prompt counted joined at =
    let place : gap ≡ 0 + length front = omega (arith, at) in
    ap (λ (x : List Item). deliveries (gap + 1) 0 c.fates x) joined
    ∙ deliveries_behind gap 0 c.fates front item more prompt.0 (counted ∙ ap length joined) place

-- Events that follow a prompt certificate are of this form.
pub follows_prompt : (c : Certificate) (items : List Item) (gap : ℕ) (front left : List Item) (events : List Event)
    → IsPrompt c
    → length c.fates ≡ length items → items ≡ front ++ left → gap ≡ length front → FollowsFrom c items gap left events
    → Prompt gap (deliveries gap 0 c.fates items) left events
follows_prompt c items gap front [] events prompt counted joined at follows = gap_is c items gap events prompt follows
follows_prompt c items gap front (item ∷ more) events prompt counted joined at follows =
    let (here, implied, rest, sends, here_is, all, made, events_are, on) = follows in
    let one = sends_is c gap item sends (none_taken 0 gap 0 c.fates prompt.0) made in
    let delivered = gap_is c items gap here prompt here_is in
    let behind = follows_prompt c items (gap + 1) (front ++ item ∷ []) more rest prompt counted
    (next_front items front item more joined) (next_gap gap front item at) on in (
      implied,
      rest,
      all,
      one.1,
      events_are ∙ ap (λ (x : List Event). x ++ implied ++ sends ∷ rest) delivered
          ∙ ap (λ (x : Event). deliveries gap 0 c.fates items ++ implied ++ x ∷ rest) one.0,
      subst (λ (x : List Event). Prompt (gap + 1) x more rest)
          (delivered_next c items gap front item more prompt counted joined at) behind,
    )

-- Events of this form follow a prompt certificate.
pub prompt_follows : (c : Certificate) (items : List Item) (gap : ℕ) (here : List Event) (front left : List Item)
    (events : List Event) → IsPrompt c
    → length c.fates ≡ length items → items ≡ front ++ left → gap ≡ length front → here ≡ deliveries gap 0 c.fates items
    → Prompt gap here left events → FollowsFrom c items gap left events
prompt_follows c items gap here front [] events prompt counted joined at here_is is =
    gap_so c items gap events prompt (is ∙ here_is)
prompt_follows c items gap here front (item ∷ more) events prompt counted joined at here_is is =
    let (implied, rest, all, so, events_are, on) = is in
    let below : gap < length c.fates = rw (counted, joined, length-append front (item ∷ more), at) (omega arith) in
    let place : 0 + gap + 1 ≡ gap + 1 = omega arith in
    let fate : slice_get c.fates gap ≡ Some (Gap (gap + 1)) =
    fate_at 0 gap c.fates prompt.0 below ∙ ap (λ (n : ℕ). Some (Gap n)) place in (
      here,
      implied,
      rest,
      event_of item,
      gap_so c items gap here prompt here_is,
      all,
      sends_so c gap item (none_taken 0 gap 0 c.fates prompt.0) fate so,
      events_are,
      prompt_follows c items (gap + 1) (delivery_of gap item) (front ++ item ∷ []) more rest prompt counted
          (next_front items front item more joined) (next_gap gap front item at)
          (sym (delivered_next c items gap front item more prompt counted joined at)) on,
    )

-- ---- sent and taken messages

-- the items that events add to the sent list
abbrev pub sent_in : List Event → List Item
sent_in [] = []
sent_in (Sends side message ∷ events) = Sent side message ∷ sent_in events
sent_in (Quiet ∷ events) = Item.Quiet ∷ sent_in events
sent_in (_ ∷ events) = sent_in events

-- The event sends nothing.
abbrev IsSilent : Event → Type 0
IsSilent event = (events : List Event) → is_over_or_sends (event ∷ events) ≡ false

pub sent_both : (xs ys : List Event) → sent_in (xs ++ ys) ≡ sent_in xs ++ sent_in ys
sent_both [] ys = refl
sent_both (Sends side m ∷ xs) ys = ap (λ (items : List Item). Sent side m ∷ items) (sent_both xs ys)
sent_both (Quiet ∷ xs) ys = ap (λ (items : List Item). Item.Quiet ∷ items) (sent_both xs ys)
sent_both (Receives side number ∷ xs) ys = sent_both xs ys
sent_both (Replies side number ∷ xs) ys = sent_both xs ys
sent_both (Loses side number ∷ xs) ys = sent_both xs ys
sent_both (Expires side name id ∷ xs) ys = sent_both xs ys
sent_both (Closes side name ∷ xs) ys = sent_both xs ys
sent_both (Tells side m ∷ xs) ys = sent_both xs ys

nothing_before : {A : Type 0} (xs ys : List A) → xs ++ ys ≡ [] → xs ≡ []
nothing_before [] ys is = refl
nothing_before (x ∷ xs) ys is = cc

-- After events that send nothing comes a send, or the end.
skips : (front tail before behind : List Event) → AllByRecursion IsSilent front → front ++ tail ≡ before ++ behind
    → is_over_or_sends behind ≡ true → (later : List Event) × (before ≡ front ++ later) × (tail ≡ later ++ behind)
skips [] tail before behind silent split over = (before, refl, split)
skips (event ∷ front) tail [] behind silent split over =
    let sends : is_over_or_sends (event ∷ front ++ tail) ≡ true = ap is_over_or_sends split ∙ over in
    let none : true ≡ false = sym sends ∙ silent.0 (front ++ tail) in cc
skips (event ∷ front) tail (first ∷ before) behind silent split over =
    let rest : front ++ tail ≡ before ++ behind = cc in
    let same : first ≡ event = cc in
    let (later, before_is, tail_is) = skips front tail before behind silent.1 rest over in
    (later, ap₂ (λ (e : Event) (events : List Event). e ∷ events) same before_is, tail_is)

-- Expiries that an item implies send nothing.
implied_silent : (item : Item) (events : List Event) → AllByRecursion (IsImplied item) events
    → AllByRecursion IsSilent events × (sent_in events ≡ []) × ((side : Side) → numbers_taken side events ≡ [])
implied_silent item [] all = (tt, refl, λ side. refl)
implied_silent item (event ∷ events) all =
    let one = all_implied Adds item (event ∷ []) (λ side name id more. (λ later. refl, refl, λ at. refl)) (all.0, tt) in
    let more = implied_silent item events all.1 in
    let first = one.0 events in ((first.0, more.0), first.1 ∙ more.1, λ side. first.2 side ∙ more.2 side)
  where
    -- The event sends nothing and takes nothing.
    Adds : Event → Type 0
    Adds event = (more : List Event) → IsSilent event × (sent_in (event ∷ more) ≡ sent_in more)
        × ((side : Side) → numbers_taken side (event ∷ more) ≡ numbers_taken side more)

delivery_silent : (n : ℕ) (item : Item)
    → AllByRecursion IsSilent (delivery_of n item) × (sent_in (delivery_of n item) ≡ [])
delivery_silent n (Sent side message) = ((λ more. refl, tt), refl)
delivery_silent n Item.Quiet = (tt, refl)

-- The delivery of an item takes what the item sends.
delivery_takes : (side : Side) (n : ℕ) (item : Item) (items : List Item)
    → numbers_taken side (delivery_of n item) ++ numbers_sent side (n + 1) items ≡ numbers_sent side n (item ∷ items)
delivery_takes sides.A n (Sent sides.A message) items = refl
delivery_takes sides.A n (Sent sides.B message) items = refl
delivery_takes sides.B n (Sent sides.A message) items = refl
delivery_takes sides.B n (Sent sides.B message) items = refl
delivery_takes side n Item.Quiet items = refl

-- A send takes nothing and adds its item.
event_adds : (side : Side) (item : Item) (events : List Event)
    → (numbers_taken side (event_of item ∷ events) ≡ numbers_taken side events)
    × (sent_in (event_of item ∷ events) ≡ item ∷ sent_in events)
event_adds side (Sent sender message) events = (refl, refl)
event_adds side Item.Quiet events = (refl, refl)

-- If a send or the end comes next, all messages that were sent were taken.
pub balanced : (side : Side) (n : ℕ) (here : List Event) (left : List Item) (events before behind : List Event)
    → Prompt n here left events
    → AllByRecursion IsSilent here → sent_in here ≡ [] → events ≡ before ++ behind → is_over_or_sends behind ≡ true
    → numbers_taken side before ≡ numbers_taken side here ++ numbers_sent side n (sent_in before)
balanced side n here [] events before behind is silent none split over =
    let (later, before_is, tail_is) = skips here [] before behind silent (append-nil here ∙ sym is ∙ split) over in
    let nothing : later ≡ [] = nothing_before later behind (sym tail_is) in
    let same : before ≡ here = before_is ∙ ap (λ (events : List Event). here ++ events) nothing ∙ append-nil here in
    rw (same, none) (sym (append-nil (numbers_taken side here)))
balanced side n here (item ∷ more) events before behind (implied, rest, all, so, are, on) silent none split over =
    let quiet = implied_silent item implied all in
    let (later, before_is, tail_is) = skips (here ++ implied) (event_of item ∷ rest) before behind
    (all_both IsSilent here implied silent quiet.0) (sym are ∙ split) over in
    let taken : numbers_taken side before ≡ numbers_taken side here ++ numbers_taken side later =
    ap (numbers_taken side) before_is ∙ taken_both side (here ++ implied) later
    ∙ ap (λ (numbers : List ℕ). numbers ++ numbers_taken side later)
    (taken_both side here implied ∙ ap (λ (numbers : List ℕ). numbers_taken side here ++ numbers) (quiet.2 side)
    ∙ append-nil (numbers_taken side here)) in
    let sent : sent_in before ≡ sent_in later =
    ap sent_in before_is ∙ sent_both (here ++ implied) later
    ∙ ap (λ (items : List Item). items ++ sent_in later)
    (sent_both here implied ∙ ap₂ (λ (xs ys : List Item). xs ++ ys) none quiet.1) in
    let left : numbers_taken side later ≡ numbers_sent side n (sent_in later) =
    by later tail_is
    (λ last split.
    balanced side (n + 1) (delivery_of n item) more rest last behind on (delivery_silent n item).0
    (delivery_silent n item).1 split over) in
    rw (taken, sent, left) refl
  where
    by : (later : List Event) → event_of item ∷ rest ≡ later ++ behind
        → ((last : List Event) → rest ≡ last ++ behind
        → numbers_taken side last ≡ numbers_taken side (delivery_of n item) ++ numbers_sent side (n + 1) (sent_in last))
        → numbers_taken side later ≡ numbers_sent side n (sent_in later)
    by [] split on = refl
    by (event ∷ last) split on =
        let same : event ≡ event_of item = cc in
        let adds = event_adds side item last in
        let left = on last cc in
        rw (same, adds.0, adds.1, left) (delivery_takes side n item (sent_in last))
