-- Prompt certificates, and runs that deliver each message before the next is sent.
use Rattle.std.proofs.Common.{◌≡◌, ◌⊎◌, inl, inr, ℕ, ◌+◌, true, false, List, [], ◌∷◌, ◌++◌, length, Option, Some, None, Ok, arith, refl, sym, ap, subst, ◌∙◌, append_assoc, append-nil}
use Rattle.std.specs.List.{AllByRecursion}
use Rattle.std.proofs.lemmas.List.{length-append}
use Rattle.tcap_msg.specs.declared.message.AbortReason.TheVariants.{Cause, Dialogue as ByDialogue}
use Rattle.tcap_msg.specs.declared.message.Message.{Message}
use Rattle.tcap_msg.specs.declared.message.Message.TheVariants.{Unidirectional, Begin, Continue, End as EndMessage, Abort}
use Rattle.tcap_record.specs.declared.entry.End.{End as Side}
use Rattle.tcap_record.specs.declared.entry.End.TheVariants as sides
use Rattle.tcap_end.specs.End.{End}
use Rattle.tcap_end.specs.Message.{send}
use Rattle.tcap_end.specs.Table.{Table}
use Rattle.tcap_record.specs.Ends.{other}
use Rattle.tcap_model.specs.World.{Item, MessageInTransit, Sent, World, channel_from, empty, with_end}
use Rattle.tcap_model.specs.Run.{Event, Sends, Receives, Replies, Loses, Expires, Closes, Quiet, Tells, IsRunOf, Runs, after, joined, numbers_of, numbers_sent, numbers_taken, played, option_then}
use Rattle.tcap_certificate.specs.Certificate.{Certificate, IsPrompt, prompt}
use Rattle.tcap_certificate.specs.DescribedRun.{Follows, IsPlain, deliveries, is_loss, losses_from, without_losses}
use Rattle.tcap_check.specs.GivenRun.{DeliversAtOnce, IsVisible, is_over_or_sends}
use Rattle.tcap_model.proofs.ListLaws.{all_weaker}
use Rattle.tcap_model.proofs.RunLaws.{IsDelivery, delivery, grows, quiet, reply, sending}
use Rattle.tcap_model.proofs.RunLaws.{played_on}
use Rattle.tcap_model.proofs.ChannelLaws.{are_whole}
use Rattle.tcap_check.proofs.prompt_laws.PromptLaws.{prompt_plain}
use Rattle.tcap_check.proofs.prompt_laws.AtOnceRuns.{Prompt, balanced, delivery_of, event_of, fates_count, fates_in, fates_prompt, follows_prompt, has_no_cause, none_before, prompt_behind, prompt_follows, sent_both, sent_in}
use Rattle.tcap_check.proofs.prompt_laws.PromptLaws.{none_lost}

-- ---- lists

all_front : {A : Type 0} (P : A → Type 0) (xs ys : List A) → AllByRecursion P (xs ++ ys) → AllByRecursion P xs
all_front P [] ys all = tt
all_front P (x ∷ xs) ys all = (all.0, all_front P xs ys all.1)

nothing_more : {A : Type 0} (xs ys : List A) → xs ++ ys ≡ xs → ys ≡ []
nothing_more [] ys is = is
nothing_more (x ∷ xs) ys is = nothing_more xs ys cc

no_numbers : (messages : List MessageInTransit) → numbers_of messages ≡ [] → messages ≡ []
no_numbers [] is = refl
no_numbers (m ∷ messages) is = cc

-- ---- events

plain_stays : (event : Event) → IsPlain event → is_loss event ≡ false
plain_stays (Loses side number) plain = absurd plain
plain_stays (Sends side m) plain = refl
plain_stays (Receives side number) plain = refl
plain_stays (Replies side number) plain = refl
plain_stays (Expires side name id) plain = refl
plain_stays (Closes side name) plain = refl
plain_stays Quiet plain = refl
plain_stays (Tells side m) plain = refl

none_left_out : (events : List Event) → AllByRecursion (λ event. is_loss event ≡ false) events
    → without_losses events ≡ events
none_left_out [] all = refl
none_left_out (event ∷ events) all = rw (all.0, none_left_out events all.1) refl

-- What a plain step adds to the sent list.
step_sent : (table : Table) (event : Event) (w next : World) → after table event w ≡ Some next → IsPlain event
    → next.sent ≡ w.sent ++ sent_in (event ∷ [])
step_sent table (Sends side m) w next is plain =
    let g = grows table (Sends side m) w next is in g.2 ∙ ap (λ (items : List Item). w.sent ++ items) g.1
step_sent table (Receives side number) w next is plain =
    let g = grows table (Receives side number) w next is in g.2 ∙ ap (λ (items : List Item). w.sent ++ items) g.1
step_sent table (Replies side number) w next is plain = absurd plain
step_sent table (Loses side number) w next is plain = absurd plain
step_sent table (Expires side name id) w next is plain =
    let g = grows table (Expires side name id) w next is in g.2 ∙ ap (λ (items : List Item). w.sent ++ items) g.1
step_sent table (Closes side name) w next is plain = absurd plain
step_sent table Quiet w next is plain =
    let g = grows table Quiet w next is in g.2 ∙ ap (λ (items : List Item). w.sent ++ items) g.1
step_sent table (Tells side m) w next is plain = absurd plain

-- What plain steps add to the sent list.
plays_sent : (table : Table) (events : List Event) (w final : World) → played table events w ≡ Some final
    → AllByRecursion IsPlain events
    → final.sent ≡ w.sent ++ sent_in events
plays_sent table [] w final is plain = let same : final ≡ w = cc in rw same (sym (append-nil w.sent))
plays_sent table (event ∷ events) w final is plain =
    by (after table event w) refl (λ next on. plays_sent table events next final on plain.1) is
  where
    by : (o : Option World) → after table event w ≡ o
        → ((next : World) → played table events next ≡ Some final → final.sent ≡ next.sent ++ sent_in events)
        → option_then o (played table events) ≡ Some final → final.sent ≡ w.sent ++ sent_in (event ∷ events)
    by None at on is = cc
    by (Some next) at on is =
        on next is ∙ ap (λ (items : List Item). items ++ sent_in events) (step_sent table event w next at plain.0)
        ∙ append_assoc w.sent (sent_in (event ∷ [])) (sent_in events)
        ∙ ap (λ (items : List Item). w.sent ++ items) (sym (sent_both (event ∷ []) events))

-- ---- runs that a prompt certificate describes

-- A run that follows a prompt certificate delivers at once.
pub followed_at_once : (table : Table) (c : Certificate) (items : List Item) (events : List Event) → IsPrompt c
    → IsRunOf items table events
    → Follows c items events → DeliversAtOnce table events
followed_at_once table c items events is_prompt run follows before behind w split over runs =
    (empty_at sides.A, empty_at sides.B)
  where
    plain : AllByRecursion IsPlain events
    plain = prompt_plain c items events is_prompt follows

    gaps : Prompt 0 (deliveries 0 0 c.fates items) items events
    gaps = follows_prompt c items 0 [] items events is_prompt follows.counted refl refl
        (rw (none_left_out events (all_weaker IsPlain (λ event. is_loss event ≡ false) events plain_stays plain))
        at follows.gaps)

    prompt_run : Prompt 0 [] items events
    prompt_run = rw (none_before 0 0 c.fates items is_prompt.0 (omega arith)) at gaps

    sent : w.sent ≡ sent_in before
    sent = plays_sent table before empty w runs (all_front IsPlain before behind (rw split at plain))

    taken : (side : Side) → numbers_taken side before ≡ numbers_sent side 0 w.sent
    taken side = balanced side 0 [] items events before behind prompt_run tt refl split over
        ∙ ap (numbers_sent side 0) (sym sent)

    empty_at : (side : Side) → channel_from side w ≡ []
    empty_at side = no_numbers (channel_from side w)
        (nothing_more (numbers_taken side before) (numbers_of (channel_from side w))
        (are_whole table before w runs side ∙ sym (taken side)))

-- ---- runs that deliver at once

-- Nothing is on its way, or one message, whose delivery comes next.
abbrev Waits : World → List Event → Type 0
Waits w here = ((w.from_a ≡ []) × (w.from_b ≡ []) × (here ≡ []))
    ⊎ ((side : Side) × (on : MessageInTransit) × (channel_from side w ≡ on ∷ []) × (channel_from (other side) w ≡ [])
    × (here ≡ Receives (other side) on.number ∷ []))

-- nothing is on its way
abbrev IsFree : World → Type 0
IsFree w = (w.from_a ≡ []) × (w.from_b ≡ [])

-- The rest of the run from this world on is prompt.
abbrev IsLeft : World → World → List Event → List Event → Type 0
IsLeft w final here events =
    (left : List Item) × (final.sent ≡ w.sent ++ left) × Prompt (length w.sent) here left events

free_at : (side : Side) (w : World) → IsFree w → channel_from side w ≡ []
free_at sides.A w free = free.0
free_at sides.B w free = free.1

-- If nothing is on its way, no delivery comes next.
none_waits : (w : World) (here : List Event) → IsFree w → Waits w here → here ≡ []
none_waits w here free (inl (from_a, from_b, none)) = none
none_waits w here free (inr (side, on, full, other_free, is)) = let none = free_at side w free in cc

-- A message that an end sends is no Abort with a cause.
sends_no_cause : (table : Table) (e made : End) (side : Side) (m : Message) → send table e m ≡ Ok made
    → has_no_cause (Sent side m) ≡ true
sends_no_cause table e made side (Unidirectional dialogue components) is = refl
sends_no_cause table e made side (Begin otid dialogue components) is = refl
sends_no_cause table e made side (Continue otid dtid dialogue components) is = refl
sends_no_cause table e made side (EndMessage dtid dialogue components) is = refl
sends_no_cause table e made side (Abort dtid None) is = refl
sends_no_cause table e made side (Abort dtid (Some (ByDialogue dialogue))) is = refl
sends_no_cause table e made side (Abort dtid (Some (Cause cause))) is = cc

-- An item is added.
adds_item : (w next final : World) (here : List Event) (item : Item) (events : List Event) → here ≡ []
    → has_no_cause item ≡ true
    → next.sent ≡ w.sent ++ item ∷ [] → IsLeft next final (delivery_of (length w.sent) item) events
    → IsLeft w final here (event_of item ∷ events)
adds_item w next final here item events none so sent (left, final_is, on) =
    let n = length w.sent in
    let number : length next.sent ≡ n + 1 = ap length sent ∙ length-append w.sent (item ∷ []) in (
      item ∷ left,
      final_is ∙ ap (λ (items : List Item). items ++ left) sent ∙ append_assoc w.sent (item ∷ []) left,
      (
        [],
        events,
        tt,
        so,
        ap (λ (first : List Event). first ++ [] ++ event_of item ∷ events) (sym none),
        subst (λ (k : ℕ). Prompt k (delivery_of n item) left events) number on,
      ),
    )

-- A message that was sent is alone on its way.
sent_waits : (side : Side) (m : Message) (made : End) (w : World) → IsFree w
    → Waits (joined side m (with_end side made w)) (delivery_of (length w.sent) (Sent side m))
sent_waits sides.A m made w free =
    let on : MessageInTransit = record { number = length w.sent; message = m } in
    inr (sides.A, on, ap (λ (more : List MessageInTransit). more ++ on ∷ []) free.0, free.1, refl)
sent_waits sides.B m made w free =
    let on : MessageInTransit = record { number = length w.sent; message = m } in
    inr (sides.B, on, ap (λ (more : List MessageInTransit). more ++ on ∷ []) free.1, free.0, refl)

alone : (on head : MessageInTransit) (more : List MessageInTransit) → on ∷ [] ≡ head ∷ more → (on.number ≡ head.number) × (more ≡ [])
alone on head more is = let same : on ≡ head = cc in (ap (λ (m : MessageInTransit). m.number) same, cc)

-- After the message is received, nothing is on its way, and nothing was sent.
received_free : (table : Table) (side receiver : Side) (on : MessageInTransit) (number : ℕ) (w next : World)
    → channel_from side w ≡ on ∷ []
    → channel_from (other side) w ≡ [] → IsDelivery table receiver number w next
    → IsFree next × (next.sent ≡ w.sent) × (Receives (other side) on.number ≡ Receives receiver number)
received_free table sides.A sides.A on number w next full free d = let channel = d.channel in cc
received_free table sides.B sides.B on number w next full free d = let channel = d.channel in cc
received_free table sides.A sides.B on number w next full free d =
    let same = alone on d.head d.more (sym full ∙ d.channel) in (
      (ap (λ (v : World). v.from_a) d.next_is ∙ same.1, ap (λ (v : World). v.from_b) d.next_is ∙ free),
      ap (λ (v : World). v.sent) d.next_is,
      ap (Receives sides.B) (same.0 ∙ d.number_is),
    )
received_free table sides.B sides.A on number w next full free d =
    let same = alone on d.head d.more (sym full ∙ d.channel) in (
      (ap (λ (v : World). v.from_a) d.next_is ∙ free, ap (λ (v : World). v.from_b) d.next_is ∙ same.1),
      ap (λ (v : World). v.sent) d.next_is,
      ap (Receives sides.A) (same.0 ∙ d.number_is),
    )

-- One step of such a run, and the rest after it.
one_step : (table : Table) (event : Event) (events : List Event) (w next final : World) (here : List Event)
    → (is_over_or_sends (event ∷ events) ≡ true → IsFree w) → IsVisible event → after table event w ≡ Some next
    → Waits w here
    → ((later : List Event) → Waits next later → IsLeft next final later events) → IsLeft w final here (event ∷ events)
one_step table (Sends side m) events w next final here free seen is waits on =
    let s = sending table side m w next is in
    let g = grows table (Sends side m) w next is in
    let waiting : Waits next (delivery_of (length w.sent) (Sent side m)) =
    subst (λ (v : World). Waits v (delivery_of (length w.sent) (Sent side m))) (sym s.next_is)
    (sent_waits side m s.made w (free refl)) in
    adds_item w next final here (Sent side m) events (none_waits w here (free refl) waits)
    (sends_no_cause table _ s.made side m s.step)
    (g.2 ∙ ap (λ (items : List Item). w.sent ++ items) g.1) (on _ waiting)
one_step table Quiet events w next final here free seen is waits on =
    let q = quiet table w next is in
    let g = grows table Quiet w next is in
    adds_item w next final here Item.Quiet events (none_waits w here (free refl) waits) refl
    (g.2 ∙ ap (λ (items : List Item). w.sent ++ items) g.1)
    (on [] (inl (ap (λ (v : World). v.from_a) q.next_is, ap (λ (v : World). v.from_b) q.next_is, refl)))
one_step table (Receives side number) events w next final here free seen is waits on = by waits
  where
    by : Waits w here → IsLeft w final here (Receives side number ∷ events)
    by (inl (from_a, from_b, none)) =
        let d = delivery table side number w next is in
        let channel = d.channel in
        let empty_there = free_at (other side) w (from_a, from_b) in cc
    by (inr (sender, waiting, full, other_free, here_is)) =
        let d = delivery table side number w next is in
        let r = received_free table sender side waiting number w next full other_free d in
        let rest = on [] (inl (r.0.0, r.0.1, refl)) in
        let first : here ≡ Receives side number ∷ [] = here_is ∙ ap (λ (e : Event). e ∷ []) r.2 in (
          rest.0,
          rest.1 ∙ ap (λ (items : List Item). items ++ rest.0) r.1,
          subst (λ (h : List Event). Prompt (length w.sent) h rest.0 (Receives side number ∷ events)) (sym first)
              (prompt_behind (length w.sent) (Receives side number) rest.0 events
              (subst (λ (items : List Item). Prompt (length items) [] rest.0 events) r.1 rest.2)),
        )
one_step table (Replies side number) events w next final here free seen is waits on =
    let r = reply table side number w next is in
    let channel = r.channel in
    let empty_there = free_at (other side) w (free refl) in cc
one_step table (Loses side number) events w next final here free seen is waits on = absurd seen
one_step table (Expires side name id) events w next final here free seen is waits on = absurd seen
one_step table (Closes side name) events w next final here free seen is waits on = absurd seen
one_step table (Tells side m) events w next final here free seen is waits on = absurd seen

-- The rest of a run that delivers at once is prompt.
walked : (table : Table) (events before : List Event) (w final : World) (here : List Event) → Runs table before w
    → played table events w ≡ Some final → AllByRecursion IsVisible events → DeliversAtOnce table (before ++ events)
    → Waits w here
    → IsLeft w final here events
walked table [] before w final here ran is seen at_once waits =
    let same : final ≡ w = cc in
    let free : IsFree w = at_once before [] w refl refl ran in
    ([], rw same (sym (append-nil w.sent)), sym (none_waits w here free waits))
walked table (event ∷ events) before w final here ran is seen at_once waits =
    by (after table event w) refl
    (λ next later ran_on is_on waits_on.
    walked table events (before ++ event ∷ []) next final later ran_on is_on seen.1 at_once_on waits_on) is
  where
    at_once_on : DeliversAtOnce table ((before ++ event ∷ []) ++ events)
    at_once_on = rw (append_assoc before (event ∷ []) events) at_once

    by : (o : Option World) → after table event w ≡ o
        → ((next : World) (later : List Event) → Runs table (before ++ event ∷ []) next
        → played table events next ≡ Some final
        → Waits next later → IsLeft next final later events)
        → option_then o (played table events) ≡ Some final → IsLeft w final here (event ∷ events)
    by None at on is = cc
    by (Some next) at on is =
        let ran_on : Runs table (before ++ event ∷ []) next =
        played_on table before (event ∷ []) empty w ran ∙ ap (λ (o : Option World). option_then o (played table [])) at in
        one_step table event events w next final here (λ over. at_once before (event ∷ events) w refl over ran)
        seen.0 at waits (λ later waits_on. on next later ran_on is waits_on)

seen_stays : (event : Event) → IsVisible event → is_loss event ≡ false
seen_stays (Loses side number) seen = absurd seen
seen_stays (Sends side m) seen = refl
seen_stays (Receives side number) seen = refl
seen_stays (Replies side number) seen = refl
seen_stays (Expires side name id) seen = refl
seen_stays (Closes side name) seen = refl
seen_stays Quiet seen = refl
seen_stays (Tells side m) seen = refl

no_losses : (side : Side) (events : List Event) → AllByRecursion IsVisible events → losses_from side events ≡ []
no_losses side [] seen = refl
no_losses side (Loses sender number ∷ events) seen = absurd seen.0
no_losses side (Sends sender m ∷ events) seen = no_losses side events seen.1
no_losses side (Receives receiver number ∷ events) seen = no_losses side events seen.1
no_losses side (Replies replier number ∷ events) seen = no_losses side events seen.1
no_losses side (Expires place name id ∷ events) seen = no_losses side events seen.1
no_losses side (Closes place name ∷ events) seen = no_losses side events seen.1
no_losses side (Quiet ∷ events) seen = no_losses side events seen.1
no_losses side (Tells sender m ∷ events) seen = no_losses side events seen.1

-- A prompt certificate describes each run that delivers at once and has no hidden step.
pub at_once_follows : (table : Table) (items : List Item) (events : List Event) → IsRunOf items table events
    → AllByRecursion IsVisible events
    → DeliversAtOnce table events → Follows (prompt (length items)) items events
at_once_follows table items events (w, runs, sent) seen at_once = record {
  counted = counted;
  fates = fates_in (length items) 0 (length items) (omega arith);
  closings = tt;
  expiries = tt;
  gaps = rw (none_left_out events (all_weaker IsVisible (λ event. is_loss event ≡ false) events seen_stays seen))
      (prompt_follows c items 0 [] [] items events is_prompt counted refl refl
      (sym (none_before 0 0 c.fates items is_prompt.0 (omega arith))) is);
  losses = λ side. no_losses side events seen ∙ sym (none_lost side 0 0 c.fates items is_prompt.0);
}
  where
    c : Certificate
    c = prompt (length items)

    counted : length c.fates ≡ length items
    counted = fates_count 0 (length items)

    is_prompt : IsPrompt c
    is_prompt = (fates_prompt 0 (length items), refl, refl)

    left : IsLeft empty w [] events
    left = walked table events [] empty w [] refl runs seen at_once (inl (refl, refl, refl))

    is : Prompt 0 [] items events
    is = subst (λ (xs : List Item). Prompt 0 [] xs events) (sym left.1 ∙ sent) left.2
