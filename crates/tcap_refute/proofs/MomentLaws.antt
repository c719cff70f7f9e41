-- Each message of a run has a moment: a run to the world before it, in which its end sends it, or its provider
-- replies with it.
use Rattle.std.proofs.Common.{◌≡◌, ℕ, ◌⊎◌, inl, inr, true, false, List, [], ◌∷◌, ◌++◌, Some, Ok, refl, sym, ap, ◌∙◌}
use Rattle.std.proofs.lemmas.Bool.{or_parts}
use Rattle.std.proofs.lemmas.List.{append-nil}
use Rattle.tcap_msg.specs.declared.message.Message.{Message}
use Rattle.tcap_record.specs.declared.entry.End.{End as Side}
use Rattle.tcap_end.specs.Table.{Table}
use Rattle.tcap_end.specs.End.{End}
use Rattle.tcap_end.specs.Message.{send}
use Rattle.tcap_record.specs.Ends.{other}
use Rattle.tcap_model.specs.World.{Item, MessageInTransit, Sent, World, channel_from, end_at, with_channel}
use Rattle.tcap_model.specs.Run.{Adds, Event, Sends, Receives, Replies, Loses, Expires, Closes, Quiet, Tells, KeepsRules, Runs, after, is_tells_by, reply_to, has_tells_by}
use Rattle.tcap_model.proofs.WorldLaws.{itself, sent_joined, sent_with_channel}
use Rattle.tcap_model.proofs.RunLaws.{IsReply, grows, reply, runs_keep, sending}

-- The end sends the message next.
abbrev pub SendsIt : Table → World → Side → Message → Type 0
SendsIt table w side message = (made : End) × (send table (end_at side w) message ≡ Ok made)

-- The end's provider replies with the message to the oldest message that is on its way from the peer.
abbrev pub RepliesIt : World → Side → Message → Type 0
RepliesIt w side message =
    (head : MessageInTransit) × (more : List MessageInTransit) × (channel_from (other side) w ≡ head ∷ more)
    × (reply_to (end_at side w) head.message ≡ Some message)

-- There is a run that sent these items, in which the end keeps the rules, and after which the message is sent next.
pub record IsMoment (table : Table) (side : Side) (before : List Item) (message : Message) : Type 0 where
  pub events : List Event
  pub world : World
  pub runs : Runs table events world
  pub keeps : KeepsRules side events
  pub sent : world.sent ≡ before
  pub how : SendsIt table world side message ⊎ RepliesIt world side message

-- ---- lists with one more item

-- An item of such a list is the last, or is in the list without the last.
pub last_or_before : (item at : Item) (items front behind : List Item) → items ++ item ∷ [] ≡ front ++ at ∷ behind
    → ((item ≡ at) × (items ≡ front)) ⊎ ((rest : List Item) × (items ≡ front ++ at ∷ rest))
last_or_before item at [] [] behind is = inl (cc, refl)
last_or_before item at [] (f ∷ front) behind is = none front cc
  where
    none : {P : Type 0} (front : List Item) → [] ≡ front ++ at ∷ behind → P
    none [] is = cc
    none (g ∷ front) is = cc
last_or_before item at (i ∷ items) [] behind is = inr (items, cc)
last_or_before item at (i ∷ items) (f ∷ front) behind is = by (cc) (last_or_before item at items front behind cc)
  where
    by : i ≡ f → ((item ≡ at) × (items ≡ front)) ⊎ ((rest : List Item) × (items ≡ front ++ at ∷ rest))
        → ((item ≡ at) × (i ∷ items ≡ f ∷ front)) ⊎ ((rest : List Item) × (i ∷ items ≡ (f ∷ front) ++ at ∷ rest))
    by same (inl (last, all)) = inl (last, cc)
    by same (inr (rest, all)) = inr (rest, cc)

-- An end that keeps the rules up to an event kept them before it and in it.
pub kept_before : (side : Side) (before : List Event) (event : Event) → KeepsRules side (before ++ event ∷ [])
    → KeepsRules side before × (is_tells_by side event ≡ false)
kept_before side [] event keeps = (refl, (or_parts (is_tells_by side event) false keeps).0)
kept_before side (first ∷ before) event keeps =
    let (now, later) = or_parts (is_tells_by side first) (has_tells_by side (before ++ event ∷ [])) keeps in
    let (kept, last) = kept_before side before event later in
    (rw (now, kept) refl, last)

-- ---- along a run

-- Each message of the end has its moment.
abbrev HaveMoments : Table → Side → List Event → World → Type 0
HaveMoments table side events w =
    KeepsRules side events → (front behind : List Item) (message : Message)
    → w.sent ≡ front ++ Sent side message ∷ behind → IsMoment table side front message

-- One more step.
module _ (table : Table) (side : Side) (before : List Event) (w next : World) (runs : Runs table before w)
    (had : HaveMoments table side before w) (kept : KeepsRules side before) (front behind : List Item)
    (message : Message) (sent : next.sent ≡ front ++ Sent side message ∷ behind) where
  -- If the step adds nothing, the message was sent before.
  none_more : next.sent ≡ w.sent ++ [] → IsMoment table side front message
  none_more is = had kept front behind message (sym (append-nil w.sent) ∙ sym is ∙ sent)

  -- If the step adds an item, the message was sent before or is this item.
  one_more : (item : Item) → next.sent ≡ w.sent ++ item ∷ []
      → (item ≡ Sent side message → SendsIt table w side message ⊎ RepliesIt w side message)
      → IsMoment table side front message
  one_more item is now = by (last_or_before item (Sent side message) w.sent front behind (sym is ∙ sent))
    where
      by : ((item ≡ Sent side message) × (w.sent ≡ front))
          ⊎ ((rest : List Item) × (w.sent ≡ front ++ Sent side message ∷ rest)) → IsMoment table side front message
      by (inl (last, all)) =
          record { events = before; world = w; runs = runs; keeps = kept; sent = all; how = now last }
      by (inr (rest, all)) = had kept front rest message all

  -- The items that a step adds.
  added : (event : Event) (items : List Item) → after table event w ≡ Some next
      → ((found : List Item) → Adds w event found → found ≡ items) → next.sent ≡ w.sent ++ items
  added event items is only =
      let (found, adds, grown) = grows table event w next is in grown ∙ ap (λ i. w.sent ++ i) (only found adds)

  replied : (replier : Side) (number : ℕ) (r : IsReply replier number w next)
      → next.sent ≡ w.sent ++ Sent replier r.abort ∷ []
  replied replier number r =
      ap (λ (v : World). v.sent) r.next_is
      ∙ sent_joined replier r.abort (with_channel (other replier) r.more w)
      ∙ ap (λ items. items ++ Sent replier r.abort ∷ []) (sent_with_channel (other replier) r.more w)

  by_step : (event : Event) → after table event w ≡ Some next → is_tells_by side event ≡ false
      → IsMoment table side front message
  by_step (Sends sender m) is told =
      let s = sending table sender m w next is in
      one_more (Sent sender m) (added (Sends sender m) (Sent sender m ∷ []) is (λ found adds. adds)) (λ last.
      let who : sender ≡ side = cc in
      let what : m ≡ message = cc in inl (s.made, rw (← who, ← what) s.step))
  by_step (Replies replier number) is told =
      let r = reply table replier number w next is in
      one_more (Sent replier r.abort) (replied replier number r) (λ last.
      let who : replier ≡ side = cc in
      let what : r.abort ≡ message = cc in inr (r.head, r.more, rw (← who) r.channel, rw (← who, ← what) r.step))
  by_step (Tells teller m) is told =
      one_more (Sent teller m) (added (Tells teller m) (Sent teller m ∷ []) is (λ found adds. adds)) (λ last.
      let who : side ≡ teller = cc in
      let bad : true ≡ false = sym (itself teller) ∙ rw who at told in cc)
  by_step Quiet is told =
      one_more Item.Quiet (added Quiet (Item.Quiet ∷ []) is (λ found adds. adds)) (λ last. cc)
  by_step (Receives receiver number) is told =
      none_more (added (Receives receiver number) [] is (λ found adds. adds))
  by_step (Loses sender number) is told = none_more (added (Loses sender number) [] is (λ found adds. adds))
  by_step (Expires place name id) is told = none_more (added (Expires place name id) [] is (λ found adds. adds))
  by_step (Closes place name) is told = none_more (added (Closes place name) [] is (λ found adds. adds))

step_has : (table : Table) (side : Side) (before : List Event) (event : Event) (w next : World)
    → Runs table before w → after table event w ≡ Some next → HaveMoments table side before w
    → HaveMoments table side (before ++ event ∷ []) next
step_has table side before event w next runs is had keeps front behind message sent =
    let (kept, told) = kept_before side before event keeps in
    by_step table side before w next runs had kept front behind message sent event is told

nothing_sent : {P : Type 0} (item : Item) (front behind : List Item) → [] ≡ front ++ item ∷ behind → P
nothing_sent item [] behind is = cc
nothing_sent item (first ∷ front) behind is = cc

-- Each message that an end sends in a run in which it keeps the rules has its moment.
pub sent_at : (table : Table) (events : List Event) (w : World) (before behind : List Item) (side : Side)
    (message : Message) → Runs table events w → KeepsRules side events
    → w.sent ≡ before ++ Sent side message ∷ behind → IsMoment table side before message
sent_at table events w before behind side message runs keeps sent =
    runs_keep table (HaveMoments table side)
    (λ keeps front behind message is. nothing_sent (Sent side message) front behind is) (step_has table side)
    events w runs keeps before behind message sent
