-- The run that a certificate gives for the entries of a record, built entry by entry, or the first reason why it gives
-- none.
--
-- Either both ends are judged, or one end alone. If one end is judged alone, its peer keeps no rules: the peer may send
-- anything (`Tells`), if the fates keep its messages in order. A message that the judged end cannot receive is lost.
-- All that the judged end sends is lost at once, since it does not matter what the peer receives.
use Rattle.std.specs.Prelude.{ℕ, ℤ, ◌+◌, ◌*◌, Bool, true, false, List, [], ◌∷◌, ◌++◌, map, length, drop, filter, filter_map, slice_get, Option, Some, None, Result, Ok, Err, ok_or, ◌==◌, ◌&&◌, ◌||◌, not, nat_lt, nat_le, cond, option_map}
use Rattle.std.specs.Option.{option_or}
use Rattle.tcap_msg.specs.declared.message.AbortReason.TheVariants.{Cause}
use Rattle.tcap_msg.specs.declared.message.Message.{Message}
use Rattle.tcap_msg.specs.declared.message.Message.TheVariants.{Abort}
use Rattle.tcap_msg.specs.Parts.{components_in}
use Rattle.tcap_record.specs.declared.entry.End.{End as Side}
use Rattle.tcap_record.specs.declared.entry.End.TheVariants as sides
use Rattle.tcap_record.specs.declared.entry.Entry.{Entry}
use Rattle.tcap_end.specs.declared.fault.EndFault.{EndFault}
use Rattle.tcap_end.specs.declared.fault.EndFault.TheVariants as faults
use Rattle.tcap_end.specs.declared.half.HalfName.{HalfName}
use Rattle.tcap_end.specs.Table.{Table}
use Rattle.tcap_end.specs.End.{End}
use Rattle.tcap_end.specs.HiddenSteps.{open_halves}
use Rattle.tcap_end.specs.Message.{receive, send}
use Rattle.tcap_end.specs.Reply.{aborts}
use Rattle.tcap_end.specs.Step.{needs, ◌>>◌, ◌>>=◌}
use Rattle.tcap_certificate.specs.declared.fault.CheckFault.{CheckFault}
use Rattle.tcap_model.specs.declared.reason.Reason.{Reason}
use Rattle.tcap_model.specs.declared.reason.Reason.TheVariants.{FateCount, FateRange, OutOfOrder, BadReply, SendRefused, HiddenRefused, NotQuiet}
use Rattle.tcap_record.specs.Ends.{other}
use Rattle.tcap_model.specs.World.{Item, MessageInTransit, Sent, World, channel_from, empty, end_at, is_side, with_channel, with_end}
use Rattle.tcap_model.specs.Run.{Event, Sends, Receives, Replies, Loses, Expires, Closes, Quiet, Tells, after, joined, numbers_of}
use Rattle.tcap_certificate.specs.declared.certificate.Closing.{Closing}
use Rattle.tcap_certificate.specs.declared.certificate.Expiry.{Expiry}
use Rattle.tcap_certificate.specs.declared.certificate.Fate.{Fate}
use Rattle.tcap_certificate.specs.declared.certificate.Fate.TheVariants.{Gap, Lost, By}
use Rattle.tcap_certificate.specs.Certificate.{Certificate}
use Rattle.tcap_model.specs.Entries.{item_of}
use Rattle.tcap_certificate.specs.DescribedRun.{closing_event, expiry_event, invoking_half, invoke_id, sending_by, taken_by}

-- ---- reasons

-- the refusal with this reason, at this entry
abbrev pub fault_at : Reason → ℕ → CheckFault
fault_at reason entry = record { reason = reason; entry = entry }

-- an error with this reason, at this entry
abbrev pub refused : {A : Type 0} → Reason → ℕ → Result A CheckFault
refused reason entry = Err (fault_at reason entry)

-- the function applied to an Ok value; an error stays
abbrev pub map_ok : {A B F : Type 0} → (A → B) → Result A F → Result B F
map_ok f (Ok x) = Ok (f x)
map_ok f (Err reason) = Err reason

-- ---- ranges, which are checked before the first entry

-- whether a message is delivered in a gap after its entry, up to the last gap, or taken by a later entry
abbrev pub fate_fits : ℕ → ℕ → Fate → Bool
fate_fits count entry (Gap gap) = nat_lt entry gap && nat_le gap count
fate_fits count entry (By reply) = nat_lt entry reply && nat_lt reply count
fate_fits count entry Lost = true

-- whether all fates are in range; the first of these fates is that of this entry
abbrev pub fates_fit : ℕ → ℕ → List Fate → Result (Unit {0}) CheckFault
fates_fit count entry [] = Ok tt
fates_fit count entry (fate ∷ fates) = do
  needs (fate_fits count entry fate) (fault_at FateRange entry)
  fates_fit count (entry + 1) fates

-- whether each expiry or closing is in a gap after the entry that it names, up to the last gap
abbrev pub all_fit : ℕ → List (ℕ × ℕ) → Result (Unit {0}) CheckFault
all_fit count [] = Ok tt
all_fit count ((entry, gap) ∷ listed) = do
  needs (nat_lt entry gap && nat_le gap count) (fault_at FateRange entry)
  all_fit count listed

-- whether a certificate is in range: its fates, then its closings, then its expiries
abbrev pub certificate_fits : Certificate → Result (Unit {0}) CheckFault
certificate_fits c = do
  fates_fit (length c.fates) 0 c.fates
  all_fit (length c.fates) (map (λ x. (x.entry, x.gap)) c.close)
  all_fit (length c.fates) (map (λ x. (x.entry, x.gap)) c.expire)

-- ---- the ends that are judged: both, or one alone

-- whether this end is judged
abbrev pub is_judged : Option Side → Side → Bool
is_judged None side = true
is_judged (Some judged) side = is_side judged side

-- whether a judged end receives the messages of this sender
abbrev pub is_received_from : Option Side → Side → Bool
is_received_from None sender = true
is_received_from (Some judged) sender = is_side (other judged) sender

-- ---- steps

-- The replay so far: its events; the number of each message that was discarded, with the reason; and the world after
-- the events.
pub record Replay : Type 0 where
  pub events : List Event
  pub discards : List (ℕ × EndFault)
  pub world : World

-- the replay before the first event
abbrev pub nothing_replayed : Replay
nothing_replayed = record { events = []; discards = []; world = empty }

-- the number of the next entry
abbrev pub next_entry : Replay → ℕ
next_entry r = length r.world.sent

-- the replay with one more event, and the world after it
abbrev pub with_step : Event → Replay → World → Replay
with_step event r world = record { events = r.events ++ event ∷ []; discards = r.discards; world = world }

-- the replay with one more event, or None if the event cannot happen
abbrev pub stepped : Table → Event → Replay → Option Replay
stepped table event r = option_map (with_step event r) (after table event r.world)

-- the numbers if the fate is a loss, else none
abbrev pub if_lost : Option Fate → List ℕ → List ℕ
if_lost (Some Lost) numbers = numbers
if_lost _ numbers = []

-- the lost messages at the front of a channel
abbrev pub lost_front : List Fate → List MessageInTransit → List ℕ
lost_front fates [] = []
lost_front fates (first ∷ more) = if_lost (slice_get fates first.number) (first.number ∷ lost_front fates more)

-- the replay after this many messages at the front of an end's channel, with these numbers, are lost
abbrev pub losing : Side → List ℕ → Replay → Replay
losing side numbers r = record {
  events = r.events ++ map (Loses side) numbers;
  discards = r.discards;
  world = with_channel side (drop (length numbers) (channel_from side r.world)) r.world;
}

-- the replay after the messages at the front of a channel are lost, as far as their fates are losses
abbrev pub lost_from_front : Certificate → Side → Replay → Replay
lost_from_front c side r = losing side (lost_front c.fates (channel_from side r.world)) r

-- the replay after the lost messages at the front of both channels are lost
abbrev pub lost_from_both : Certificate → Replay → Replay
lost_from_both c r = lost_from_front c sides.B (lost_from_front c sides.A r)

-- The losses before an event. A message is lost as late as possible: just before a later message on its channel is
-- taken, or before a quiet mark.
abbrev pub lost_before : Certificate → Event → Replay → Replay
lost_before c (Receives side number) r = lost_from_front c (other side) r
lost_before c (Replies side number) r = lost_from_front c (other side) r
lost_before c Quiet r = lost_from_both c r
lost_before c _ r = r

-- the replay after an event and the losses before it, or this reason at this entry if the event cannot happen
abbrev pub after_event : Table → Certificate → Event → Reason → ℕ → Replay → Result Replay CheckFault
after_event table c event reason entry r = ok_or (stepped table event (lost_before c event r)) (fault_at reason entry)

-- ---- a gap

-- the replay after these closings, in order
abbrev pub closings_replayed : Table → Certificate → List Closing → Replay → Result Replay CheckFault
closings_replayed table c [] r = Ok r
closings_replayed table c (x ∷ more) r = do
  event ← ok_or (closing_event r.world.sent x) (fault_at FateRange x.entry)
  next ← after_event table c event (HiddenRefused faults.CannotClose) x.entry r
  closings_replayed table c more next

-- the replay after these expiries, in order
abbrev pub expiries_replayed : Table → Certificate → List Expiry → Replay → Result Replay CheckFault
expiries_replayed table c [] r = Ok r
expiries_replayed table c (x ∷ more) r = do
  event ← ok_or (expiry_event r.world.sent x) (fault_at FateRange x.entry)
  next ← after_event table c event (HiddenRefused faults.CannotExpire) x.entry r
  expiries_replayed table c more next

-- the reason why an end cannot receive a message, if it cannot
abbrev pub receive_refusal : Result End EndFault → List EndFault
receive_refusal (Ok e) = []
receive_refusal (Err reason) = reason ∷ []

-- the reason why an end cannot receive the first of these messages, if it cannot
abbrev pub first_receive_refusal : Table → End → List MessageInTransit → List EndFault
first_receive_refusal table e [] = []
first_receive_refusal table e (first ∷ more) = receive_refusal (receive table e first.message)

-- the replay with more discards
abbrev pub with_discards : List (ℕ × EndFault) → Replay → Replay
with_discards more r = record r { discards = r.discards ++ more }

-- The replay after a discard: the end cannot receive the peer's message with this number, so the message is lost.
abbrev pub discarded : Table → Side → ℕ → Replay → Option Replay
discarded table side number r = option_map
    (with_discards (map (λ reason. (number, reason))
    (first_receive_refusal table (end_at side r.world) (channel_from (other side) r.world))))
    (stepped table (Loses (other side) number) r)

-- the replay after the end receives the message, or discards it if it cannot receive it
abbrev pub delivered : Table → Certificate → Side → ℕ → Replay → Result Replay CheckFault
delivered table c side number r = by (lost_from_front c (other side) r)
  where
    by : Replay → Result Replay CheckFault
    by before = ok_or
        (option_or (stepped table (Receives side number) before) (discarded table side number before))
        (fault_at BadReply number)

-- whether the fate g of a message is this gap, and the message comes to a judged end
abbrev pub is_due : Option Side → ℕ → ℕ → Side → Bool
is_due None gap g sender = g == gap
is_due (Some judged) gap g sender = (g == gap) && is_side (other judged) sender

-- The replay after a delivery. An end that is judged alone discards a message that it cannot receive, since its peer
-- may send anything. If both ends are judged, this is an error.
abbrev pub received : Option Side → Table → Certificate → Side → ℕ → Replay → Result Replay CheckFault
received None table c sender number r = after_event table c (Receives (other sender) number) BadReply number r
received (Some judged) table c sender number r = delivered table c judged number r

-- the replay after the message with this number is delivered, if its fate is this gap
abbrev pub delivery_by : Option Side → Table → Certificate → ℕ → ℕ → Fate → Item → Replay → Result Replay CheckFault
delivery_by judged table c gap number (Gap g) (Sent sender message) r =
    cond (is_due judged gap g sender) (received judged table c sender number r) (Ok r)
delivery_by judged table c gap number _ _ r = Ok r

-- the replay after all messages whose fate is this gap are delivered, by number; the first of these items has this
-- number
abbrev pub deliveries_by : Option Side → Table → Certificate → ℕ → ℕ → List Fate → List Item → Replay
    → Result Replay CheckFault
deliveries_by judged table c gap number (fate ∷ fates) (item ∷ items) r =
    delivery_by judged table c gap number fate item r >>= deliveries_by judged table c gap (number + 1) fates items
deliveries_by judged table c gap number _ _ r = Ok r

-- the listed closings and expiries of the judged ends
abbrev pub closings_judged : Option Side → List Closing → List Closing
closings_judged None listed = listed
closings_judged (Some judged) listed = filter (λ x. is_side judged x.side) listed

abbrev pub expiries_judged : Option Side → List Expiry → List Expiry
expiries_judged None listed = listed
expiries_judged (Some judged) listed = filter (λ x. is_side judged x.side) listed

-- the replay after the gap before the next entry: its closings and its expiries, in the listed order, then its
-- deliveries
abbrev pub gap_by : Option Side → Table → Certificate → Replay → Result Replay CheckFault
gap_by judged table c r = do
  closed ← closings_replayed table c (closings_judged judged (filter (λ x. x.gap == next_entry r) c.close)) r
  expired ← expiries_replayed table c (expiries_judged judged (filter (λ x. x.gap == next_entry r) c.expire)) closed
  deliveries_by judged table c (next_entry r) 0 c.fates r.world.sent expired

-- ---- an entry

-- The time of a fate. A gap comes before the entry after it. A loss has no time.
abbrev pub time_of : Fate → Option ℕ
time_of (Gap gap) = Some (2 * gap)
time_of (By reply) = Some (2 * reply + 1)
time_of Lost = None

-- whether both times exist, and the second is later
abbrev pub is_later : Option ℕ → Option ℕ → Bool
is_later (Some time) (Some other) = nat_lt time other
is_later _ _ = false

-- whether an earlier message of this end has a later fate; the first of these fates is that of the first item
abbrev pub is_overtaking : Side → Fate → List Fate → List Item → Bool
is_overtaking side fate (first ∷ fates) (Sent sender message ∷ items) =
    (is_side side sender && is_later (time_of fate) (time_of first)) || is_overtaking side fate fates items
is_overtaking side fate (first ∷ fates) (Item.Quiet ∷ items) = is_overtaking side fate fates items
is_overtaking side fate _ _ = false

-- the next replay if there is one, else the same
abbrev pub or_same : Replay → Option Replay → Replay
or_same r None = r
or_same r (Some next) = next

-- the replay after these invocations of a half expire, each if it can
abbrev pub implied : Table → Side → HalfName → List ℤ → Replay → Replay
implied table side name [] r = r
implied table side name (id ∷ ids) r = implied table side name ids (or_same r (stepped table (Expires side name id) r))

-- The replay after the expiries that a message implies: if it invokes an ID that is in use on its half, the earlier
-- invocation has ended.
abbrev pub implied_over : Table → Side → Message → Option HalfName → Replay → Replay
implied_over table side message None r = r
implied_over table side message (Some name) r = implied table side name (filter_map invoke_id (components_in message)) r

-- the replay after an end sends a message, or the reason why it may not
abbrev pub sent_or_refused : Side → Message → Replay → Result End EndFault → Result Replay CheckFault
sent_or_refused side message r (Ok e) = Ok
    (with_step (Sends side message) r (joined side message (with_end side e r.world)))
sent_or_refused side message r (Err reason) = refused (SendRefused reason) (next_entry r)

-- the replay after an end sends a message by the rules
abbrev pub send_replayed : Table → Side → Message → Replay → Result Replay CheckFault
send_replayed table side message r = sent_or_refused side message r (send table (end_at side r.world) message)

-- whether an item is this Abort, with a cause
abbrev pub is_abort : Message → Option Item → Bool
is_abort abort (Some (Sent side (Abort dtid (Some (Cause cause))))) = aborts cause dtid abort
is_abort abort _ = false

-- the replay after the provider of an end answers the message with this number, or an error unless it may and its
-- answer is this Abort
abbrev pub reply_replayed : Table → Certificate → Side → Message → ℕ → Replay → Result Replay CheckFault
reply_replayed table c side abort number r = do
  next ← after_event table c (Replies side number) BadReply (next_entry r) r
  needs (is_abort abort (slice_get next.world.sent (next_entry r))) (fault_at BadReply (next_entry r))
  Ok next

-- the replay after a message that an end, or its provider, sends with this event
abbrev pub message_by : Table → Certificate → Side → Message → Option Event → Replay → Result Replay CheckFault
message_by table c side message (Some (Sends sender sent)) r =
    send_replayed table side message (implied_over table side message (invoking_half message) r)
message_by table c side message (Some (Replies replier number)) r = reply_replayed table c side message number r
message_by table c side message _ r = refused BadReply (next_entry r)

-- whether a fate is this gap
abbrev pub is_gap : ℕ → Fate → Bool
is_gap gap (Gap g) = g == gap
is_gap gap _ = false

-- the numbers of the entries whose fate is this gap; the first of these fates has number n
abbrev pub due_in : ℕ → ℕ → List Fate → List ℕ
due_in gap n [] = []
due_in gap n (Gap g ∷ fates) = cond (g == gap) (n ∷ due_in gap (n + 1) fates) (due_in gap (n + 1) fates)
due_in gap n (_ ∷ fates) = due_in gap (n + 1) fates

-- whether there are no messages
abbrev pub is_nothing : List ℕ → Bool
is_nothing [] = true
is_nothing (number ∷ more) = false

-- whether an item is a message of this end
abbrev pub is_sent_by : Side → Option Item → Bool
is_sent_by side (Some (Sent sender message)) = is_side side sender
is_sent_by side _ = false

-- The numbers of the messages that the next entry takes. If one end is judged alone, only its peer's messages count.
abbrev pub tied : Option Side → Certificate → Replay → List ℕ
tied None c r = taken_by (next_entry r) 0 c.fates
tied (Some judged) c r =
    filter (λ n. is_sent_by (other judged) (slice_get r.world.sent n)) (taken_by (next_entry r) 0 c.fates)

-- Whether the messages of an end are delivered in the order in which they were sent. The order of a message from an end
-- that is judged alone is not checked.
abbrev pub comes_in_order : Option Side → Side → Fate → Certificate → Replay → Result (Unit {0}) CheckFault
comes_in_order None sender fate c r =
    needs (not (is_overtaking sender fate c.fates r.world.sent)) (fault_at OutOfOrder (next_entry r))
comes_in_order (Some judged) sender fate c r = Ok tt

-- the replay after all messages in transit from an end are lost
abbrev pub all_lost_from : Side → Replay → Replay
all_lost_from side r = losing side (numbers_of (channel_from side r.world)) r

-- If one end is judged alone, the message that it just sent is lost at once.
abbrev pub after_sending : Option Side → Result Replay CheckFault → Result Replay CheckFault
after_sending None sent = sent
after_sending (Some judged) sent = sent >>= λ next. Ok (all_lost_from judged next)

-- the replay after a message from a judged end, or from its provider
abbrev pub own_message : Option Side → Table → Certificate → Side → Message → Replay → Result Replay CheckFault
own_message judged table c side message r = message_by table c side message
    (sending_by c (next_entry r) (Sent side message) (tied judged c r)) r

-- the replay after such a message with this fate, and the gap before it
abbrev pub own_judged : Option Side → Table → Certificate → Fate → Side → Message → Replay → Result Replay CheckFault
own_judged judged table c fate side message r = do
  comes_in_order judged side fate c r
  behind ← gap_by judged table c r
  after_sending judged (own_message judged table c side message behind)

-- The replay after a message from the peer of an end that is judged alone, and the gap before it. The message may not
-- overtake an earlier one of the peer, and takes no message.
abbrev pub peer_replayed : Table → Certificate → Fate → Side → Message → Replay → Result Replay CheckFault
peer_replayed table c fate judged message r = do
  needs (not (is_overtaking (other judged) fate c.fates r.world.sent)) (fault_at OutOfOrder (next_entry r))
  behind ← gap_by (Some judged) table c r
  needs (is_nothing (tied (Some judged) c r)) (fault_at BadReply (next_entry r))
  Ok (with_step (Tells (other judged) message) behind (joined (other judged) message behind.world))

-- the replay after a message with this fate, and the gap before it: from a judged end, or from the peer of an end that
-- is judged alone
abbrev pub message_judged : Option Side → Table → Certificate → Fate → Side → Message → Replay
    → Result Replay CheckFault
message_judged None table c fate sender message r = own_judged None table c fate sender message r
message_judged (Some judged) table c fate sender message r = cond (is_side judged sender)
    (own_judged (Some judged) table c fate judged message r) (peer_replayed table c fate judged message r)

-- The replay after these halves close before a quiet mark. A half that may not close is still open at the mark.
abbrev pub closed_at_mark : Table → Side → ℕ → List HalfName → Replay → Result Replay CheckFault
closed_at_mark table side mark [] r = Ok r
closed_at_mark table side mark (name ∷ more) r =
    ok_or (stepped table (Closes side name) r) (fault_at NotQuiet mark) >>= closed_at_mark table side mark more

-- The replay after the open halves of an end that is judged alone close before a quiet mark: the certificate does not
-- have to list these closings.
abbrev pub closed_before : Option Side → Table → ℕ → Replay → Result Replay CheckFault
closed_before None table mark r = Ok r
closed_before (Some judged) table mark r = closed_at_mark table judged mark (open_halves (end_at judged r.world)) r

-- the replay after the messages at the front of the channels to the judged ends are lost, if their fates are losses
abbrev pub lost_last : Option Side → Certificate → Replay → Replay
lost_last None c r = lost_from_both c r
lost_last (Some judged) c r = lost_from_front c (other judged) r

-- the replay after a quiet mark; its fate is the next gap, and it takes no message
abbrev pub mark_judged : Option Side → Table → Certificate → Fate → Replay → Result Replay CheckFault
mark_judged judged table c fate r = do
  needs (is_gap (next_entry r + 1) fate) (fault_at FateRange (next_entry r))
  behind ← gap_by judged table c r
  needs (is_nothing (tied judged c r)) (fault_at NotQuiet (next_entry r))
  closed ← closed_before judged table (next_entry r) behind
  ok_or (stepped table Quiet (lost_last judged c closed)) (fault_at NotQuiet (next_entry r))

-- the replay after a message or a quiet mark with this fate, and the gap before it
abbrev pub item_by : Option Side → Table → Certificate → Fate → Item → Replay → Result Replay CheckFault
item_by judged table c fate (Sent sender message) r = message_judged judged table c fate sender message r
item_by judged table c fate Item.Quiet r = mark_judged judged table c fate r

-- the replay after an entry with this fate, and the gap before it
abbrev pub entry_by : Option Side → Table → Certificate → Fate → Result Item Reason → Replay → Result Replay CheckFault
entry_by judged table c fate (Ok item) r = item_by judged table c fate item r
entry_by judged table c fate (Err reason) r = refused reason (next_entry r)

-- the replay after the entries from the next one on, and the last gap
abbrev pub entries_by : Option Side → Table → Certificate → List (Result Item Reason) → Replay
    → Result Replay CheckFault
entries_by judged table c [] r = do
  needs (next_entry r == length c.fates) (fault_at FateCount (next_entry r))
  gap_by judged table c r
entries_by judged table c (entry ∷ entries) r = do
  fate ← ok_or (slice_get c.fates (next_entry r)) (fault_at FateCount (next_entry r))
  next ← entry_by judged table c fate entry r
  entries_by judged table c entries next

-- the replay of entries, up to the last gap; each entry is an item or the reason why it is none
abbrev pub replay_by : Option Side → Table → Certificate → List (Result Item Reason) → Result Replay CheckFault
replay_by judged table c entries = certificate_fits c >> entries_by judged table c entries nothing_replayed

-- the run that a certificate gives for these entries; at the end, messages at the front of the channels are lost if
-- their fates are losses
abbrev pub run_by : Option Side → Table → Certificate → List (Result Item Reason) → Result (List Event) CheckFault
run_by judged table c entries = do
  certificate_fits c
  r ← entries_by judged table c entries nothing_replayed
  Ok (lost_last judged c r).events

-- the messages that this run discards, with the reasons
abbrev pub discards_by : Option Side → Table → Certificate → List (Result Item Reason)
    → Result (List (ℕ × EndFault)) CheckFault
discards_by judged table c entries = do
  certificate_fits c
  r ← entries_by judged table c entries nothing_replayed
  Ok (lost_last judged c r).discards

-- the run that a certificate gives for the entries of a record: for one end if an end is given, else for both ends
abbrev pub replayed_by : Option Side → Table → Certificate → List Entry → Result (List Event) CheckFault
replayed_by judged table c entries = run_by judged table c (map item_of entries)

-- the number of steps in the run of both ends
abbrev pub moves_of : Table → Certificate → List Entry → Result ℕ CheckFault
moves_of table c entries = replayed_by None table c entries >>= λ events. Ok (length events)
