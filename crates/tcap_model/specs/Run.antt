-- What two ends over two channels can do, one step at a time (Q.774 3.2 and 3.3). An end sends a message; then the
-- other end receives the message, its provider answers the message with an Abort, or the message is lost. An end that
-- keeps the rules sends only what it may send. An end that does not keep them may send any message at any time
-- (`Tells`).
use Rattle.std.specs.Prelude.{◌≡◌, ℕ, ◌+◌, ℤ, Bool, false, List, [], ◌∷◌, ◌++◌, map, length, Option, Some, None, is_ok, ◌==◌, ◌||◌, cond, option_and_then, option_map}
use Rattle.std.specs.Result.{result_ok}
use Rattle.tcap_msg.specs.declared.message.AbortReason.TheVariants.{Cause}
use Rattle.tcap_msg.specs.declared.message.Message.{Message}
use Rattle.tcap_msg.specs.declared.message.Message.TheVariants.{Begin, Continue, Abort}
use Rattle.tcap_record.specs.declared.entry.End.{End as Side}
use Rattle.tcap_record.specs.declared.entry.End.TheVariants as sides
use Rattle.tcap_end.specs.declared.half.HalfName.{HalfName}
use Rattle.tcap_end.specs.Table.{Table}
use Rattle.tcap_end.specs.End.{End, quiet}
use Rattle.tcap_end.specs.Message.{receive, send}
use Rattle.tcap_end.specs.Reply.{refuse_begin, refuse_continue}
use Rattle.tcap_end.specs.HiddenSteps.{close, expire}
use Rattle.tcap_record.specs.Ends.{other}
use Rattle.tcap_model.specs.World.{Item, MessageInTransit, Sent, World, channel_from, empty, end_at, is_side, with_channel, with_end}

-- the value if the condition holds, else None
abbrev pub only_if : {A : Type 0} → Bool → Option A → Option A
only_if so step = cond so step None

-- the next step from a value, or None if there is no value
abbrev pub option_then : {A B : Type 0} → Option A → (A → Option B) → Option B
option_then o step = option_and_then step o

-- A step of a run, with the end that acts; the actor of a loss is the end that sent the message. A step that takes a
-- message from a channel has the number of the message in the sent list.
pub data Event : Type 0 where
  -- an end sends a message by the rules
  Sends : Side → Message → Event
  -- an end receives the message with this number, which the other end sent
  Receives : Side → ℕ → Event
  -- the provider of an end answers the message with this number, which the other end sent, with an Abort
  Replies : Side → ℕ → Event
  -- the message with this number, which this end sent, is lost
  Loses : Side → ℕ → Event
  -- an own invocation in this half of an end ends without a message: its timer expires, or the user cancels it (Q.774
  -- 3.2)
  Expires : Side → HalfName → ℤ → Event
  -- a half of an end closes without a message: by prearranged end, or the end gives up its Begin (Q.774 3.3)
  Closes : Side → HalfName → Event
  -- a quiet mark: nothing is in transit, all halves are closed, and all transaction IDs are free again (a choice of
  -- this profile)
  Quiet : Event
  -- an end that keeps no rules sends a message: this step is always possible, and leaves the end unchanged
  Tells : Side → Message → Event

-- the world after an end sends a message: the message is the last on its channel and in the sent list
abbrev pub joined : Side → Message → World → World
joined side message w = record (with_channel side
    (channel_from side w ++ on_its_way ∷ []) w) { sent = w.sent ++ Sent side message ∷ [] }
  where
    on_its_way : MessageInTransit
    on_its_way = record { number = length w.sent; message = message }

-- `step` applied to the head of a channel and the rest, or None if the head does not have this number
abbrev pub head_taken : {A : Type 0} → ℕ → (Message → List MessageInTransit → Option A) → List MessageInTransit
    → Option A
head_taken number step [] = None
head_taken number step (head ∷ more) = only_if (head.number == number) (step head.message more)

-- an Abort with this P-Abort cause to this transaction ID (Q.773)
abbrev pub provider_abort : List ℕ → ℕ → Message
provider_abort dtid cause = Abort dtid (Some (Cause cause))

-- The Abort with which a provider answers a message that it does not deliver, or None (Q.774 3.3, abnormal procedures).
-- It has cause 4 for a Begin and cause 1 for a Continue; other messages get no answer.
abbrev pub abort_for : Message → Option Message
abort_for (Begin otid dialogue components) = Some (provider_abort otid 4)
abort_for (Continue otid dtid dialogue components) = Some (provider_abort otid 1)
abort_for _ = None

-- whether the provider of this end may answer the message with this Abort
abbrev pub may_refuse : End → Message → Message → Bool
may_refuse e message abort = is_ok (refuse_begin e message abort) || is_ok (refuse_continue e message abort)

-- the Abort with which the provider of this end may answer the message, or None
abbrev pub reply_to : End → Message → Option Message
reply_to e message = option_then (abort_for message) (λ abort. only_if (may_refuse e message abort) (Some abort))

-- the world after a quiet mark, or None unless both ends are quiet and nothing is in transit; no half and no used ID is
-- left
abbrev pub after_quiet : World → Option World
after_quiet w = by w.from_a w.from_b
  where
    by : List MessageInTransit → List MessageInTransit → Option World
    by [] [] =
        option_then (result_ok (quiet w.a))
        (λ a. option_map (λ b. record { a = a; b = b; from_a = []; from_b = []; sent = w.sent ++ Item.Quiet ∷ [] })
        (result_ok (quiet w.b)))
    by _ _ = None

-- the world after an event, or None if the event cannot happen
abbrev pub after : Table → Event → World → Option World
after table (Event.Sends side message) w =
    option_map (λ e. joined side message (with_end side e w)) (result_ok (send table (end_at side w) message))
after table (Event.Receives side number) w =
    head_taken number
    (λ message more.
    option_map (λ e. with_end side e (with_channel (other side) more w))
    (result_ok (receive table (end_at side w) message)))
    (channel_from (other side) w)
after table (Event.Replies side number) w =
    head_taken number
    (λ message more. option_map (λ abort. joined side abort (with_channel (other side) more w))
    (reply_to (end_at side w) message))
    (channel_from (other side) w)
after table (Event.Loses side number) w = head_taken number (λ message more. Some (with_channel side more w))
    (channel_from side w)
after table (Event.Expires side name id) w = option_map (λ e. with_end side e w)
    (result_ok (expire table (end_at side w) name id))
after table (Event.Closes side name) w = option_map (λ e. with_end side e w)
    (result_ok (close table (end_at side w) name))
after table Event.Quiet w = after_quiet w
after table (Event.Tells side message) w = Some (joined side message w)

-- the world after these events, or None if one of them cannot happen
abbrev pub played : Table → List Event → World → Option World
played table [] w = Some w
played table (event ∷ events) w = option_then (after table event w) (played table events)

-- These events lead from the empty world to this one.
abbrev pub Runs : Table → List Event → World → Type 0
Runs table events w = played table events empty ≡ Some w

-- An event adds these items to the sent list. A reply adds the Abort that answers the message at the head of the
-- channel.
abbrev pub Adds : World → Event → List Item → Type 0
Adds w (Sends side message) items = items ≡ Sent side message ∷ []
Adds w (Replies side number) items =
    (head : MessageInTransit) × (more : List MessageInTransit) × (abort : Message)
    × (channel_from (other side) w ≡ head ∷ more)
    × (head.number ≡ number)
    × (abort_for head.message ≡ Some abort) × (items ≡ Sent side abort ∷ [])
Adds w Quiet items = items ≡ Item.Quiet ∷ []
Adds w (Tells side message) items = items ≡ Sent side message ∷ []
Adds w _ items = items ≡ []

-- the number of the message that an event takes from this end's channel, if it takes one
abbrev pub takes_from : Side → Event → List ℕ
takes_from side (Receives receiver number) = cond (is_side side (other receiver)) (number ∷ []) []
takes_from side (Replies replier number) = cond (is_side side (other replier)) (number ∷ []) []
takes_from side (Loses sender number) = cond (is_side side sender) (number ∷ []) []
takes_from side _ = []

-- the numbers of the messages that the events take from this end's channel, in order
abbrev pub numbers_taken : Side → List Event → List ℕ
numbers_taken side [] = []
numbers_taken side (event ∷ events) = takes_from side event ++ numbers_taken side events

-- the numbers of these messages
abbrev pub numbers_of : List MessageInTransit → List ℕ
numbers_of messages = map (λ m. m.number) messages

-- the numbers of the messages that this end sent; the first of these items has number n
abbrev pub numbers_sent : Side → ℕ → List Item → List ℕ
numbers_sent side n [] = []
numbers_sent side n (Sent sender message ∷ items) =
    cond (is_side side sender) (n ∷ numbers_sent side (n + 1) items) (numbers_sent side (n + 1) items)
numbers_sent side n (Item.Quiet ∷ items) = numbers_sent side (n + 1) items

-- The run sends exactly these items, in this order.
abbrev pub IsRunOf : List Item → Table → List Event → Type 0
IsRunOf items table events = (w : World) × Runs table events w × (w.sent ≡ items)

-- ---- ends that keep the rules

-- whether the event is a message that this end sends by `Tells`
abbrev pub is_tells_by : Side → Event → Bool
is_tells_by side (Tells sender message) = is_side side sender
is_tells_by side _ = false

-- whether one of these events is a message that this end sends by `Tells`
abbrev pub has_tells_by : Side → List Event → Bool
has_tells_by side [] = false
has_tells_by side (event ∷ events) = is_tells_by side event || has_tells_by side events

-- This end keeps the rules in these events: it sends no message by `Tells`. The other end may do anything.
abbrev pub KeepsRules : Side → List Event → Type 0
KeepsRules side events = has_tells_by side events ≡ false

-- Both ends keep the rules in these events.
abbrev pub BothKeepRules : List Event → Type 0
BothKeepRules events = KeepsRules sides.A events × KeepsRules sides.B events

-- A run of this many steps, in which both ends keep the rules, sends exactly these items.
abbrev pub IsLawful : List Item → Table → ℕ → Type 0
IsLawful items table moves =
    (events : List Event) × IsRunOf items table events × BothKeepRules events × (length events ≡ moves)

-- Some run, in which this end keeps the rules and the other end may do anything, sends exactly these items.
abbrev pub IsLawfulFor : Side → List Item → Table → Type 0
IsLawfulFor side items table = (events : List Event) × IsRunOf items table events × KeepsRules side events
