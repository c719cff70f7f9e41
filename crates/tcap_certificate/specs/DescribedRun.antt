-- Which runs a certificate describes for the items of a record.
use Rattle.std.specs.Prelude.{◌≡◌, ℕ, ℤ, ◌+◌, ◌≤◌, ◌<◌, Bool, true, false, List, [], ◌∷◌, ◌++◌, map, take, drop, length, filter, filter_map, slice_get, Contains, Option, Some, None, ◌==◌, nat_lt, cond}
use Rattle.std.specs.List.{AllByRecursion}
use Rattle.tcap_parts.specs.declared.component.Component.{Component}
use Rattle.tcap_parts.specs.declared.component.Component.TheVariants.{Invoke}
use Rattle.tcap_msg.specs.declared.message.AbortReason.TheVariants.{Cause}
use Rattle.tcap_msg.specs.declared.message.Message.{Message}
use Rattle.tcap_msg.specs.declared.message.Message.TheVariants.{Begin, Continue, End as EndMessage, Abort}
use Rattle.tcap_msg.specs.Parts.{components_in, otid_in}
use Rattle.tcap_record.specs.declared.entry.End.{End as Side}
use Rattle.tcap_end.specs.declared.half.HalfName.{HalfName}
use Rattle.tcap_end.specs.declared.half.HalfName.TheVariants as names
use Rattle.tcap_record.specs.Ends.{other}
use Rattle.tcap_model.specs.World.{Item, Sent, has_quiet, is_side}
use Rattle.tcap_model.specs.Run.{Event, Sends, Receives, Replies, Loses, Expires, Closes, Quiet, Tells, option_then, only_if}
use Rattle.tcap_certificate.specs.declared.certificate.Closing.{Closing}
use Rattle.tcap_certificate.specs.declared.certificate.Expiry.{Expiry}
use Rattle.tcap_certificate.specs.declared.certificate.Fate.{Fate}
use Rattle.tcap_certificate.specs.declared.certificate.Fate.TheVariants.{Gap, Lost, By}
use Rattle.tcap_certificate.specs.Certificate.{Certificate}

-- ---- listed expiries and closings

-- the item of the entry that an expiry or a closing in this gap names, or None unless the entry is before the gap with
-- no quiet mark between
abbrev pub named_entry : List Item → ℕ → ℕ → Option Item
named_entry items gap entry = cond (has_quiet (drop entry (take gap items))) None
    (only_if (nat_lt entry gap) (slice_get items entry))

-- The half that an end has in the transaction of a Begin with this originating ID. The sender of the Begin identifies
-- it by its own ID, the other end by its peer's ID. A half that knows both IDs has two names (`HalfNames`); this name
-- is the one that it has from the start.
abbrev pub half_begun : Side → Side → List ℕ → HalfName
half_begun side sender otid = cond (is_side side sender) (names.Own otid) (names.Peer otid)

-- the closing of the half that this item began, or None unless the item is a Begin
abbrev pub closing_by : Closing → Item → Option Event
closing_by c (Sent sender (Begin otid dialogue components)) = Some (Closes c.side (half_begun c.side sender otid))
closing_by c _ = None

-- the event of a listed closing, or None
abbrev pub closing_event : List Item → Closing → Option Event
closing_event items c = option_then (named_entry items c.gap c.entry) (closing_by c)

-- the invoke ID of an Invoke
abbrev pub invoke_id : Component → Option ℤ
invoke_id (Invoke id linked code parameter) = Some id
invoke_id _ = None

-- the expiry of the invocation in this component, or None unless the item is a Begin or a Continue of this end and the
-- component an Invoke
abbrev pub expiry_by : Expiry → Item → Option Event
expiry_by x (Sent sender message) =
    only_if (is_side x.side sender)
    (option_then (otid_in message)
    (λ otid. option_then (option_then (slice_get (components_in message) x.component) invoke_id)
    (λ id. Some (Expires x.side (names.Own otid) id))))
expiry_by x Item.Quiet = None

-- the event of a listed expiry, or None
abbrev pub expiry_event : List Item → Expiry → Option Event
expiry_event items x = option_then (named_entry items x.gap x.entry) (expiry_by x)

-- ---- gaps

-- the deliveries in a gap, by the numbers of the messages; the first of these items has number n
abbrev pub deliveries : ℕ → ℕ → List Fate → List Item → List Event
deliveries gap n (fate ∷ fates) (item ∷ items) = by item fate (deliveries gap (n + 1) fates items)
  where
    by : Item → Fate → List Event → List Event
    by (Sent side message) (Gap g) others = cond (g == gap) (Receives (other side) n ∷ others) others
    by _ _ others = others
deliveries gap n _ _ = []

-- The events in a gap: the closings listed for the gap, the expiries listed for it, then the deliveries by number.
abbrev pub gap_events : Certificate → List Item → ℕ → List (Option Event)
gap_events certificate items gap =
    map (closing_event items) (filter (λ c. c.gap == gap) certificate.close)
    ++ map (expiry_event items) (filter (λ x. x.gap == gap) certificate.expire)
    ++ map Some (deliveries gap 0 certificate.fates items)

-- ---- sending

-- the numbers of the messages that the reply with this number takes; the first of these fates has number n
abbrev pub taken_by : ℕ → ℕ → List Fate → List ℕ
taken_by reply n [] = []
taken_by reply n (By k ∷ fates) = cond (k == reply) (n ∷ taken_by reply (n + 1) fates) (taken_by reply (n + 1) fates)
taken_by reply n (_ ∷ fates) = taken_by reply (n + 1) fates

-- the quiet mark with this number, or None unless its fate is the next gap
abbrev pub quiet_by : ℕ → Option Fate → Option Event
quiet_by number (Some (Gap g)) = only_if (g == number + 1) (Some Quiet)
quiet_by number _ = None

-- The event that sends the item with this number, which takes these messages, or None. An Abort with a cause is a
-- provider's reply, and takes exactly one message. Other items take none.
abbrev pub sending_by : Certificate → ℕ → Item → List ℕ → Option Event
sending_by c number (Sent side (Abort dtid (Some (Cause cause)))) (taken ∷ []) = Some (Replies side taken)
sending_by c number (Sent side (Abort dtid (Some (Cause cause)))) _ = None
sending_by c number (Sent side message) [] = Some (Sends side message)
sending_by c number (Sent side message) (taken ∷ more) = None
sending_by c number Item.Quiet [] = quiet_by number (slice_get c.fates number)
sending_by c number Item.Quiet (taken ∷ more) = None

-- the event that sends the item with this number, which takes the messages whose fate is this entry
abbrev pub sending : Certificate → ℕ → Item → Option Event
sending c number item = sending_by c number item (taken_by number 0 c.fates)

-- the half whose invocations the Invokes of a message are, or None for a message without a half
abbrev pub invoking_half : Message → Option HalfName
invoking_half (Begin otid dialogue components) = Some (names.Own otid)
invoking_half (Continue otid dtid dialogue components) = Some (names.Own otid)
invoking_half (EndMessage dtid dialogue components) = Some (names.Peer dtid)
invoking_half _ = None

-- An expiry just before an item is sent, of an invoke ID that this item uses again on its half. If a run makes these
-- expiries and then sends the item, their IDs are exactly those that the item invokes and that were in use. Each of
-- these has to end, and no other can (`given_run_laws::implied_are_needed`).
abbrev pub IsImplied : Item → Event → Type 0
IsImplied (Sent sender message) (Expires side name id) =
    (side ≡ sender) × (invoking_half message ≡ Some name) × Contains (filter_map invoke_id (components_in message)) id
IsImplied _ _ = ⊥

-- ---- runs

-- whether an event is a loss
abbrev pub is_loss : Event → Bool
is_loss (Loses side number) = true
is_loss _ = false

-- the events without the losses
abbrev pub without_losses : List Event → List Event
without_losses [] = []
without_losses (event ∷ events) = cond (is_loss event) (without_losses events) (event ∷ without_losses events)

-- the numbers of this end's messages that are lost, in order
abbrev pub losses_from : Side → List Event → List ℕ
losses_from side [] = []
losses_from side (Loses sender number ∷ events) = cond (is_side side sender) (number ∷ losses_from side events)
    (losses_from side events)
losses_from side (_ ∷ events) = losses_from side events

-- the numbers of this end's messages whose fate is a loss; the first of these items has number n
abbrev pub lost_from : Side → ℕ → List Fate → List Item → List ℕ
lost_from side n (Lost ∷ fates) (Sent sender message ∷ items) =
    cond (is_side side sender) (n ∷ lost_from side (n + 1) fates items) (lost_from side (n + 1) fates items)
lost_from side n (_ ∷ fates) (_ ∷ items) = lost_from side (n + 1) fates items
lost_from side n _ _ = []

-- The event is a sending, a delivery, an expiry or a quiet mark.
abbrev pub IsPlain : Event → Type 0
IsPlain (Replies side number) = ⊥
IsPlain (Loses side number) = ⊥
IsPlain (Closes side name) = ⊥
IsPlain (Tells side message) = ⊥
IsPlain _ = Unit {0}

-- From this gap on, the events are those of each gap and the sendings of the remaining items, in turn.
abbrev pub FollowsFrom : Certificate → List Item → ℕ → List Item → List Event → Type 0
FollowsFrom certificate items gap [] events = map Some events ≡ gap_events certificate items gap
FollowsFrom certificate items gap (item ∷ more) events =
    (here implied rest : List Event) × (sends : Event)
    × (map Some here ≡ gap_events certificate items gap)
    × AllByRecursion (IsImplied item) implied
    × (sending certificate gap item ≡ Some sends)
    × (events ≡ here ++ implied ++ sends ∷ rest)
    × FollowsFrom certificate items (gap + 1) more rest

-- Each fate is in range: a message is delivered in a gap after its entry, up to the last gap, or taken by a later
-- entry.
abbrev pub FatesFit : ℕ → ℕ → List Fate → Type 0
FatesFit count n [] = Unit {0}
FatesFit count n (Gap g ∷ fates) = (n < g) × (g ≤ count) × FatesFit count (n + 1) fates
FatesFit count n (By k ∷ fates) = (n < k) × (k < count) × FatesFit count (n + 1) fates
FatesFit count n (Lost ∷ fates) = FatesFit count (n + 1) fates

-- The certificate describes these events for these items. Losses may appear anywhere. Whether the events are a run, and
-- whether it sends these items, is the question of `IsRunOf`.
pub record Follows (certificate : Certificate) (items : List Item) (events : List Event) : Type 0 where
  pub counted : length certificate.fates ≡ length items
  pub fates : FatesFit (length items) 0 certificate.fates
  pub closings : AllByRecursion (λ c. c.gap ≤ length items) certificate.close
  pub expiries : AllByRecursion (λ x. x.gap ≤ length items) certificate.expire
  pub gaps : FollowsFrom certificate items 0 items (without_losses events)
  pub losses : (side : Side) → losses_from side events ≡ lost_from side 0 certificate.fates items
