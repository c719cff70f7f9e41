-- What does a certificate give, and what does a refusal show? It gives a run, or the first reason why it gives none.
use Rattle.std.specs.Prelude.{◌≡◌, ◌≢◌, ◌⊎◌, ℕ, ◌+◌, ◌*◌, ◌≤◌, ◌<◌, ℤ, Bool, true, false, List, [], ◌∷◌, ◌++◌, length, map, take, slice_get, Contains, Option, Some, None, Result, Ok, Err}
use Rattle.tcap_msg.specs.declared.message.Message.{Message}
use Rattle.tcap_record.specs.declared.entry.End.{End as Side}
use Rattle.tcap_record.specs.declared.entry.Body.TheVariants.{Bad, Good, Quiet as QuietMark}
use Rattle.tcap_record.specs.declared.entry.Entry.{Entry}
use Rattle.tcap_end.specs.declared.fault.EndFault.TheVariants as faults
use Rattle.tcap_end.specs.declared.half.HalfName.{HalfName}
use Rattle.tcap_end.specs.declared.own_invocations.OwnInvocation.{OwnInvocation}
use Rattle.tcap_end.specs.Component.{own_invocation}
use Rattle.tcap_end.specs.declared.fault.EndFault.{EndFault}
use Rattle.tcap_end.specs.HiddenSteps.{quiet_after_closings}
use Rattle.tcap_end.specs.End.{End, KeyedHalf, named, quiet}
use Rattle.tcap_end.specs.Table.{Table}
use Rattle.tcap_certificate.specs.declared.certificate.Closing.{Closing}
use Rattle.tcap_certificate.specs.declared.certificate.Expiry.{Expiry}
use Rattle.tcap_certificate.specs.declared.certificate.Fate.{Fate}
use Rattle.tcap_certificate.specs.declared.certificate.Fate.TheVariants.{Gap, Lost, By}
use Rattle.tcap_check.specs.declared.checker.Report.{Report}
use Rattle.tcap_certificate.specs.declared.fault.CheckFault.{CheckFault}
use Rattle.tcap_model.specs.declared.reason.Reason.{Reason}
use Rattle.tcap_model.specs.declared.reason.Reason.TheVariants as reasons
use Rattle.tcap_model.specs.World.{Item, Sent, World, end_at}
use Rattle.tcap_model.specs.Run.{BothKeepRules, Event, IsLawful, IsLawfulFor, IsRunOf, Runs, Sends, Replies, Loses, Expires, Closes, Quiet, Tells}
use Rattle.tcap_certificate.specs.Certificate.{Certificate}
use Rattle.tcap_model.specs.Entries.{AreItems, IsItem, count_components, item_of}
use Rattle.tcap_certificate.specs.DescribedRun.{Follows, FollowsFrom, closing_event, expiry_event, without_losses}
use Rattle.tcap_check.specs.CheckerMeaning.{CheckerState, HasTaken, taken}
use Rattle.tcap_certificate.specs.Replay.{Replay, fate_fits, fault_at, gap_by, is_received_from, is_judged, is_later, replayed_by, time_of}
use Rattle.tcap_certificate.specs.LossCounts.{IsLawfulUnheard}

-- ---- a run

-- The entries are items, and these events are a run of two ends that keep the rules. The run sends the items and
-- follows the certificate, and its length is bounded.
pub record IsGiven (table : Table) (c : Certificate) (entries : List Entry) (events : List Event) : Type 0 where
  pub items : List Item
  pub are : AreItems entries items
  pub run : IsRunOf items table events
  pub keeps : BothKeepRules events
  pub follows : Follows c items events
  pub bound : length events ≤ 2 * length entries + count_components items + length c.expire + length c.close

-- ---- prompt runs

-- whether the next event sends something or is a quiet mark, or no event is left
abbrev pub is_over_or_sends : List Event → Bool
is_over_or_sends [] = true
is_over_or_sends (Sends side message ∷ events) = true
is_over_or_sends (Replies side number ∷ events) = true
is_over_or_sends (Quiet ∷ events) = true
is_over_or_sends (Tells side message ∷ events) = true
is_over_or_sends (event ∷ events) = false

-- Each message, the last one too, leaves its channel before the next is sent. With no loss and no provider's reply,
-- each message is received.
abbrev pub DeliversAtOnce : Table → List Event → Type 0
DeliversAtOnce table events = (before behind : List Event) (w : World) → events ≡ before ++ behind
    → is_over_or_sends behind ≡ true → Runs table before w
    → (w.from_a ≡ []) × (w.from_b ≡ [])

-- The event is visible: no loss, expiry or closing, and no message of an end that keeps no rules.
abbrev pub IsVisible : Event → Type 0
IsVisible (Loses side number) = ⊥
IsVisible (Expires side name id) = ⊥
IsVisible (Closes side name) = ⊥
IsVisible (Tells side message) = ⊥
IsVisible _ = Unit {0}

-- ---- implied expiries

-- This invoke ID is in use by an own invocation on this half.
abbrev pub IsInUse : End → HalfName → ℤ → Type 0
IsInUse e name id =
    (kept : KeyedHalf) × (own : OwnInvocation) × (named e name ≡ Some kept) × (own_invocation kept.half id ≡ Some own)

-- ---- reasons

-- The entry with this number is this item.
abbrev pub IsAt : List Entry → ℕ → Item → Type 0
IsAt entries number item = (entry : Entry) × (slice_get entries number ≡ Some entry) × IsItem entry item

-- The entry does not come before the gap, or the gap comes after the end of the record. `count` is the count of fates.
abbrev pub IsOutside : ℕ → ℕ → ℕ → Type 0
IsOutside count entry gap = (gap ≤ entry) ⊎ (count < gap)

-- A closing is out of range. Or it is of a judged end and, after the items before its gap, it names no Begin, or a
-- quiet mark comes between.
abbrev pub IsNoClosing : Option Side → ℕ → List Entry → Closing → Type 0
IsNoClosing judged count entries x = IsOutside count x.entry x.gap
    ⊎ ((items : List Item) × AreItems (take x.gap entries) items × (is_judged judged x.side ≡ true)
    × (closing_event items x ≡ None))

-- An expiry is out of range. Or it is of a judged end and, after the items before its gap, it names no Invoke in a
-- Begin or Continue of its end, or a quiet mark comes between.
abbrev pub IsNoExpiry : Option Side → ℕ → List Entry → Expiry → Type 0
IsNoExpiry judged count entries x = IsOutside count x.entry x.gap
    ⊎ ((items : List Item) × AreItems (take x.gap entries) items × (is_judged judged x.side ≡ true)
    × (expiry_event items x ≡ None))

-- A fate is out of range, or it is the fate of a quiet mark and is not the next gap.
abbrev pub IsNoFate : ℕ → List Entry → ℕ → Fate → Type 0
IsNoFate count entries number fate = (fate_fits count number fate ≡ false)
    ⊎ (IsAt entries number Item.Quiet × (fate ≡ Gap (number + 1) → ⊥))

-- The fate of this entry is out of range, or a listed event that names this entry is.
abbrev pub IsOutOfRange : Option Side → Certificate → List Entry → ℕ → Type 0
IsOutOfRange judged c entries number =
    ((fate : Fate) × (slice_get c.fates number ≡ Some fate) × IsNoFate (length c.fates) entries number fate)
    ⊎ ((x : Closing) × Contains c.close x × (x.entry ≡ number) × IsNoClosing judged (length c.fates) entries x)
    ⊎ ((x : Expiry) × Contains c.expire x × (x.entry ≡ number) × IsNoExpiry judged (length c.fates) entries x)

-- An earlier message of the same end has a later time. This is not checked of an end that is judged alone, since nobody
-- receives its messages.
abbrev pub IsBeforeEarlier : Option Side → Certificate → List Entry → ℕ → Type 0
IsBeforeEarlier judged c entries number =
    (side : Side) × (message before : Message) × (earlier : ℕ) × (fate later : Fate)
    × (is_received_from judged side ≡ true)
    × IsAt entries number (Sent side message) × IsAt entries earlier (Sent side before) × (earlier < number)
    × (slice_get c.fates number ≡ Some fate) × (slice_get c.fates earlier ≡ Some later)
    × (is_later (time_of fate) (time_of later) ≡ true)

-- A message to a judged end, from before this entry, is delivered after this entry, or is taken by this entry or a
-- later one.
abbrev pub IsPending : Option Side → Certificate → List Entry → ℕ → Type 0
IsPending judged c entries number =
    (side : Side) × (message : Message) × (earlier : ℕ) × (fate : Fate) × (is_received_from judged side ≡ true)
    × IsAt entries earlier (Sent side message) × (earlier < number) × (slice_get c.fates earlier ≡ Some fate)
    × by_fate fate
  where
    by_fate : Fate → Type 0
    by_fate (Gap gap) = number < gap
    by_fate (By reply) = number ≤ reply
    by_fate Lost = ⊥

-- If both ends are judged: some run that sends the entries before this one, and follows the certificate, leaves a half
-- open. If one end is judged alone: its replay up to the gap before this entry leaves open a half that may not close
-- without a message.
abbrev pub IsStillOpen : Option Side → Table → Certificate → List Entry → ℕ → Type 0
IsStillOpen (Some judged) table c entries number =
    (before behind : Replay) × (taken (Some judged) table c (map item_of (take number entries)) ≡ Ok before)
    × (gap_by (Some judged) table c before ≡ Ok behind)
    × (reason : EndFault) × (quiet_after_closings table (end_at judged behind.world) ≡ Err reason)
IsStillOpen None table c entries number =
    (side : Side) × (events : List Event) × (w : World) × Runs table events w × AreItems (take number entries) w.sent
    × FollowsFrom c w.sent 0 w.sent (without_losses events)
    × (quiet (end_at side w) ≡ Err faults.StillOpen)

-- An entry has a message and no end, or a quiet mark and an end.
abbrev pub IsNoItem : Entry → Type 0
IsNoItem entry = ((message : Message) × (entry.side ≡ None) × (entry.body ≡ Good message))
    ⊎ ((side : Side) × (entry.side ≡ Some side) × (entry.body ≡ QuietMark))

-- What the refusal of this entry for this reason shows of the certificate and the entries. For reasons 64, 65 and 66 it
-- shows nothing.
abbrev pub IsReason : Option Side → Table → Certificate → List Entry → ℕ → Reason → Type 0
IsReason judged table c entries number reasons.FateCount =
    ((number < length entries) × (slice_get c.fates number ≡ None))
    ⊎ ((number ≡ length entries) × (number < length c.fates))
IsReason judged table c entries number reasons.FateRange = IsOutOfRange judged c entries number
IsReason judged table c entries number reasons.OutOfOrder = IsBeforeEarlier judged c entries number
IsReason judged table c entries number reasons.NotQuiet =
    IsAt entries number Item.Quiet × (IsPending judged c entries number ⊎ IsStillOpen judged table c entries number)
IsReason judged table c entries number (reasons.BadMessage fault) =
    (entry : Entry) × (slice_get entries number ≡ Some entry) × (entry.body ≡ Bad fault)
IsReason judged table c entries number reasons.NoItem =
    (entry : Entry) × (slice_get entries number ≡ Some entry) × IsNoItem entry
IsReason judged table c entries number reasons.CertificateShape = ⊥
IsReason judged table c entries number reasons.Memory = ⊥
IsReason judged table c entries number reason = Unit {0}

-- what a fault shows of the certificate and the entries
abbrev pub ShowsReason : Option Side → Table → Certificate → List Entry → CheckFault → Type 0
ShowsReason judged table c entries fault = IsReason judged table c entries fault.entry fault.reason

-- These entries are refused with this fault no matter which entries come after them, and the certificate and the
-- entries show the reason, unless it is 64, 65 or 66.
abbrev pub IsRefused : Option Side → Table → Certificate → List Entry → CheckFault → Type 0
IsRefused judged table c entries fault = (more : List Entry)
    → (replayed_by judged table c (entries ++ more) ≡ Err fault) × ShowsReason judged table c (entries ++ more) fault

-- If a checker refuses the next entry, and memory did not run out, the entries are refused no matter which come after.
abbrev pub RefusesForGood : CheckerState → Result Item Reason → Result (Unit {0}) CheckFault → Type 0
RefusesForGood s next answer =
    (entries : List Entry) (entry : Entry) (fault : CheckFault) → HasTaken s (map item_of entries)
    → item_of entry ≡ next → answer ≡ Err fault → fault ≢ fault_at reasons.Memory 0
    → IsRefused s.judged s.table s.certificate (entries ++ entry ∷ []) fault

-- ---- who may have sent items

-- Two ends that keep the rules may have sent these items, in this order. Or the end that is judged alone may have sent
-- its part of them.
abbrev pub MayBeSent : Option Side → List Item → Table → Type 0
MayBeSent None items table = (moves : ℕ) × IsLawful items table moves
MayBeSent (Some side) items table = IsLawfulFor side items table

-- ---- reports

-- The report is true of these items. Two ends that keep the rules may have sent them in this many steps. Or the end
-- that is judged alone may have sent its part, in a run that loses this many of its peer's messages.
abbrev pub SaysLawful : Option Side → List Item → Table → Report → Type 0
SaysLawful None items table report = IsLawful items table report.moves
SaysLawful (Some judged) items table report = IsLawfulUnheard judged items table report.unheard

-- The counts of a report are bounded. A run of both ends has at most two steps for each item, one for each component
-- and one for each listed event. A run of one end has at most three steps for each item and one for each component, and
-- at most as many unheard messages as items.
abbrev pub IsBounded : Option Side → Certificate → List Item → Report → Type 0
IsBounded None c items report =
    report.moves ≤ 2 * length items + count_components items + length c.expire + length c.close
IsBounded (Some judged) c items report =
    (report.moves ≤ 3 * length items + count_components items) × (report.unheard ≤ length items)
