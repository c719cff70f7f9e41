-- How far does a refused replay go? It makes the steps of the gap before the next entry, and those before this entry is
-- sent, up to the first step that cannot happen. The losses before a message happen even if the message cannot be
-- received or answered.
use Rattle.std.specs.Prelude.{ℕ, ◌+◌, List, [], ◌∷◌, length, not, slice_get, Option, Some, None, Result, Ok, Err, ◌==◌, ◌||◌, cond}
use Rattle.tcap_msg.specs.declared.message.Message.{Message}
use Rattle.tcap_record.specs.declared.entry.End.{End as Side}
use Rattle.tcap_record.specs.Ends.{other}
use Rattle.tcap_end.specs.declared.half.HalfName.{HalfName}
use Rattle.tcap_end.specs.HiddenSteps.{open_halves}
use Rattle.tcap_end.specs.Table.{Table}
use Rattle.tcap_model.specs.declared.reason.Reason.{Reason}
use Rattle.tcap_model.specs.Run.{Event, Sends, Replies}
use Rattle.tcap_model.specs.World.{Item, Sent, end_at}
use Rattle.tcap_certificate.specs.declared.certificate.Fate.{Fate}
use Rattle.tcap_certificate.specs.declared.certificate.Fate.TheVariants.{Gap}
use Rattle.tcap_certificate.specs.Certificate.{Certificate}
use Rattle.tcap_certificate.specs.DescribedRun.{invoking_half, sending_by}
use Rattle.tcap_certificate.specs.Replay.{Replay, closed_at_mark, delivery_by, gap_by, implied_over, is_due, is_gap, is_judged, is_nothing, is_overtaking, lost_from_front, lost_last, next_entry, tied}
use Rattle.tcap_check.specs.declared.listed_steps.ListedStep.{ListedStep}
use Rattle.tcap_check.specs.ListedSteps.{all_replayed, listed_for, listed_replayed}
use Rattle.tcap_check.specs.CheckerMeaning.{is_alone}

-- the value after a step and what follows it, or this value if the step is refused
abbrev pub behind_or : {A F : Type 0} → Result A F → A → (A → A) → A
behind_or (Ok next) left on = on next
behind_or (Err fault) left on = left

-- the value after these steps, in order, up to the first that is refused
abbrev pub as_far : {X A F : Type 0} → (X → A → Result A F) → List X → A → A
as_far step [] a = a
as_far step (x ∷ more) a = behind_or (step x a) a (as_far step more)

-- ---- a gap

-- the replay after the losses before a message, if the message is due in the gap
abbrev pub losses_before : Option Side → Certificate → ℕ → Fate → Item → Replay → Replay
losses_before judged c gap (Gap g) (Sent sender message) r =
    cond (is_due judged gap g sender) (lost_from_front c sender r) r
losses_before judged c gap _ _ r = r

-- the replay after the deliveries of a gap, up to the first that cannot happen, with the losses before that one
abbrev pub deliveries_so_far : Option Side → Table → Certificate → ℕ → ℕ → List Fate → List Item → Replay → Replay
deliveries_so_far judged table c gap number (fate ∷ fates) (item ∷ items) r =
    behind_or (delivery_by judged table c gap number fate item r) (losses_before judged c gap fate item r)
    (deliveries_so_far judged table c gap (number + 1) fates items)
deliveries_so_far judged table c gap number _ _ r = r

-- the replay after these listed events, up to the first that cannot happen
abbrev pub listed_so_far : Table → Certificate → List ListedStep → Replay → Replay
listed_so_far table c = as_far (listed_replayed table c)

-- the replay after the gap before the next entry: its closings, then its expiries, then its deliveries
abbrev pub gap_so_far : Option Side → Table → Certificate → Replay → Replay
gap_so_far judged table c r =
    let listed : List ListedStep = listed_for judged c (next_entry r) in
    behind_or (all_replayed table c listed r) (listed_so_far table c listed r)
    (deliveries_so_far judged table c (next_entry r) 0 c.fates r.world.sent)

-- ---- an entry, after its gap

-- the replay after the expiries that a message implies, or after the losses before the message that a provider answers
abbrev pub message_so_far : Table → Certificate → Side → Message → Option Event → Replay → Replay
message_so_far table c side message (Some (Sends sender sent)) r =
    implied_over table side message (invoking_half message) r
message_so_far table c side message (Some (Replies replier number)) r = lost_from_front c (other side) r
message_so_far table c side message _ r = r

-- The replay before any end sends a message. Nothing happens before a message of a peer that is not judged, since this
-- peer may send anything.
abbrev pub sending_so_far : Option Side → Table → Certificate → Side → Message → Replay → Replay
sending_so_far judged table c side message r = cond (is_judged judged side)
    (message_so_far table c side message (sending_by c (next_entry r) (Sent side message) (tied judged c r)) r) r

-- the replay after these halves close before a quiet mark, up to the first that cannot close
abbrev pub halves_so_far : Table → Side → ℕ → List HalfName → Replay → Replay
halves_so_far table side mark = as_far (λ name. closed_at_mark table side mark (name ∷ []))

-- The replay after the closings and losses before a quiet mark. The open halves close only of an end that is judged
-- alone. Then the lost messages at the front of each channel to a judged end are lost.
abbrev pub quiet_so_far : Option Side → Table → Certificate → Replay → Replay
quiet_so_far None table c r = lost_last None c r
quiet_so_far (Some judged) table c r =
    let halves = open_halves (end_at judged r.world) in
    behind_or (closed_at_mark table judged (next_entry r) halves r) (halves_so_far table judged (next_entry r) halves r)
    (lost_last (Some judged) c)

-- the replay before a quiet mark; nothing happens if the mark takes a message
abbrev pub mark_so_far : Option Side → Table → Certificate → Replay → Replay
mark_so_far judged table c r = cond (is_nothing (tied judged c r)) (quiet_so_far judged table c r) r

-- The replay before the next entry is taken. Nothing happens before a message that overtakes an earlier one, nor before
-- a quiet mark whose fate is not the next gap.
abbrev pub item_so_far : Option Side → Table → Certificate → Fate → Item → Replay → Replay
item_so_far judged table c fate (Sent sender message) r =
    cond (is_alone judged sender || not (is_overtaking sender fate c.fates r.world.sent))
    (behind_or (gap_by judged table c r) (gap_so_far judged table c r) (sending_so_far judged table c sender message)) r
item_so_far judged table c fate Item.Quiet r =
    cond (is_gap (next_entry r + 1) fate)
    (behind_or (gap_by judged table c r) (gap_so_far judged table c r) (mark_so_far judged table c)) r

-- the replay before the next entry, if it has a fate
abbrev pub fated_so_far : Option Side → Table → Certificate → Option Fate → Item → Replay → Replay
fated_so_far judged table c None item r = r
fated_so_far judged table c (Some fate) item r = item_so_far judged table c fate item r

-- the replay before the next of these entries; or, if none is left, after the last gap and the losses after it
abbrev pub next_so_far : Option Side → Table → Certificate → List (Result Item Reason) → Replay → Replay
next_so_far judged table c [] r = cond (next_entry r == length c.fates)
    (behind_or (gap_by judged table c r) (gap_so_far judged table c r) (lost_last judged c)) r
next_so_far judged table c (Err reason ∷ more) r = r
next_so_far judged table c (Ok item ∷ more) r = fated_so_far judged table c (slice_get c.fates (next_entry r)) item r
