-- What do the steps of `Replay` of tcap_certificate do to what a checker keeps, if both ends are judged or only one? An
-- end that is judged alone loses its own messages at once, so only its peer's messages wait.
use Rattle.std.specs.Prelude.{ℕ, ◌+◌, Bool, false, ◌≡◌, ◌≢◌, List, [], ◌∷◌, drop, filter, map, slice_get, length, Option, Some, None, Result, Ok, Err, ◌==◌, cond}
use Rattle.tcap_msg.specs.declared.message.Message.{Message}
use Rattle.tcap_record.specs.declared.entry.End.{End as Side}
use Rattle.tcap_end.specs.declared.fault.EndFault.{EndFault}
use Rattle.tcap_end.specs.Table.{Table}
use Rattle.tcap_end.specs.End.{End}
use Rattle.tcap_end.specs.declared.half.HalfName.{HalfName}
use Rattle.tcap_end.specs.HiddenSteps.{close, open_halves, quiet_after_closings}
use Rattle.tcap_end.specs.Message.{receive}
use Rattle.tcap_end.specs.Step.{needs, ◌>>◌, ◌>>=◌}
use Rattle.tcap_certificate.specs.declared.certificate.Fate.{Fate}
use Rattle.tcap_certificate.specs.declared.certificate.Fate.TheVariants.{Lost}
use Rattle.tcap_certificate.specs.declared.fault.CheckFault.{CheckFault}
use Rattle.tcap_model.specs.declared.reason.Reason.TheVariants.{BadReply, Memory, NotQuiet}
use Rattle.tcap_check.specs.declared.outline.Outline.{Outline}
use Rattle.tcap_check.specs.declared.outline.Outline.TheVariants as outlines
use Rattle.tcap_check.specs.declared.progress.Progress.{Progress}
use Rattle.tcap_check.specs.declared.progress.Waiting.{Waiting}
use Rattle.tcap_record.specs.Ends.{other}
use Rattle.tcap_model.specs.World.{is_side}
use Rattle.tcap_model.specs.Run.{Closes, Receives, Tells, only_if}
use Rattle.tcap_certificate.specs.Certificate.{Certificate}
pub use Rattle.tcap_certificate.specs.Replay.{is_received_from, is_judged}
use Rattle.tcap_certificate.specs.Replay.{fault_at, is_nothing, refused, due_in}
use Rattle.tcap_check.specs.ListedSteps.{listed_for}
use Rattle.tcap_check.specs.Progress.{all_kept, discard_listed, end_moved, front_lost, last_lost, lost_counted, map_ok, message_kept, moved, quiet_kept, side_at, sent_by, with_side_end, with_steps, with_waiting}

-- ---- who is judged

-- the sender of an entry, if it is a message to a judged end
abbrev pub received_sender : Option Side → Option Outline → Option Side
received_sender judged (Some (outlines.Sent sender kept)) = only_if (is_received_from judged sender) (Some sender)
received_sender judged _ = None

-- whether an entry is a message of this end
abbrev pub is_sent_by_end : Side → Option Outline → Bool
is_sent_by_end side (Some (outlines.Sent sender kept)) = is_side side sender
is_sent_by_end side _ = false

-- the entries among these that this end sent
abbrev pub sent_among : Side → List Outline → List ℕ → List ℕ
sent_among side entries numbers = filter (λ n. is_sent_by_end side (slice_get entries n)) numbers

-- ---- a gap

-- The progress after an end receives a message with this result. If the end cannot receive the message, this is an
-- error if both ends are judged, and a discard if the end is judged alone.
abbrev pub received_or_not : Option Side → Side → ℕ → Progress → Result End EndFault → Result Progress CheckFault
received_or_not judged side number p (Ok e) = Ok (moved (Receives side number) (with_side_end side e p))
received_or_not None side number p (Err reason) = refused BadReply number
received_or_not (Some judged) side number p (Err reason) =
    Ok (lost_counted (Some judged) (other side) (discard_listed (other side) number reason p))

-- the end's result of receiving a kept message; a message that will be lost is an error
abbrev pub message_delivered : Table → ℕ → Option Message → End → Result (Result End EndFault) CheckFault
message_delivered table number None e = refused BadReply number
message_delivered table number (Some message) e = Ok (receive table e message)

-- the end's result of receiving the first of these messages, which must have this number
abbrev pub first_delivered : Table → ℕ → List Waiting → End → Result (Result End EndFault) CheckFault
first_delivered table number [] e = refused BadReply number
first_delivered table number (first ∷ more) e =
    needs (first.number == number) (fault_at BadReply number) >> message_delivered table number first.message e

-- A call returns None and leaves the end after this step, or returns the reason why the end refuses the message and
-- leaves the end unchanged. Its error is that of the step, unless memory ran out.
abbrev pub DeliversMessage : End → Result (Result End EndFault) CheckFault → Result (Option EndFault) CheckFault → End
    → Type 0
DeliversMessage before step (Ok None) left = step ≡ Ok (Ok left)
DeliversMessage before step (Ok (Some reason)) left = (step ≡ Ok (Err reason)) × (left ≡ before)
DeliversMessage before step (Err fault) left = fault ≢ fault_at Memory 0 → step ≡ Err fault

-- the progress after the first of these messages leaves its channel and the end receives it
abbrev pub first_received : Option Side → Table → Side → ℕ → List Waiting → Progress → Result Progress CheckFault
first_received judged table sender number messages p =
    first_delivered table number messages (side_at (other sender) p).end
    >>= received_or_not judged (other sender) number (with_waiting sender (drop 1 messages) p)

-- the progress after a judged end receives the message with this number, and the losses before it
abbrev pub message_received : Option Side → Table → Side → ℕ → Progress → Result Progress CheckFault
message_received judged table sender number p =
    let before = front_lost judged sender p in
    first_received judged table sender number (side_at sender before).waiting before

-- the progress after a delivery; if there is no sender, nothing is delivered
abbrev pub delivery_kept : Option Side → Table → ℕ → Option Side → Progress → Result Progress CheckFault
delivery_kept judged table number None p = Ok p
delivery_kept judged table number (Some sender) p = message_received judged table sender number p

-- the progress after the deliveries of these entries, in order
abbrev pub deliveries_kept : Option Side → Table → List Outline → List ℕ → Progress → Result Progress CheckFault
deliveries_kept judged table entries [] p = Ok p
deliveries_kept judged table entries (number ∷ numbers) p =
    delivery_kept judged table number (received_sender judged (slice_get entries number)) p
    >>= deliveries_kept judged table entries numbers

-- the progress after the gap before the next entry: its listed events, then its deliveries
abbrev pub gap_kept : Option Side → Table → Certificate → List Outline → ℕ → Progress → Result Progress CheckFault
gap_kept judged table c entries since p =
    all_kept table entries since (listed_for judged c (length entries)) p
    >>= deliveries_kept judged table entries (due_in (length entries) 0 c.fates)

-- ---- a message

-- the fate of a message from a judged end: a loss if the end is judged alone
abbrev pub own_fate : Option Side → Fate → Fate
own_fate None fate = fate
own_fate (Some judged) fate = Lost

-- the progress after an end that is judged alone loses what it just sent
abbrev pub sent_lost : Option Side → Progress → Progress
sent_lost None p = p
sent_lost (Some judged) p = front_lost (Some judged) judged p

-- the progress after a judged end, or its provider, sends a message
abbrev pub own_taken : Option Side → Table → Side → Fate → ℕ → Message → List ℕ → Progress → Result Progress CheckFault
own_taken judged table side fate number message takes p =
    map_ok (sent_lost judged) (message_kept judged table side (own_fate judged fate) number message takes p)

-- The progress after the peer of an end that is judged alone sends a message. The message must not take another.
abbrev pub peer_message_taken : Side → Fate → ℕ → Message → List ℕ → Progress → Result Progress CheckFault
peer_message_taken side fate number message takes p =
    needs (is_nothing takes) (fault_at BadReply number) >> Ok (sent_by (Tells side message) side fate number message p)

-- the progress after a message with this number and fate, which takes these messages
abbrev pub message_taken : Option Side → Table → Side → Fate → ℕ → Message → List ℕ → Progress
    → Result Progress CheckFault
message_taken judged table side fate number message takes p =
    cond (is_judged judged side) (own_taken judged table side fate number message takes p)
    (peer_message_taken side fate number message takes p)

-- ---- a quiet mark

-- the progress with this end, and one more step for each half that was open
abbrev pub quieted : Side → End → Progress → Progress
quieted side e p = record (with_side_end side e p) { moves = p.moves + length (open_halves (side_at side p).end) }

-- the progress after all open halves of an end close with this result, or the refusal of the mark
abbrev pub closed_or_not : Side → ℕ → Progress → Result End EndFault → Result Progress CheckFault
closed_or_not side number p (Ok e) = Ok (quieted side e p)
closed_or_not side number p (Err reason) = refused NotQuiet number

-- the progress after all open halves of an end close without a message, which leaves it quiet
abbrev pub halves_quieted : Side → Table → ℕ → Progress → Result Progress CheckFault
halves_quieted side table number p = closed_or_not side number p (quiet_after_closings table (side_at side p).end)

-- the progress after the halves of an end that is judged alone close, with the closings listed as steps
abbrev pub halves_closed : Option Side → Table → ℕ → Progress → Result Progress CheckFault
halves_closed None table number p = Ok p
halves_closed (Some judged) table number p =
    map_ok (with_steps (map (Closes judged) (open_halves (side_at judged p).end)))
    (halves_quieted judged table number p)

-- the progress after these halves of an end close, one by one, before the mark with this number
abbrev pub halves_shut : Side → Table → ℕ → List HalfName → Progress → Result Progress CheckFault
halves_shut side table number [] p = Ok p
halves_shut side table number (name ∷ more) p =
    end_moved side (Closes side name) (fault_at NotQuiet number) p (close table (side_at side p).end name)
    >>= halves_shut side table number more

-- the progress after a quiet mark, if this end is judged alone: its open halves close, messages are lost, and all is
-- quiet
abbrev pub alone_marked : Side → Table → ℕ → Progress → Result Progress CheckFault
alone_marked side table number p =
    halves_shut side table number (open_halves (side_at side p).end) p
    >>= λ closed. quiet_kept number (last_lost (Some side) closed)

-- the progress after a quiet mark, which takes no message: after the closings and losses before it, all is quiet
abbrev pub mark_taken : Option Side → Table → ℕ → List ℕ → Progress → Result Progress CheckFault
mark_taken judged table number takes p =
    needs (is_nothing takes) (fault_at NotQuiet number)
    >> halves_closed judged table number p
    >>= λ closed. quiet_kept number (last_lost judged closed)
