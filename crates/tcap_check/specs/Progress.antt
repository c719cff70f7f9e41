-- What does a checker keep of two ends and two channels, and what does one step of `Replay` of tcap_certificate do to
-- it?
use Rattle.std.specs.Prelude.{◌≡◌, ◌≢◌, ℕ, ℤ, ◌+◌, ◌*◌, Bool, true, false, List, [], ◌∷◌, ◌++◌, ◌≤◌, filter_map, length, Option, Some, None, Result, Ok, Err, ok_or, option_map, ◌==◌, ◌&&◌, nat_lt, cond}
use Rattle.tcap_msg.specs.declared.message.AbortReason.TheVariants.{Cause}
use Rattle.tcap_msg.specs.declared.message.Message.{Message}
use Rattle.tcap_msg.specs.declared.message.Message.TheVariants.{Abort}
use Rattle.tcap_msg.specs.Parts.{components_in}
use Rattle.tcap_record.specs.declared.entry.End.{End as Side}
use Rattle.tcap_record.specs.declared.entry.End.TheVariants as sides
use Rattle.tcap_end.specs.declared.fault.EndFault.{EndFault}
use Rattle.tcap_end.specs.declared.fault.EndFault.TheVariants as faults
use Rattle.tcap_end.specs.declared.half.HalfName.{HalfName}
use Rattle.tcap_end.specs.Table.{Table}
use Rattle.tcap_end.specs.End.{End, nothing, quiet}
use Rattle.tcap_end.specs.HiddenSteps.{close, expire}
use Rattle.tcap_end.specs.Message.{send}
use Rattle.tcap_end.specs.Step.{needs, ◌>>◌, ◌>>=◌}
use Rattle.tcap_certificate.specs.declared.certificate.Closing.{Closing}
use Rattle.tcap_certificate.specs.declared.certificate.Expiry.{Expiry}
use Rattle.tcap_certificate.specs.declared.certificate.Fate.{Fate}
use Rattle.tcap_certificate.specs.declared.certificate.Fate.TheVariants.{Gap, Lost, By}
use Rattle.tcap_certificate.specs.declared.fault.CheckFault.{CheckFault}
use Rattle.tcap_model.specs.declared.reason.Reason.TheVariants.{FateRange, BadReply, SendRefused, HiddenRefused, NotQuiet, Memory}
use Rattle.tcap_check.specs.declared.listed_steps.ListedStep.{ListedStep}
use Rattle.tcap_check.specs.declared.listed_steps.ListedStep.TheVariants as listings
use Rattle.tcap_check.specs.declared.outline.Outline.{Outline}
use Rattle.tcap_check.specs.declared.progress.Progress.{Progress}
use Rattle.tcap_check.specs.declared.progress.SideState.{SideState}
use Rattle.tcap_check.specs.declared.progress.Waiting.{Waiting}
use Rattle.tcap_record.specs.Ends.{other}
use Rattle.tcap_model.specs.Run.{Event, Closes, Expires, Loses, Quiet, Replies, Sends, Tells, may_refuse}
use Rattle.tcap_check.specs.declared.sent_messages.SendKind.{SendKind}
use Rattle.tcap_check.specs.declared.sent_messages.SendKind.TheVariants as ways
use Rattle.tcap_model.specs.World.{is_side}
use Rattle.tcap_certificate.specs.DescribedRun.{invoke_id, invoking_half}
pub use Rattle.tcap_certificate.specs.Replay.{map_ok}
use Rattle.tcap_certificate.specs.Replay.{fault_at, refused}
use Rattle.tcap_check.specs.EntryOutlines.{half_closed, invocation_ended}
use Rattle.tcap_check.specs.ReportedSteps.{ListedRun, with_one_discard, with_events}

-- ---- answers

-- A call returns the result of this step; on Ok it leaves the step's value.
abbrev pub Yields : {A : Type 0} → Result A CheckFault → Result (Unit {0}) CheckFault → A → Type 0
Yields step (Ok done) left = step ≡ Ok left
Yields step (Err fault) left = step ≡ Err fault

-- `Yields`, unless the call ran out of memory
abbrev pub YieldsInMemory : {A : Type 0} → Result A CheckFault → Result (Unit {0}) CheckFault → A → Type 0
YieldsInMemory step (Ok done) left = step ≡ Ok left
YieldsInMemory step (Err fault) left = fault ≢ fault_at Memory 0 → step ≡ Err fault

-- The call fails only if memory runs out.
abbrev pub IsMemory : Result (Unit {0}) CheckFault → Type 0
IsMemory (Ok done) = Unit {0}
IsMemory (Err fault) = fault ≡ fault_at Memory 0

-- ---- an end, and the messages on their way from it

-- what is kept of this end
abbrev pub side_at : Side → Progress → SideState
side_at sides.A p = p.a
side_at sides.B p = p.b

-- the progress in which this is kept of this end
abbrev pub with_side : Side → SideState → Progress → Progress
with_side sides.A state p = record p { a = state }
with_side sides.B state p = record p { b = state }

-- the progress with this state for this end
abbrev pub with_side_end : Side → End → Progress → Progress
with_side_end side e p = with_side side (record (side_at side p) { end = e }) p

-- the progress with these messages on their way from this end
abbrev pub with_waiting : Side → List Waiting → Progress → Progress
with_waiting side messages p = with_side side (record (side_at side p) { waiting = messages }) p

-- an end before the first step
abbrev pub empty_side : SideState
empty_side = record { end = nothing; waiting = []; latest = 0 }

-- two ends before the first step, with this report of their steps
abbrev pub nothing_kept : Option ListedRun → Progress
nothing_kept report = record { a = empty_side; b = empty_side; moves = 0; unheard = 0; steps = report }

-- the progress with these further steps, if steps are listed
abbrev pub with_steps : List Event → Progress → Progress
with_steps events p = record p { steps = option_map (with_events events) p.steps }

-- the progress with one more step
abbrev pub moved : Event → Progress → Progress
moved event p = record (with_steps (event ∷ []) p) { moves = p.moves + 1 }

-- the progress after an end's step with this result, or this fault if the end refuses the step
abbrev pub end_moved : {F : Type 0} → Side → Event → F → Progress → Result End EndFault → Result Progress F
end_moved side event fault p (Ok e) = Ok (moved event (with_side_end side e p))
end_moved side event fault p (Err reason) = Err fault

-- ---- losses

-- The progress with one more loss of a message from this end. A loss counts as a step, and also as unheard if the other
-- end is judged alone. A loss of a message from an end that is judged alone counts as nothing.
abbrev pub lost_counted : Option Side → Side → Progress → Progress
lost_counted None side p = record p { moves = p.moves + 1 }
lost_counted (Some judged) side p =
    cond (is_side judged side) p (record p { moves = p.moves + 1; unheard = p.unheard + 1 })

-- the progress with this loss counted and, if steps are listed, listed
abbrev pub loss_listed : Option Side → Side → ℕ → Progress → Progress
loss_listed judged side number p = lost_counted judged side (with_steps (Loses side number ∷ []) p)

-- the progress with this loss listed as a discard, with its reason
abbrev pub discard_listed : Side → ℕ → EndFault → Progress → Progress
discard_listed side number reason p =
    record p {
      steps = option_map (λ report. with_one_discard number reason
          (with_events (Loses side number ∷ []) report)) p.steps;
    }

-- whether no message is kept, which means that the message will be lost
abbrev pub is_none_kept : Option Message → Bool
is_none_kept None = true
is_none_kept (Some message) = false

-- the number of the first message, if it will be lost
abbrev pub first_lost : List Waiting → Option ℕ
first_lost [] = None
first_lost (first ∷ more) = cond (is_none_kept first.message) (Some first.number) None

-- the progress after the messages that will be lost at the front of this channel are lost
abbrev pub losing_kept : Option Side → Side → List Waiting → Progress → Progress
losing_kept judged side [] p = p
losing_kept judged side (first ∷ more) p =
    cond (is_none_kept first.message) (losing_kept judged side more
    (loss_listed judged side first.number (with_waiting side more p))) p

-- the progress after the messages that will be lost at the front of this end's channel are lost
abbrev pub front_lost : Option Side → Side → Progress → Progress
front_lost judged side p = losing_kept judged side (side_at side p).waiting p

-- the progress after the losses before a quiet mark, or at the end of the record: those of messages to a judged end
abbrev pub last_lost : Option Side → Progress → Progress
last_lost None p = front_lost None sides.B (front_lost None sides.A p)
last_lost (Some judged) p = front_lost (Some judged) (other judged) p

-- the count of these messages that will not be lost
abbrev pub count_kept : List Waiting → ℕ
count_kept [] = 0
count_kept (first ∷ more) = cond (is_none_kept first.message) (count_kept more) (count_kept more + 1)

-- the count of messages on their way
abbrev pub on_way : Progress → ℕ
on_way p = length p.a.waiting + length p.b.waiting

-- the steps so far, and one for each message on its way, which may yet be lost
abbrev pub load : Progress → ℕ
load p = p.moves + on_way p

-- the unheard messages so far, and one for each message on its way
abbrev pub unheard_load : Progress → ℕ
unheard_load p = p.unheard + on_way p

-- The loads grew by at most this many steps and messages.
abbrev pub GrewBy : ℕ → ℕ → Progress → Progress → Type 0
GrewBy steps messages p q = (load q ≤ load p + steps) × (unheard_load q ≤ unheard_load p + messages)

-- The counts of messages on their way and of unheard messages are unchanged.
abbrev pub IsAsMany : Progress → Progress → Type 0
IsAsMany p q = (on_way q ≡ on_way p) × (q.unheard ≡ p.unheard)

-- Neither load grew.
abbrev pub HasNoMore : Progress → Progress → Type 0
HasNoMore p q = (load q ≤ load p) × (unheard_load q ≤ unheard_load p)

-- ---- a gap

-- the progress after this half closes, or the refusal of the closing
abbrev pub half_closes : Table → Closing → HalfName → Progress → Result Progress CheckFault
half_closes table x name p =
    end_moved x.side (Closes x.side name) (fault_at (HiddenRefused faults.CannotClose) x.entry) p
    (close table (side_at x.side p).end name)

-- the progress after a listed closing
abbrev pub closing_kept : Table → List Outline → ℕ → Closing → Progress → Result Progress CheckFault
closing_kept table entries since x p =
    ok_or (half_closed entries since x) (fault_at FateRange x.entry) >>= λ name. half_closes table x name p

-- the progress after this invocation expires, or the refusal of the expiry
abbrev pub invocation_ends : Table → Expiry → HalfName × ℤ → Progress → Result Progress CheckFault
invocation_ends table x invocation p =
    end_moved x.side (Expires x.side invocation.0 invocation.1) (fault_at (HiddenRefused faults.CannotExpire) x.entry) p
    (expire table (side_at x.side p).end invocation.0 invocation.1)

-- the progress after a listed expiry
abbrev pub expiry_kept : Table → List Outline → ℕ → Expiry → Progress → Result Progress CheckFault
expiry_kept table entries since x p =
    ok_or (invocation_ended entries since x) (fault_at FateRange x.entry)
    >>= λ invocation. invocation_ends table x invocation p

-- the progress after a listed event
abbrev pub listed_kept : Table → List Outline → ℕ → ListedStep → Progress → Result Progress CheckFault
listed_kept table entries since (listings.Closes x) p = closing_kept table entries since x p
listed_kept table entries since (listings.Expires x) p = expiry_kept table entries since x p

-- the progress after these listed events, in order
abbrev pub all_kept : Table → List Outline → ℕ → List ListedStep → Progress → Result Progress CheckFault
all_kept table entries since [] p = Ok p
all_kept table entries since (x ∷ more) p = listed_kept table entries since x p >>= all_kept table entries since more

-- ---- a message

-- the time of a fate (`time_of`), or 0 if it has none
abbrev pub time_or_zero : Fate → ℕ
time_or_zero (Gap gap) = 2 * gap
time_or_zero (By reply) = 2 * reply + 1
time_or_zero Lost = 0

-- the greater of two numbers
abbrev pub greater : ℕ → ℕ → ℕ
greater m n = cond (nat_lt m n) n m

-- whether a message with this fate would overtake an earlier message of its end
abbrev pub overtakes : Fate → SideState → Bool
overtakes Lost state = false
overtakes fate state = nat_lt (time_or_zero fate) state.latest

-- the message, unless its fate is a loss
abbrev pub unless_lost : Fate → Message → Option Message
unless_lost Lost message = None
unless_lost fate message = Some message

-- the state of an end after a message with this fate joins its channel
abbrev pub side_with : Fate → ℕ → Message → SideState → SideState
side_with fate number message state = record state {
  waiting = state.waiting ++ (record { number = number; message = unless_lost fate message }) ∷ [];
  latest = greater state.latest (time_or_zero fate);
}

-- the event by which a message is sent
abbrev pub sending : SendKind → Side → Message → Event
sending ways.Sends side message = Sends side message
sending ways.Tells side message = Tells side message
sending (ways.Replies number) side message = Replies side number

-- the progress after this event sends a message
abbrev pub sent_by : Event → Side → Fate → ℕ → Message → Progress → Progress
sent_by event side fate number message p =
    moved event (with_side side (side_with fate number message (side_at side p)) p)

-- the progress after a step with this result, or unchanged if the end refuses the step
abbrev pub or_still : Side → Event → Progress → Result End EndFault → Progress
or_still side event p (Ok e) = moved event (with_side_end side e p)
or_still side event p (Err reason) = p

-- the progress after this invocation expires, if it can
abbrev pub end_tried : Table → Side → HalfName → ℤ → Progress → Progress
end_tried table side name id p = or_still side (Expires side name id) p (expire table (side_at side p).end name id)

-- the progress after these invocations of a half expire, each if it can
abbrev pub ids_ended : Table → Side → HalfName → List ℤ → Progress → Progress
ids_ended table side name [] p = p
ids_ended table side name (id ∷ ids) p =
    ids_ended table side name ids (end_tried table side name id p)

-- the progress after an Invoke's ID expires on this half, if there are an ID and a half, and if it can
abbrev pub invoked_ended : Table → Side → Option HalfName → Option ℤ → Progress → Progress
invoked_ended table side (Some name) (Some id) p = end_tried table side name id p
invoked_ended table side _ _ p = p

-- the progress after these invocations of this half expire, if there is a half
abbrev pub ids_ended_over : Table → Side → Option HalfName → List ℤ → Progress → Progress
ids_ended_over table side None ids p = p
ids_ended_over table side (Some name) ids p = ids_ended table side name ids p

-- the progress after an end sends a message with this result, or the reason why it may not
abbrev pub sent_or_not : Side → Fate → ℕ → Message → Progress → Result End EndFault → Result Progress CheckFault
sent_or_not side fate number message p (Ok e) =
    Ok (sent_by (Sends side message) side fate number message (with_side_end side e p))
sent_or_not side fate number message p (Err reason) = refused (SendRefused reason) number

-- the progress after an end sends a message, and after the expiries that the message implies
abbrev pub send_kept : Table → Side → Fate → ℕ → Message → Progress → Result Progress CheckFault
send_kept table side fate number message p =
    let before = ids_ended_over table side (invoking_half message) (filter_map invoke_id (components_in message)) p in
    sent_or_not side fate number message before (send table (side_at side before).end message)

-- whether the provider of an end may answer a message by this Abort; it never answers a message that will be lost
abbrev pub may_be_answered : End → Option Message → Message → Bool
may_be_answered e None abort = false
may_be_answered e (Some message) abort = may_refuse e message abort

-- whether the first of these messages has number `taken`, and the end's provider may answer it by this Abort
abbrev pub first_may_be_answered : Side → Message → ℕ → List Waiting → Progress → Bool
first_may_be_answered side abort taken [] p = false
first_may_be_answered side abort taken (first ∷ more) p =
    (first.number == taken) && may_be_answered (side_at side p).end first.message abort

-- the progress after the provider of an end answers the first of these messages, which must have number `taken`
abbrev pub first_answered : Side → Fate → ℕ → Message → ℕ → List Waiting → Progress → Result Progress CheckFault
first_answered side fate number abort taken [] p = refused BadReply number
first_answered side fate number abort taken (first ∷ more) p = do
  needs ((first.number == taken) && may_be_answered (side_at side p).end first.message abort) (fault_at BadReply number)
  Ok (sent_by (Replies side taken) side fate number abort (with_waiting (other side) more p))

-- the progress after a provider's answer, and after the losses before it
abbrev pub reply_kept : Option Side → Side → Fate → ℕ → Message → ℕ → Progress → Result Progress CheckFault
reply_kept judged side fate number abort taken p =
    let before = front_lost judged (other side) p in
    first_answered side fate number abort taken (side_at (other side) before).waiting before

-- The progress after a message that takes these messages. A provider's Abort takes exactly one message; any other
-- message takes none.
abbrev pub message_kept : Option Side → Table → Side → Fate → ℕ → Message → List ℕ → Progress
    → Result Progress CheckFault
message_kept judged table side fate number (Abort dtid (Some (Cause cause))) (taken ∷ []) p =
    reply_kept judged side fate number (Abort dtid (Some (Cause cause))) taken p
message_kept judged table side fate number (Abort dtid (Some (Cause cause))) _ p = refused BadReply number
message_kept judged table side fate number message [] p = send_kept table side fate number message p
message_kept judged table side fate number message (taken ∷ more) p = refused BadReply number

-- ---- a quiet mark

-- whether a channel is empty
abbrev pub is_empty : List Waiting → Bool
is_empty [] = true
is_empty (first ∷ more) = false

-- the progress after a quiet mark, if both ends are quiet
abbrev pub both_quiet : ℕ → Progress → Result End EndFault → Result End EndFault → Result Progress CheckFault
both_quiet number p (Ok a) (Ok b) = Ok (moved Quiet (with_side_end sides.B b (with_side_end sides.A a p)))
both_quiet number p _ _ = refused NotQuiet number

-- the progress after a quiet mark: nothing is on its way, and both ends are quiet
abbrev pub quiet_kept : ℕ → Progress → Result Progress CheckFault
quiet_kept number p = do
  needs (is_empty p.a.waiting && is_empty p.b.waiting) (fault_at NotQuiet number)
  both_quiet number p (quiet p.a.end) (quiet p.b.end)
