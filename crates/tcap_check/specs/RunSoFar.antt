-- What does a replay with listed steps leave, even if an entry is refused? It leaves a run so far.
use Rattle.std.specs.Prelude.{◌≡◌, ◌≢◌, ◌≤◌, ◌<◌, ◌+◌, ◌++◌, ℕ, true, length, drop, map, take, List, Option, None, Result, Ok, Err, Some, IfOk, IfSome, Contains, slice_get}
use Rattle.std.specs.List.{AllByRecursion}
use Rattle.tcap_msg.specs.declared.message.Message.{Message}
use Rattle.tcap_record.specs.declared.entry.End.{End as Side}
use Rattle.tcap_record.specs.declared.entry.End.TheVariants as sides
use Rattle.tcap_record.specs.declared.entry.Entry.{Entry}
use Rattle.tcap_end.specs.declared.fault.EndFault.{EndFault}
use Rattle.tcap_end.specs.End.{End}
use Rattle.tcap_end.specs.Message.{send}
use Rattle.tcap_end.specs.Table.{Table}
use Rattle.tcap_model.specs.declared.reason.Reason.{Reason}
use Rattle.tcap_model.specs.declared.reason.Reason.TheVariants.{Memory, SendRefused}
use Rattle.tcap_model.specs.Entries.{AreItems, item_of}
use Rattle.tcap_model.specs.Run.{Event, Loses, Runs}
use Rattle.tcap_model.specs.World.{Item, Sent}
use Rattle.tcap_certificate.specs.declared.certificate.Fate.TheVariants.{Lost}
use Rattle.tcap_certificate.specs.declared.fault.CheckFault.{CheckFault}
use Rattle.tcap_check.specs.declared.progress.Progress.{Progress}
use Rattle.tcap_check.specs.declared.step.Step.{Step}
use Rattle.tcap_certificate.specs.Certificate.{Certificate}
use Rattle.tcap_check.specs.Progress.{side_at}
use Rattle.tcap_check.specs.CheckerMeaning.{kept_of, map_ok, progress_of, taken}
use Rattle.tcap_check.specs.OneEndRun.{IsGivenTo}
use Rattle.tcap_check.specs.GivenRun.{IsAt}
use Rattle.tcap_check.specs.ReplayInvariants.{kept_in}
use Rattle.tcap_check.specs.PartialReplay.{next_so_far}
use Rattle.tcap_check.specs.declared.replaying.Replaying.{Replaying}
use Rattle.tcap_certificate.specs.Replay.{Replay, discards_by, fault_at, is_received_from, replayed_by}
use Rattle.tcap_check.specs.ReportedSteps.{IsDiscarded, IsReportedLoss, MayAllBeDiscarded, discards_of, events_of, listed_run_of}

-- One end is judged alone and cannot receive the message with this number. These events discard the message for this
-- reason, and its fate is not a loss.
abbrev pub IsDiscardOf : Option Side → Table → Certificate → List Event → ℕ → EndFault → Type 0
IsDiscardOf None table c events number reason = ⊥
IsDiscardOf (Some side) table c events number reason =
    IsDiscarded side table events number reason × (slice_get c.fates number ≢ Some Lost)

-- The discards account for the losses in these events: each discard is one (`IsDiscardOf`), and every other loss of a
-- message to a judged end has a fate that is a loss. If both ends are judged, nothing is discarded.
abbrev pub ExplainsLosses : Option Side → Table → Certificate → List Event → List (ℕ × EndFault) → Type 0
ExplainsLosses judged table c events discards = AllByRecursion (λ x. IsDiscardOf judged table c events x.0 x.1) discards
    × ((sender : Side) (number : ℕ) → is_received_from judged sender ≡ true → Contains events (Loses sender number)
    → IsReportedLoss c discards number)

-- The events of a replay are a run, and its discards account for its losses.
abbrev pub IsRunWithDiscards : Option Side → Table → Certificate → Replay → Type 0
IsRunWithDiscards judged table c r = Runs table r.events r.world × ExplainsLosses judged table c r.events r.discards

-- `x` keeps what is kept of some replay, with its steps listed.
abbrev pub IsListed : Replaying → Type 0
IsListed x = (r : Replay) × (kept_of true x.judged x.certificate.now r ≡ kept_in x)

-- if a call is refused, and memory did not run out
abbrev pub IfRefused : Result (Unit {0}) CheckFault → Type 0 → Type 0
IfRefused (Ok done) P = Unit {0}
IfRefused (Err fault) P = fault ≢ fault_at Memory 0 → P

-- the reason why an end may not send a message, if this is why the entry is refused
abbrev pub refusal_to_send : Reason → Option EndFault
refusal_to_send (SendRefused reason) = Some reason
refusal_to_send reason = None

-- If the call is refused since an end may not send a message, the fault is at this entry, and that end, as it is left,
-- refuses to send the message for the same reason.
abbrev pub ShowsSend : Table → Side → ℕ → Message → Result (Unit {0}) CheckFault → Progress → Type 0
ShowsSend table side number message (Ok done) left = Unit {0}
ShowsSend table side number message (Err fault) left =
    IfSome (refusal_to_send fault.reason)
    (λ reason. (fault.entry ≡ number) × (send table (side_at side left).end message ≡ Err reason))

-- `ShowsSend` for an entry that may be no message. If it is no message, no send is refused.
abbrev pub ShowsItem : Table → ℕ → Result Item Reason → Result (Unit {0}) CheckFault → Progress → Type 0
ShowsItem table number (Ok (Sent side message)) result left = ShowsSend table side number message result left
ShowsItem table number entry (Ok done) left = Unit {0}
ShowsItem table number entry (Err fault) left = refusal_to_send fault.reason ≡ None

-- unless memory ran out in the call
abbrev pub UnlessMemory : Result (Unit {0}) CheckFault → Type 0 → Type 0
UnlessMemory (Ok done) P = P
UnlessMemory (Err fault) P = fault ≢ fault_at Memory 0 → P

-- The replay takes this many of the entries, and refuses the next one, if there is one.
pub record TakesFirst (judged : Option Side) (table : Table) (c : Certificate) (entries : List Entry) (count : ℕ)
    : Type 0 where
  pub within : count ≤ length entries
  pub front : Replay
  pub takes : taken judged table c (map item_of (take count entries)) ≡ Ok front
  pub no_more : count < length entries → (fault : CheckFault)
      × (taken judged table c (map item_of (take (count + 1) entries)) ≡ Err fault)

-- the replay after the entries that it takes, and after the next one up to the first step that cannot happen
abbrev pub stopped_at : Option Side → Table → Certificate → List Entry → ℕ → Replay → Replay
stopped_at judged table c entries count front = next_so_far judged table c (map item_of (drop count entries)) front

-- The progress is what is kept of the replay of these entries, up to the first step that cannot happen.
pub record IsPartialReplay (table : Table) (c : Certificate) (judged : Option Side) (entries : List Entry)
    (p : Progress) : Type 0 where
  pub count : ℕ
  pub goes : TakesFirst judged table c entries count
  pub stands : p ≡ progress_of true judged c (stopped_at judged table c entries count goes.front)

-- ---- what a caller gets

-- the value for this end
abbrev pub of_side : {A : Type 0} → Side → A → A → A
of_side sides.A a b = a
of_side sides.B a b = b

-- If a certificate is refused since an end may not send an entry, that end, as returned, refuses to send the message
-- for the same reason.
abbrev pub IsRefusedThere : Table → List Entry → CheckFault → End → End → Type 0
IsRefusedThere table entries fault a b =
    IfSome (refusal_to_send fault.reason) (λ reason. (side : Side) × (message : Message)
    × IsAt entries fault.entry (Sent side message) × (send table (of_side side a b) message ≡ Err reason))

-- If a call is refused since an end may not send an entry, the kept ends show it (`IsRefusedThere`).
abbrev pub ShowsAmong : Table → List Entry → Result (Unit {0}) CheckFault → Progress → Type 0
ShowsAmong table entries (Ok done) left = Unit {0}
ShowsAmong table entries (Err fault) left = IsRefusedThere table entries fault left.a.end left.b.end

-- the fault, or the run if there is no fault
abbrev pub answered : {A : Type 0} → Option CheckFault → A → Result A CheckFault
answered None run = Ok run
answered (Some fault) run = Err fault

-- The answer is the steps of a run that sends these entries, with its discards, or the first reason why the certificate
-- gives none.
pub record IsAnswered (judged : Option Side) (table : Table) (c : Certificate) (entries : List Entry)
    (answer : Result (List Step) CheckFault) : Type 0 where
  pub given : IfOk answer (λ steps. IsGivenTo judged table c entries (events_of steps))
  pub exact : map_ok events_of answer ≡ replayed_by judged table c entries
  pub discards : map_ok discards_of answer ≡ discards_by judged table c (map item_of entries)
  pub may : IfOk answer (λ steps. MayAllBeDiscarded judged c (discards_of steps))

-- If the replay of these entries ends with this result and lists these steps, then the answer is these steps, or the
-- fault of the result.
abbrev pub EndsListed : Option Side → Table → Certificate → List Entry → Result (Unit {0}) CheckFault → Progress
    → Type 0
EndsListed judged table c entries result p = (steps : List Step) → p.steps ≡ Some (listed_run_of steps)
    → IsAnswered judged table c entries (map_ok (λ done. steps) result)

-- The steps are a run from the empty world, up to the first step that cannot happen. They are the steps of the entries
-- that the replay takes, which come first, and then those before the next entry, or before the end of the record. The
-- run sends exactly the entries that are taken. The discards account for its losses. `a` and `b` are the ends after
-- these steps.
pub record IsSoFar (judged : Option Side) (table : Table) (c : Certificate) (entries : List Entry) (steps : List Step)
    (a b : End) : Type 0 where
  pub count : ℕ
  pub goes : TakesFirst judged table c entries count
  pub left : Replay
  pub left_is : left ≡ stopped_at judged table c entries count goes.front
  pub listed : listed_run_of steps ≡ record { events = left.events; discards = left.discards }
  pub more : List Event
  pub begins : left.events ≡ goes.front.events ++ more
  pub leads : Runs table left.events left.world
  pub sends : AreItems (take count entries) left.world.sent
  pub discards : ExplainsLosses judged table c left.events left.discards
  pub a_is : left.world.a ≡ a
  pub b_is : left.world.b ≡ b
