-- Which events and discards does a list of steps report?
use Rattle.std.specs.Prelude.{◌≡◌, ◌⊎◌, ℕ, Bool, true, false, Contains, List, [], ◌∷◌, ◌++◌, filter_map, map, slice_get, Option, Some, None, Err}
use Rattle.std.specs.List.{AllByRecursion}
use Rattle.tcap_record.specs.declared.entry.End.{End as Side}
use Rattle.tcap_record.specs.Ends.{other}
use Rattle.tcap_end.specs.declared.fault.EndFault.{EndFault}
use Rattle.tcap_end.specs.Table.{Table}
use Rattle.tcap_end.specs.Message.{receive}
use Rattle.tcap_model.specs.World.{MessageInTransit, World, channel_from, end_at}
use Rattle.tcap_model.specs.Run.{Event, Sends, Receives, Replies, Loses, Expires, Closes, Quiet, Tells, Runs}
use Rattle.tcap_certificate.specs.declared.certificate.Fate.TheVariants.{Gap, Lost}
use Rattle.tcap_check.specs.declared.step.Step.{Step}
use Rattle.tcap_check.specs.declared.step.Step.TheVariants as steps
use Rattle.tcap_certificate.specs.Certificate.{Certificate}

-- the event of a step; a discard is the loss of the message
abbrev pub event_of : Step → Event
event_of (steps.Sends side message) = Sends side message
event_of (steps.Tells side message) = Tells side message
event_of (steps.Receives side number) = Receives side number
event_of (steps.Replies side number) = Replies side number
event_of (steps.Loses side number) = Loses side number
event_of (steps.Discards side number reason) = Loses side number
event_of (steps.Expires side name id) = Expires side name id
event_of (steps.Closes side name) = Closes side name
event_of steps.Quiet = Quiet

-- the events of these steps
abbrev pub events_of : List Step → List Event
events_of list = map event_of list

-- the number of the message that a step discards, with the reason
abbrev pub discard_of : Step → Option (ℕ × EndFault)
discard_of (steps.Discards side number reason) = Some (number, reason)
discard_of step = None

-- the discards among these steps
abbrev pub discards_of : List Step → List (ℕ × EndFault)
discards_of list = filter_map discard_of list

-- The events of a run, and the number of each discarded message with the reason.
pub record ListedRun : Type 0 where
  pub events : List Event
  pub discards : List (ℕ × EndFault)

-- the report before the first step
abbrev pub no_steps : ListedRun
no_steps = record { events = []; discards = [] }

-- the events and discards of a list of steps
abbrev pub listed_run_of : List Step → ListedRun
listed_run_of list = record { events = events_of list; discards = discards_of list }

-- the report with more events; none is a discard
abbrev pub with_events : List Event → ListedRun → ListedRun
with_events events report = record report { events = report.events ++ events }

-- the report with its last event marked as the discard of this message, for this reason
abbrev pub with_one_discard : ℕ → EndFault → ListedRun → ListedRun
with_one_discard number reason report = record report { discards = report.discards ++ (number, reason) ∷ [] }

-- the report, if steps are listed
abbrev pub listed_run_if : Bool → List Event → List (ℕ × EndFault) → Option ListedRun
listed_run_if true events discards = Some (record { events = events; discards = discards })
listed_run_if false events discards = None

-- ---- discards

-- Whether the message with this number may be discarded. Nothing is discarded in a run of both ends. If one end is
-- judged alone, only a message whose fate is a gap may be discarded.
abbrev pub MayBeDiscarded : Option Side → Certificate → ℕ → Type 0
MayBeDiscarded None c number = ⊥
MayBeDiscarded (Some side) c number = (gap : ℕ) × (slice_get c.fates number ≡ Some (Gap gap))

-- Each of these discards is allowed.
abbrev pub MayAllBeDiscarded : Option Side → Certificate → List (ℕ × EndFault) → Type 0
MayAllBeDiscarded judged c discards = AllByRecursion (λ x. MayBeDiscarded judged c x.0) discards

-- These events lose the peer's message with this number when it is the oldest on its way to this end. The end cannot
-- receive the message then, for this reason.
pub record IsDiscarded (side : Side) (table : Table) (events : List Event) (number : ℕ) (reason : EndFault) : Type
    0 where
  pub before : List Event
  pub behind : List Event
  pub world : World
  pub first : MessageInTransit
  pub left : List MessageInTransit
  pub events_are : events ≡ before ++ Loses (other side) number ∷ behind
  pub leads : Runs table before world
  pub channel : channel_from (other side) world ≡ first ∷ left
  pub number_is : first.number ≡ number
  pub refused : receive table (end_at side world) first.message ≡ Err reason

-- The fate of this message is a loss, or the message is among the discards.
abbrev pub IsReportedLoss : Certificate → List (ℕ × EndFault) → ℕ → Type 0
IsReportedLoss c discards number =
    (slice_get c.fates number ≡ Some Lost) ⊎ ((reason : EndFault) × Contains discards (number, reason))
