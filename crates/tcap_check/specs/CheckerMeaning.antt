-- What does a checker implement? It implements the replay of the entries that it took (`Replay` of tcap_certificate),
-- for both ends or for one end alone.
use Rattle.std.specs.Prelude.{◌≡◌, ℕ, ◌+◌, Bool, false, List, [], ◌∷◌, ◌++◌, map, slice_get, length, Option, Some, None, Result, Ok, Err, ok_or, ◌==◌, ◌&&◌, ◌||◌, not, nat_le, cond}
use Rattle.tcap_msg.specs.declared.message.Message.{Message}
use Rattle.tcap_ber.specs.declared.fault.Fault.{Fault}
use Rattle.tcap_record.specs.declared.entry.End.{End as Side}
use Rattle.tcap_record.specs.declared.entry.End.TheVariants as sides
use Rattle.tcap_end.specs.Table.{Table}
use Rattle.tcap_end.specs.Step.{needs, ◌>>◌, ◌>>=◌}
use Rattle.tcap_certificate.specs.declared.certificate.Fate.{Fate}
use Rattle.tcap_certificate.specs.declared.certificate.Fate.TheVariants.{Gap, Lost, By}
use Rattle.tcap_certificate.specs.declared.fault.CheckFault.{CheckFault}
use Rattle.tcap_model.specs.declared.reason.Reason.{Reason}
use Rattle.tcap_model.specs.declared.reason.Reason.TheVariants.{BadMessage, FateCount, FateRange, OutOfOrder}
use Rattle.tcap_check.specs.declared.outline.Outline.{Outline}
use Rattle.tcap_check.specs.declared.progress.Progress.{Progress}
use Rattle.tcap_check.specs.declared.progress.SideState.{SideState}
use Rattle.tcap_check.specs.declared.progress.Waiting.{Waiting}
use Rattle.tcap_check.specs.declared.checker.Report.{Report}
use Rattle.tcap_record.specs.Ends.{other}
use Rattle.tcap_model.specs.Run.{Event}
use Rattle.tcap_model.specs.World.{Item, MessageInTransit, Sent, channel_from, end_at, is_side}
use Rattle.tcap_certificate.specs.Certificate.{Certificate}
use Rattle.tcap_certificate.specs.DescribedRun.{taken_by}
use Rattle.tcap_check.specs.ReplaySteps.{gap_kept, mark_taken, message_taken, sent_among}
use Rattle.tcap_check.specs.EntryOutlines.{is_named, outline_of, outlines_from, since_from}
pub use Rattle.tcap_check.specs.Progress.{map_ok}
use Rattle.tcap_check.specs.Progress.{count_kept, greater, last_lost, overtakes, side_at, time_or_zero}
use Rattle.tcap_certificate.specs.Replay.{Replay, certificate_fits, entry_by, fault_at, gap_by, is_gap, is_received_from, next_entry, nothing_replayed, refused}
use Rattle.tcap_check.specs.ReportedSteps.{listed_run_if}
use Rattle.tcap_certificate.specs.LossCounts.{steps_of, unheard_of}

-- ---- the replay of entries, one by one

-- the replay after one more entry
abbrev pub taken_next : Option Side → Table → Certificate → Result Item Reason → Replay → Result Replay CheckFault
taken_next judged table c entry r =
    ok_or (slice_get c.fates (next_entry r)) (fault_at FateCount (next_entry r))
    >>= λ fate. entry_by judged table c fate entry r

-- the replay after these further entries
abbrev pub taken_from : Option Side → Table → Certificate → List (Result Item Reason) → Replay
    → Result Replay CheckFault
taken_from judged table c [] r = Ok r
taken_from judged table c (entry ∷ entries) r = taken_next judged table c entry r >>= taken_from judged table c entries

-- the replay of these entries from the first on
abbrev pub taken : Option Side → Table → Certificate → List (Result Item Reason) → Result Replay CheckFault
taken judged table c entries = certificate_fits c >> taken_from judged table c entries nothing_replayed

-- the replay after the last gap
abbrev pub ended : Option Side → Table → Certificate → Replay → Result Replay CheckFault
ended judged table c r =
    needs (next_entry r == length c.fates) (fault_at FateCount (next_entry r)) >> gap_by judged table c r

-- ---- what is kept of a replay

-- What a checker keeps: the progress of both ends, an outline of each entry, and the number of the entry after the last
-- quiet mark.
pub record ReplayState : Type 0 where
  pub progress : Progress
  pub entries : List Outline
  pub since : ℕ

-- whether this end is judged alone; then nobody receives its messages
abbrev pub is_alone : Option Side → Side → Bool
is_alone None side = false
is_alone (Some judged) side = is_side judged side

-- the fate of a message from this end: a loss if the end is judged alone
abbrev pub fate_of : Option Side → Side → Option Fate → Option Fate
fate_of judged side fate = cond (is_alone judged side) (Some Lost) fate

-- what is kept of a message on its way; of one that will be lost only its number
abbrev pub kept_by : Option Fate → MessageInTransit → Waiting
kept_by (Some Lost) m = record { number = m.number; message = None }
kept_by fate m = record { number = m.number; message = Some m.message }

-- what is kept of the messages on their way from an end, oldest first
abbrev pub waiting_at : Option Side → Side → List Fate → List MessageInTransit → List Waiting
waiting_at judged side fates channel = map (λ m. kept_by (fate_of judged side (slice_get fates m.number)) m) channel

-- the latest time of a message from this end, or 0; the first of these fates is that of the first item
abbrev pub latest_of : Side → List Fate → List Item → ℕ
latest_of side (fate ∷ fates) (Sent sender message ∷ items) =
    cond (is_side side sender) (greater (time_or_zero fate) (latest_of side fates items)) (latest_of side fates items)
latest_of side (fate ∷ fates) (Item.Quiet ∷ items) = latest_of side fates items
latest_of side _ _ = 0

-- the latest time of a message from this end, or 0 if the end is judged alone
abbrev pub latest_at : Option Side → Side → List Fate → List Item → ℕ
latest_at judged side fates items = cond (is_alone judged side) 0 (latest_of side fates items)

-- what is kept of an end and of the messages on their way from it
abbrev pub side_of : Option Side → Certificate → Side → Replay → SideState
side_of judged c side r = record {
  end = end_at side r.world;
  waiting = waiting_at judged side c.fates (channel_from side r.world);
  latest = latest_at judged side c.fates r.world.sent;
}

-- The report on a run. If both ends are judged, no message is counted as unheard, since the fates list the losses.
abbrev pub reported : Option Side → List Event → Report
reported None events = record { moves = length events; unheard = 0 }
reported (Some judged) events = record { moves = steps_of judged events; unheard = unheard_of judged events }

-- both ends, the messages on their way, the counts, and, if they are listed, the steps
abbrev pub progress_of : Bool → Option Side → Certificate → Replay → Progress
progress_of listed judged c r = record {
  a = side_of judged c sides.A r;
  b = side_of judged c sides.B r;
  moves = (reported judged r.events).moves;
  unheard = (reported judged r.events).unheard;
  steps = listed_run_if listed r.events r.discards;
}

-- what is kept of a replay
abbrev pub kept_of : Bool → Option Side → Certificate → Replay → ReplayState
kept_of listed judged c r = record {
  progress = progress_of listed judged c r;
  entries = outlines_from c 0 r.world.sent;
  since = since_from 0 0 r.world.sent;
}

-- ---- a checker

-- The judged ends, the table, the certificate, and what is kept of the replay, or the first fault: the reason for the
-- refusal, or that memory ran out.
pub record CheckerState : Type 0 where
  pub judged : Option Side
  pub table : Table
  pub certificate : Certificate
  pub so_far : Result ReplayState CheckFault

-- what is kept, or the fault if there is one
abbrev pub so_far_of : Option CheckFault → ReplayState → Result ReplayState CheckFault
so_far_of None k = Ok k
so_far_of (Some fault) k = Err fault

-- the result that a call returns
abbrev pub answer_of : {A : Type 0} → Result A CheckFault → Result (Unit {0}) CheckFault
answer_of (Ok k) = Ok tt
answer_of (Err fault) = Err fault

-- the item for a message from this end, or the reason if its octets are no message
abbrev pub reading : Side → Result Message Fault → Result Item Reason
reading side (Ok message) = Ok (Sent side message)
reading side (Err fault) = Err (BadMessage fault)

-- The checker took these entries: it implements their replay, and lists the steps if `listed` is true.
abbrev pub HasTakenListing : Bool → CheckerState → List (Result Item Reason) → Type 0
HasTakenListing listed checking entries = checking.so_far ≡ map_ok (kept_of listed checking.judged checking.certificate)
    (taken checking.judged checking.table checking.certificate entries)

-- The checker took these entries and lists no steps.
abbrev pub HasTaken : CheckerState → List (Result Item Reason) → Type 0
HasTaken = HasTakenListing false

-- ---- its steps, over what is kept

-- what is kept after one more entry, with this progress
abbrev pub kept_with : Certificate → Item → ReplayState → Progress → ReplayState
kept_with c item k p = record {
  progress = p;
  entries = k.entries ++ outline_of (is_named c (length k.entries)) item ∷ [];
  since = since_from k.since (length k.entries) (item ∷ []);
}

-- the progress after the gap before the next entry
abbrev pub gap_before : Option Side → Table → Certificate → ReplayState → Result Progress CheckFault
gap_before judged table c k = gap_kept judged table c k.entries k.since k.progress

-- the messages that the next entry takes; if one end is judged alone, only its peer's messages count
abbrev pub tied_now : Option Side → Certificate → ReplayState → List ℕ
tied_now None c k = taken_by (length k.entries) 0 c.fates
tied_now (Some judged) c k = sent_among (other judged) k.entries (taken_by (length k.entries) 0 c.fates)

-- the progress after the next entry, with this fate, and the gap before it
abbrev pub item_kept : Option Side → Table → Certificate → Fate → Item → ReplayState → Result Progress CheckFault
item_kept judged table c fate (Sent side message) k =
    needs (is_alone judged side || not (overtakes fate (side_at side k.progress)))
    (fault_at OutOfOrder (length k.entries))
    >> gap_before judged table c k
    >>= message_taken judged table side fate (length k.entries) message (tied_now judged c k)
item_kept judged table c fate Item.Quiet k =
    needs (is_gap (length k.entries + 1) fate) (fault_at FateRange (length k.entries))
    >> gap_before judged table c k
    >>= mark_taken judged table (length k.entries) (tied_now judged c k)

-- what is kept after the next entry, with this fate, if the entry is an item
abbrev pub entry_kept : Option Side → Table → Certificate → Fate → Result Item Reason → ReplayState
    → Result ReplayState CheckFault
entry_kept judged table c fate (Ok item) k = map_ok (kept_with c item k) (item_kept judged table c fate item k)
entry_kept judged table c fate (Err reason) k = refused reason (length k.entries)

-- what is kept after the next entry
abbrev pub kept_next : Option Side → Table → Certificate → Result Item Reason → ReplayState
    → Result ReplayState CheckFault
kept_next judged table c entry k =
    ok_or (slice_get c.fates (length k.entries)) (fault_at FateCount (length k.entries))
    >>= λ fate. entry_kept judged table c fate entry k

-- the progress after the last gap, and after the losses of messages still on their way
abbrev pub kept_ended : Option Side → Table → Certificate → ReplayState → Result Progress CheckFault
kept_ended judged table c k = do
  needs (length k.entries == length c.fates) (fault_at FateCount (length k.entries))
  behind ← gap_before judged table c k
  Ok (last_lost judged behind)

-- the report on this progress
abbrev pub report_of : Progress → Report
report_of p = record { moves = p.moves; unheard = p.unheard }

-- ---- what waits

-- the count of kept messages on their way to a judged end
abbrev pub count_waiting : Option Side → Progress → ℕ
count_waiting None p = count_kept p.a.waiting + count_kept p.b.waiting
count_waiting (Some judged) p = count_kept (side_at (other judged) p).waiting

-- whether a message is delivered in a gap, or taken by an entry, of this number or later
abbrev pub is_ahead : ℕ → Fate → Bool
is_ahead count (Gap gap) = nat_le count gap
is_ahead count (By reply) = nat_le count reply
is_ahead count Lost = false

-- The count of messages, among these entries, that a judged end receives, or its provider answers, after `count`
-- entries. The first of these fates is that of the first entry.
abbrev pub count_ahead : Option Side → ℕ → List Fate → List (Result Item Reason) → ℕ
count_ahead judged count (fate ∷ fates) (Ok (Sent side message) ∷ entries) =
    cond (is_received_from judged side && is_ahead count fate) (count_ahead judged count fates entries + 1)
    (count_ahead judged count fates entries)
count_ahead judged count (fate ∷ fates) (entry ∷ entries) = count_ahead judged count fates entries
count_ahead judged count _ _ = 0
