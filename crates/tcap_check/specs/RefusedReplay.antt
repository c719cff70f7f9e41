-- What does a refused call leave? It leaves the steps that `PartialReplay` gives, computed over what is kept.
use Rattle.std.specs.Prelude.{◌≡◌, ◌≢◌, ℕ, ◌+◌, List, [], ◌∷◌, filter_map, length, not, slice_get, Option, Some, None, Result, Ok, Err, ◌==◌, ◌||◌, cond}
use Rattle.tcap_msg.specs.declared.message.AbortReason.TheVariants.{Cause}
use Rattle.tcap_msg.specs.declared.message.Message.{Message}
use Rattle.tcap_msg.specs.declared.message.Message.TheVariants.{Abort}
use Rattle.tcap_msg.specs.Parts.{components_in}
use Rattle.tcap_record.specs.declared.entry.End.{End as Side}
use Rattle.tcap_record.specs.Ends.{other}
use Rattle.tcap_end.specs.declared.half.HalfName.{HalfName}
use Rattle.tcap_end.specs.HiddenSteps.{close, open_halves}
use Rattle.tcap_end.specs.Table.{Table}
use Rattle.tcap_model.specs.declared.reason.Reason.{Reason}
use Rattle.tcap_model.specs.declared.reason.Reason.TheVariants.{Memory, NotQuiet}
use Rattle.tcap_model.specs.Run.{Closes}
use Rattle.tcap_model.specs.World.{Item, Sent}
use Rattle.tcap_certificate.specs.declared.certificate.Fate.{Fate}
use Rattle.tcap_certificate.specs.declared.fault.CheckFault.{CheckFault}
use Rattle.tcap_certificate.specs.Certificate.{Certificate}
use Rattle.tcap_certificate.specs.DescribedRun.{invoke_id, invoking_half}
use Rattle.tcap_certificate.specs.Replay.{fault_at, is_gap, is_judged, is_nothing, due_in}
use Rattle.tcap_check.specs.declared.listed_steps.ListedStep.{ListedStep}
use Rattle.tcap_check.specs.declared.outline.Outline.{Outline}
use Rattle.tcap_check.specs.declared.progress.Progress.{Progress}
use Rattle.tcap_check.specs.CheckerMeaning.{ReplayState, gap_before, is_alone, tied_now}
use Rattle.tcap_check.specs.ReplaySteps.{delivery_kept, halves_shut, received_sender}
use Rattle.tcap_check.specs.ListedSteps.{listed_for}
use Rattle.tcap_check.specs.Progress.{all_kept, end_moved, front_lost, ids_ended_over, last_lost, listed_kept, overtakes, side_at}
use Rattle.tcap_check.specs.PartialReplay.{as_far, behind_or}

-- A refused call leaves this progress, unless memory ran out.
abbrev pub Leaves : Progress → Result (Unit {0}) CheckFault → Progress → Type 0
Leaves this (Ok done) left = Unit {0}
Leaves this (Err fault) left = fault ≢ fault_at Memory 0 → left ≡ this

-- ---- a gap

-- the progress after these listed events, up to the first that cannot happen
abbrev pub listed_left : Table → List Outline → ℕ → List ListedStep → Progress → Progress
listed_left table entries since = as_far (listed_kept table entries since)

-- the progress after the losses before a delivery, if there is one
abbrev pub delivery_left : Option Side → Option Side → Progress → Progress
delivery_left judged None p = p
delivery_left judged (Some sender) p = front_lost judged sender p

-- the progress after these deliveries, up to the first that cannot happen, with the losses before that one
abbrev pub deliveries_left : Option Side → Table → List Outline → List ℕ → Progress → Progress
deliveries_left judged table entries [] p = p
deliveries_left judged table entries (number ∷ numbers) p =
    behind_or (delivery_kept judged table number (received_sender judged (slice_get entries number)) p)
    (delivery_left judged (received_sender judged (slice_get entries number)) p)
    (deliveries_left judged table entries numbers)

-- the progress after the gap before the next entry, up to the first step that cannot happen
abbrev pub gap_left : Option Side → Table → Certificate → List Outline → ℕ → Progress → Progress
gap_left judged table c entries since p =
    let listed : List ListedStep = listed_for judged c (length entries) in
    behind_or (all_kept table entries since listed p) (listed_left table entries since listed p)
    (deliveries_left judged table entries (due_in (length entries) 0 c.fates))

-- ---- an entry

-- the progress after the expiries that a message implies
abbrev pub implied_left : Table → Side → Message → Progress → Progress
implied_left table side message p =
    ids_ended_over table side (invoking_half message) (filter_map invoke_id (components_in message)) p

-- the progress before a judged end sends a message: the expiries that the message implies, or the losses before the
-- message that a provider's Abort answers
abbrev pub message_left : Option Side → Table → Side → Message → List ℕ → Progress → Progress
message_left judged table side (Abort dtid (Some (Cause cause))) (taken ∷ []) p = front_lost judged (other side) p
message_left judged table side (Abort dtid (Some (Cause cause))) _ p = p
message_left judged table side message [] p = implied_left table side message p
message_left judged table side message (taken ∷ more) p = p

-- the progress before any end sends a message; nothing happens before a message of a peer that is not judged
abbrev pub taken_left : Option Side → Table → Side → Message → List ℕ → Progress → Progress
taken_left judged table side message takes p =
    cond (is_judged judged side) (message_left judged table side message takes p) p

-- the progress after these halves close before a quiet mark, up to the first that cannot close
abbrev pub halves_left : Side → Table → ℕ → List HalfName → Progress → Progress
halves_left side table number =
    as_far (λ name p.
    end_moved side (Closes side name) (fault_at NotQuiet number) p (close table (side_at side p).end name))

-- the progress after the closings and losses before a quiet mark, up to the first closing that cannot happen
abbrev pub quiet_left : Option Side → Table → ℕ → Progress → Progress
quiet_left None table number p = last_lost None p
quiet_left (Some side) table number p =
    behind_or (halves_shut side table number (open_halves (side_at side p).end) p)
    (halves_left side table number (open_halves (side_at side p).end) p) (last_lost (Some side))

-- the progress before a quiet mark, if steps are listed; then the halves close one by one
abbrev pub mark_left : Option Side → Table → ℕ → List ℕ → Progress → Progress
mark_left judged table number takes p = cond (is_nothing takes) (quiet_left judged table number p) p

-- the progress before the next entry is taken: nothing happens if its fate is not allowed; else its gap, then what
-- comes before the entry
abbrev pub item_left : Option Side → Table → Certificate → Fate → Item → ReplayState → Progress
item_left judged table c fate (Sent side message) k =
    cond (is_alone judged side || not (overtakes fate (side_at side k.progress)))
    (behind_or (gap_before judged table c k) (gap_left judged table c k.entries k.since k.progress)
    (taken_left judged table side message (tied_now judged c k))) k.progress
item_left judged table c fate Item.Quiet k =
    cond (is_gap (length k.entries + 1) fate)
    (behind_or (gap_before judged table c k) (gap_left judged table c k.entries k.since k.progress)
    (mark_left judged table (length k.entries) (tied_now judged c k))) k.progress

-- the progress before the next entry, if it has a fate
abbrev pub fated_left : Option Side → Table → Certificate → Option Fate → Item → ReplayState → Progress
fated_left judged table c None item k = k.progress
fated_left judged table c (Some fate) item k = item_left judged table c fate item k

-- the progress before the next entry; octets that are no message change nothing
abbrev pub entry_left : Option Side → Table → Certificate → Result Item Reason → ReplayState → Progress
entry_left judged table c (Ok item) k = fated_left judged table c (slice_get c.fates (length k.entries)) item k
entry_left judged table c (Err reason) k = k.progress

-- the progress after the last gap and the losses after it, up to the first step that cannot happen
abbrev pub end_left : Option Side → Table → Certificate → ReplayState → Progress
end_left judged table c k = cond (length k.entries == length c.fates)
    (behind_or (gap_before judged table c k) (gap_left judged table c k.entries k.since k.progress) (last_lost judged))
    k.progress

-- The steps are listed.
abbrev pub IsListing : Progress → Type 0
IsListing p = p.steps ≡ None → ⊥
